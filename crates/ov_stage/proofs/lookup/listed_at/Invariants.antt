use Rattle.std.proofs.Common.{◌≡◌, ◌++◌, drop, map}
use Rattle.std.specs.Prelude.{option_to_list}
use Rattle.std.specs.FinMap.{get}
use Rattle.std.specs.List.{flat_map}
use Rattle.ov_rows.specs.Lending.{lent_row}
use Rattle.ov_stage.specs.Staging.{entry_if_found}
use Rattle.ov_stage.proofs.lookup.listed_at.Given as goal

abbrev pub invariant-loop-id : goal.invariant-loop-id
invariant-loop-id l =
    map lent_row l.rows.items ++ flat_map (λ id. option_to_list (entry_if_found id (get l.table id))) (drop l.id-index l.ids) ≡ flat_map (λ id. option_to_list (entry_if_found id (get l.table id))) l.ids
