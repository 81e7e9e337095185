use Rattle.std.proofs.Common.{◌≡◌, drop}
use Rattle.std.specs.FinMap.{get}
use Rattle.std.specs.List.{list_any}
use Rattle.ov_specs.specs.conversion.Converted.{has_changed_type, is_of_changed_type}
use Rattle.ov_specs.specs.rows.RowNames.{row_columns}
use Rattle.ov_specs.specs.schema.Schema.{is_some_and}
use Rattle.ov_conversion.proofs.successor.has_changed_type.Given as goal

abbrev pub invariant-loop-name : goal.invariant-loop-name
invariant-loop-name l =
    has_changed_type l.old l.new
    ≡ list_any (λ t. is_some_and (λ table. is_some_and (λ former. list_any (is_of_changed_type former) (row_columns table)) (get l.old.tables t.0)) (get l.new.tables t.0)) (drop l.name-index l.name-items)
