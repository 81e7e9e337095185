use Rattle.std.proofs.Common.{Some, ap, ◌∙◌}
use Rattle.std.specs.FinMap.{get}
use Rattle.ov_specs.proofs.laws.Names.{name_exact}
use Rattle.ov_specs.specs.values.Uuid.{Uuid}
use Rattle.ov_rows.specs.Nested.{id_cmp}
use Rattle.ov_stage.specs.Staging.{entry_if_found}
use Rattle.ov_stage.proofs.Lookups.{found-none, found-some}
use Rattle.ov_stage.proofs.lookup.row_in.Goals as goal

pub returns-in-Some : goal.returns-in-Some
returns-in-Some c =
    (λ i. Some (c.as_uuid.ensures i, c.in-Some.row.now))
    ∙ found-some id_cmp name_exact c.args.table.now c.new.result c.in-Some.id.now c.in-Some.row.now c.map.result.now.entries c.map.ensures c.in-Some.ensures.same_key c.in-Some.ensures.value
    ∙ ap (λ (id : Uuid). entry_if_found id (get c.args.table.now id)) c.new.ensures

pub returns-in-None : goal.returns-in-None
returns-in-None c =
    found-none id_cmp name_exact c.args.table.now c.new.result c.map.result.now.entries c.map.ensures c.in-None.ensures.value
    ∙ ap (λ (id : Uuid). entry_if_found id (get c.args.table.now id)) c.new.ensures
