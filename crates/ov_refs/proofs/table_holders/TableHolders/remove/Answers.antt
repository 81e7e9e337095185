use Rattle.std.proofs.Common.{◌≡◌, rules, sym, ◌∙◌}
use Rattle.std.specs.FinMap.{remove}
use Rattle.ov_rows.specs.Nested.{id_cmp}
use Rattle.ov_rows.specs.Resident.{table_rows_of}
use Rattle.ov_specs.proofs.laws.Names.{name_cmp_total, name_exact}
use Rattle.ov_rows.proofs.Maps.{ascends, from_sorted-remove}
use Rattle.ov_refs.specs.Holding.{without_holder}
use Rattle.ov_refs.proofs.HolderMaps.{without-last, without-others}
use Rattle.ov_refs.proofs.table_holders.TableHolders.remove.Goals as goal

pub invariant_of-self : goal.invariant_of-self
invariant_of-self c = ascends id_cmp c.remove.new.self.entries c.remove.ensures.ordered

pub returns-then-take_from : goal.returns-then-take_from
returns-then-take_from c =
    let id = c.args.id in
    let from = c.args.from.now in
    let es = c.self.inside.rows.entries in
    let es' = c.remove.new.self.entries in
    let out : table_rows_of es' ≡ without_holder id from c.args.self.now =
    from_sorted-remove id_cmp name_cmp_total name_exact es es' c.new.result c.self.invariant (ascends id_cmp es' c.remove.ensures.ordered) c.remove.ensures.updates.0
    ∙ (λ i. remove ((c.self.view_is ∙ c.take_from.ensures.fewer) i) (c.new.ensures i)) ∙ without-last id from c.args.self.now (sym c.take_from.ensures.none ∙ c.if-take_from.true) in
    search rules

pub returns-else-take_from : goal.returns-else-take_from
returns-else-take_from c =
    c.take_from.ensures.fewer ∙ without-others c.args.id c.args.from.now c.args.self.now (sym c.take_from.ensures.none ∙ c.if-take_from.false)
