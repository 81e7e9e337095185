use Rattle.std.proofs.Common.{None, ap, ◌∙◌}
use Rattle.std.specs.FinMap.{remove}
use Rattle.ov_rows.proofs.Maps.{ascends}
use Rattle.ov_index.specs.IndexKeys.{values_cmp}
use Rattle.ov_index.specs.KeyOrder.{values_total, values_exact}
use Rattle.ov_index.specs.Nested.{IdsByValues}
use Rattle.ov_index.proofs.IdMaps.{seen_with_ids}
use Rattle.ov_index.proofs.IndexMaps.{items_of}
use Rattle.ov_index.proofs.SeenKeys.{by_seen, puts_of}
use Rattle.ov_index.proofs.ids_by_values.IdsByValues.drop_values.Goals as goal

pub invariant_of-self : goal.invariant_of-self
invariant_of-self c = ascends (by_seen items_of values_cmp) c.remove.new.self.entries c.remove.ensures.ordered

pub returns : goal.returns
returns c =
    let es = c.self.inside.ids in
    let after = c.remove.new.self in
    let key = c.args.values.now in
    seen_with_ids items_of values_total values_exact es.entries after.entries c.self.invariant (ascends (by_seen items_of values_cmp) after.entries c.remove.ensures.ordered) key None
    (puts_of items_of values_cmp values_total values_exact es after key None c.remove.ensures.updates)
    ∙ ap (λ (all : IdsByValues). remove all key) c.self.view_is
