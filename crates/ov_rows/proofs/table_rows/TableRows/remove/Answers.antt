use Rattle.std.proofs.Common.{◌∙◌}
use Rattle.std.specs.FinMap.{remove}
use Rattle.ov_specs.proofs.laws.Names.{name_cmp_total, name_exact}
use Rattle.ov_rows.specs.Nested.{id_cmp}
use Rattle.ov_rows.proofs.Maps.{ascends, from_sorted-remove}
use Rattle.ov_rows.proofs.table_rows.TableRows.remove.Goals as goal

pub invariant_of-self : goal.invariant_of-self
invariant_of-self c = ascends id_cmp c.remove.new.self.entries c.remove.ensures.ordered

pub returns : goal.returns
returns c =
    from_sorted-remove id_cmp name_cmp_total name_exact c.self.inside.rows.entries c.remove.new.self.entries c.new.result c.self.invariant (ascends id_cmp c.remove.new.self.entries c.remove.ensures.ordered) c.remove.ensures.updates.0
    ∙ (λ i. remove (c.self.view_is i) (c.new.ensures i))
