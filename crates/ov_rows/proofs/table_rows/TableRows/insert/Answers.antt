use Rattle.std.proofs.Common.{sym, ◌∙◌}
use Rattle.std.specs.FinMap.{insert, get}
use Rattle.ov_specs.proofs.laws.Names.{name_cmp_total}
use Rattle.ov_rows.specs.Nested.{id_cmp}
use Rattle.ov_rows.proofs.Maps.{ascends, from_sorted-insert, get-lookup}
use Rattle.ov_rows.proofs.table_rows.TableRows.insert.Goals as goal

pub returns-clause-absent : goal.returns-clause-absent
returns-clause-absent c =
    sym (λ i. get (c.self.view_is i) (c.new.ensures i))
    ∙ get-lookup id_cmp c.self.inside.rows.entries c.new.result c.self.invariant ∙ c.in-Err.ensures.absent

pub invariant_of-self : goal.invariant_of-self
invariant_of-self c = ascends id_cmp c.insert.new.self.entries c.in-Ok.ensures.ordered

pub returns-in-Ok-clause-ok : goal.returns-in-Ok-clause-ok
returns-in-Ok-clause-ok c =
    from_sorted-insert id_cmp name_cmp_total c.self.inside.rows.entries c.insert.new.self.entries c.new.result c.args.row c.self.invariant (ascends id_cmp c.insert.new.self.entries c.in-Ok.ensures.ordered) c.in-Ok.ensures.entries
    ∙ (λ i. insert (c.self.view_is i) (c.new.ensures i) c.args.row)
