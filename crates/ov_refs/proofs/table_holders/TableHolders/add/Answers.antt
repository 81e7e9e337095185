use Rattle.std.proofs.Common.{rules, ap, ◌∙◌}
use Rattle.std.specs.BTreeMap.{BTreeMap, insert_entry}
use Rattle.std.specs.FinMap.{insert}
use Rattle.ov_specs.specs.values.Uuid.{Uuid}
use Rattle.ov_rows.specs.Nested.{id_cmp}
use Rattle.ov_rows.proofs.Maps.{ascends}
use Rattle.ov_rows.proofs.Nested.{ok_gives, err_gives}
use Rattle.ov_refs.specs.Holding.{KeySet, with_holder}
use Rattle.ov_refs.proofs.HolderMaps.{with-more, with-first, put-back}
use Rattle.ov_refs.proofs.table_holders.TableHolders.add.Goals as goal

pub invariant_of-self : goal.invariant_of-self
invariant_of-self c = ascends id_cmp _ (c.get_mut.follows.holds c.insert.new.self).4

pub invariant_of-self-in-None : goal.invariant_of-self-in-None
invariant_of-self-in-None c = ascends id_cmp c.insert-in-None-2.new.self.entries c.in_ok-insert-in-None-2.ensures.ordered

pub returns-in-Some-clause-ok : goal.returns-in-Some-clause-ok
returns-in-Some-clause-ok c =
    let new = c.insert.new.self in
    let wrote = c.get_mut.follows.holds new in
    ok_gives c.insert.result _ _ (λ put.
    with-more c.self.inside.rows.entries (c.get_mut.follows.lender new).entries c.new-to.result c.args.from c.self.invariant (ascends id_cmp _ wrote.4) c.in-Some.set.now new (wrote.3 (search rules)).0 c.in-Some.ensures.value put
    ∙ (λ i. with_holder (c.new-to.ensures i) c.args.from (c.self.view_is i))) c.insert.ensures.ok

pub returns-in-Some-clause-err : goal.returns-in-Some-clause-err
returns-in-Some-clause-err c =
    let new = c.insert.new.self in
    let wrote = c.get_mut.follows.holds new in
    err_gives c.insert.result _ _ (λ same.
    put-back c.self.inside.rows.entries (c.get_mut.follows.lender new).entries c.new-to.result c.args.from c.self.invariant (ascends id_cmp _ wrote.4) c.in-Some.set.now new (wrote.3 (search rules)).0 c.in-Some.ensures.value same
    ∙ c.self.view_is) c.insert.ensures.err

pub returns-in_ok-insert-in-None-2-clause-ok : goal.returns-in_ok-insert-in-None-2-clause-ok
returns-in_ok-insert-in-None-2-clause-ok c =
    let new = c.insert-in-None-2.new.self in
    let set = c.insert-in-None.new.self in
    with-first c.self.inside.rows.entries new.entries c.new-to.result c.args.from c.self.invariant (ascends id_cmp new.entries c.in_ok-insert-in-None-2.ensures.ordered) set
    (c.in_ok-insert-in-None-2.ensures.entries ∙ ap (λ (m : BTreeMap Uuid KeySet). insert_entry id_cmp m.entries c.new-to.result set) c.get_mut.follows.holds-at-none) c.in-None.ensures.value
    (c.in_ok-insert-in-None.ensures.ok ∙ ap (λ (s : KeySet). insert s c.args.from tt) c.new-set.ensures)
    ∙ (λ i. with_holder (c.new-to.ensures i) c.args.from (c.self.view_is i))
