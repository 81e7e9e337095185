use Rattle.std.proofs.Common.{◌==◌, T, rules, ap, sym, subst, ◌∙◌}
use Rattle.std.specs.FinMap.{is_sorted, get, len}
use Rattle.ov_rows.specs.Nested.{id_cmp}
use Rattle.ov_rows.specs.Resident.{table_rows_of}
use Rattle.ov_rows.proofs.Maps.{ascends}
use Rattle.ov_refs.specs.Holding.{KeySet, with_fewer}
use Rattle.ov_refs.specs.declared.table_holders.TableHolders.TheInside.{Inside}
use Rattle.ov_refs.proofs.HolderMaps.{is_left_alone, get-table_rows_of, with-fewer, fewer-none}
use Rattle.ov_refs.proofs.table_holders.TableHolders.take_from.Goals.{in-Some, in-None}
use Rattle.ov_refs.proofs.table_holders.TableHolders.take_from.Goals as goal

pub invariant_of-self : goal.invariant_of-self
invariant_of-self c =
    elim c.match-get_mut.branch [
      | in-Some w ↦ subst (λ (s : Inside). T (is_sorted id_cmp s.rows.entries)) (sym w.self-inside-is) (ascends id_cmp _ (c.get_mut.follows.holds w.remove.new.self).4)
      | in-None w ↦ subst (λ (s : Inside). T (is_sorted id_cmp s.rows.entries)) (sym (w.self-inside-is ∙ ap (λ m. record { rows = m }) c.get_mut.follows.holds-at-none)) c.self.invariant
    ]

pub returns-clause-fewer : goal.returns-clause-fewer
returns-clause-fewer c =
    elim c.match-get_mut.branch [
      | in-Some w ↦
          let new = w.remove.new.self in
          let wrote = c.get_mut.follows.holds new in
          ap (λ (s : Inside). table_rows_of s.rows.entries) w.self-inside-is
          ∙ with-fewer c.self.inside.rows.entries (c.get_mut.follows.lender new).entries c.new.result c.args.from.now c.self.invariant (ascends id_cmp _ wrote.4) w.in-Some.set.now new (wrote.3 (search rules)).0 w.in-Some.ensures.value w.remove.ensures
          ∙ (λ i. with_fewer (c.new.ensures i) c.args.from.now (c.self.view_is i))
      | in-None w ↦
          ap (λ (s : Inside). table_rows_of s.rows.entries) (w.self-inside-is ∙ ap (λ m. record { rows = m }) c.get_mut.follows.holds-at-none)
          ∙ fewer-none c.self.inside.rows.entries c.new.result c.args.from.now c.self.invariant w.in-None.ensures.value
          ∙ (λ i. with_fewer (c.new.ensures i) c.args.from.now (c.self.view_is i))
    ]

pub returns-clause-none : goal.returns-clause-none
returns-clause-none c =
    let es = c.self.inside.rows.entries in
    let found = sym (get-table_rows_of es c.new.result c.self.invariant) ∙ (λ i. get (c.self.view_is i) (c.new.ensures i)) in
    elim c.match-get_mut.branch [
      | in-Some w ↦ w.result-is ∙ w.is_empty.ensures ∙ ap (λ (set : KeySet). len set == 0) w.remove.ensures ∙ ap (is_left_alone c.args.from.now) (w.in-Some.ensures.value ∙ found)
      | in-None w ↦ w.result-is ∙ ap (is_left_alone c.args.from.now) (w.in-None.ensures.value ∙ found)
    ]
