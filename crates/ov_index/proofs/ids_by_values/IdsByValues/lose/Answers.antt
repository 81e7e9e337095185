use Rattle.std.proofs.Common.{Some, T, rules, ap, sym, subst, ◌∙◌}
use Rattle.std.specs.FinMap.{is_sorted, get}
use Rattle.ov_rows.proofs.Maps.{ascends}
use Rattle.ov_index.specs.IndexKeys.{values_cmp}
use Rattle.ov_index.specs.Indexing.{lacking, has_no_rows, with_ids}
use Rattle.ov_index.specs.KeyOrder.{values_total, values_exact}
use Rattle.ov_index.specs.Nested.{by_values}
use Rattle.ov_index.specs.declared.ids_by_values.IdsByValues.TheInside.{Inside}
use Rattle.ov_index.proofs.IdMaps.{seen_with_ids, lacking-absent}
use Rattle.ov_index.proofs.IndexMaps.{items_of}
use Rattle.ov_index.proofs.SeenKeys.{Puts, by_seen, get_seen, puts_of}
use Rattle.ov_index.proofs.ids_by_values.IdsByValues.lose.Goals.{in-Some, in-None}
use Rattle.ov_index.proofs.ids_by_values.IdsByValues.lose.Goals as goal

pub invariant_of-self : goal.invariant_of-self
invariant_of-self c =
    elim c.match-get_mut.branch [
      | in-Some w ↦
          subst (λ (s : Inside). T (is_sorted (by_seen items_of values_cmp) s.ids.entries)) (sym w.self-inside-is) (ascends (by_seen items_of values_cmp) _ (c.get_mut.follows.holds w.remove.new.self).4)
      | in-None w ↦
          subst (λ (s : Inside). T (is_sorted (by_seen items_of values_cmp) s.ids.entries)) (sym (w.self-inside-is ∙ ap (λ m. record { ids = m }) c.get_mut.follows.holds-at-none)) c.self.invariant
    ]

pub returns-clause-lost : goal.returns-clause-lost
returns-clause-lost c =
    let es = c.self.inside.ids in
    let key = c.args.values.now in
    let id = c.args.id in
    elim c.match-get_mut.branch [
      | in-Some w ↦
          let new = w.remove.new.self in
          let after = c.get_mut.follows.lender new in
          let wrote = c.get_mut.follows.holds new in
          let puts : Puts items_of values_cmp es.entries after.entries key (Some new) = puts_of items_of values_cmp values_total values_exact es after key (Some new) (wrote.3 (search rules)) in
          ap (λ (s : Inside). by_values s.ids.entries) w.self-inside-is
          ∙ seen_with_ids items_of values_total values_exact es.entries after.entries c.self.invariant (ascends (by_seen items_of values_cmp) _ wrote.4) key (Some new) puts
          ∙ ap (λ o. with_ids key o (by_values es.entries))
          (ap (λ ids. Some ids) w.remove.ensures ∙ ap (λ o. lacking o id) (w.in-Some.ensures.value ∙ sym (get_seen items_of values_cmp es.entries key c.self.invariant)))
          ∙ (λ i. with_ids key (lacking (get (c.self.view_is i) key) id) (c.self.view_is i))
      | in-None w ↦
          ap (λ (s : Inside). by_values s.ids.entries) (w.self-inside-is ∙ ap (λ m. record { ids = m }) c.get_mut.follows.holds-at-none)
          ∙ lacking-absent values_total values_exact (by_values es.entries) key id (get_seen items_of values_cmp es.entries key c.self.invariant ∙ sym w.in-None.ensures.value)
          ∙ (λ i. with_ids key (lacking (get (c.self.view_is i) key) id) (c.self.view_is i))
    ]

pub returns-clause-left : goal.returns-clause-left
returns-clause-left c =
    let key = c.args.values.now in
    elim c.match-get_mut.branch [
      | in-Some w ↦
          let new = w.remove.new.self in
          let wrote = c.get_mut.follows.holds new in
          w.result-is ∙ w.is_empty.ensures
          ∙ ap has_no_rows
          (sym (wrote.3 (search rules)).1 ∙ sym (get_seen items_of values_cmp (c.get_mut.follows.lender new).entries key (ascends (by_seen items_of values_cmp) _ wrote.4))
          ∙ (λ i. get (by_values (sym w.self-inside-is i).ids.entries) key))
      | in-None w ↦
          w.result-is
          ∙ ap has_no_rows
          (w.in-None.ensures.value ∙ sym (get_seen items_of values_cmp c.self.inside.ids.entries key c.self.invariant)
          ∙ (λ i. get (by_values (sym (w.self-inside-is ∙ ap (λ m. record { ids = m }) c.get_mut.follows.holds-at-none) i).ids.entries) key))
    ]
