use Rattle.std.proofs.Common.{Some, T, rules, ap, sym, subst, ◌∙◌}
use Rattle.std.specs.Cmp.{nat_cmp_total}
use Rattle.std.specs.FinMap.{nat_cmp-IsAntisymmetric, is_sorted}
use Rattle.std.specs.Ordering.{nat_cmp}
use Rattle.ov_rows.proofs.Maps.{ascends}
use Rattle.ov_index.specs.Indexing.{without_id}
use Rattle.ov_index.specs.Nested.{TableIndexes, by_number, numbered}
use Rattle.ov_index.specs.declared.table_indexes.TableIndexes.TheInside.{Inside}
use Rattle.ov_index.proofs.IdMaps.{whole_without_id, whole_absent}
use Rattle.ov_index.proofs.IndexMaps.{number_of, by_numbers}
use Rattle.ov_index.proofs.SeenKeys.{Puts, puts_of}
use Rattle.ov_index.proofs.table_indexes.TableIndexes.take_out.Goals.{in-Some, in_default}
use Rattle.ov_index.proofs.table_indexes.TableIndexes.take_out.Goals as goal

pub invariant_of-self : goal.invariant_of-self
invariant_of-self c =
    elim c.match-get_mut.branch [
      | in-Some w ↦ subst (λ (s : Inside). T (is_sorted nat_cmp s.indexes.entries)) (sym w.self-inside-is) (ascends nat_cmp _ (c.get_mut.follows.holds w.take_out.new.self).4)
      | in_default w ↦
          subst (λ (s : Inside). T (is_sorted nat_cmp s.indexes.entries)) (sym (w.self-inside-is ∙ ap (λ m. record { indexes = m }) c.get_mut.follows.holds-at-none)) c.self.invariant
    ]

pub returns : goal.returns
returns c =
    let ms = c.self.inside.indexes in
    let number = c.args.number in
    let values = c.args.values.now in
    elim c.match-get_mut.branch [
      | in-Some w ↦
          let new = w.take_out.new.self in
          let after = c.get_mut.follows.lender new in
          let wrote = c.get_mut.follows.holds new in
          let puts : Puts number_of nat_cmp ms.entries after.entries number (Some new) = puts_of number_of nat_cmp nat_cmp_total nat_cmp-IsAntisymmetric ms after number (Some new) (wrote.3 (search rules)) in
          ap (λ (s : Inside). by_number s.indexes.entries) w.self-inside-is
          ∙ whole_without_id by_numbers ms.entries after.entries number new c.self.invariant (ascends nat_cmp _ wrote.4) puts w.in-Some.index.now values c.args.id w.in-Some.ensures.value w.take_out.ensures
          ∙ ap (λ (table : TableIndexes). without_id (numbered number values) c.args.id table) c.self.view_is
      | in_default w ↦
          ap (λ (s : Inside). by_number s.indexes.entries) (w.self-inside-is ∙ ap (λ m. record { indexes = m }) c.get_mut.follows.holds-at-none)
          ∙ whole_absent by_numbers ms.entries number values c.args.id c.self.invariant w.in_default.ensures.value
          ∙ ap (λ (table : TableIndexes). without_id (numbered number values) c.args.id table) c.self.view_is
    ]
