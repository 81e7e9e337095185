use Rattle.std.proofs.Common.{Some, T, rules, ap, sym, subst, ◌∙◌}
use Rattle.std.specs.FinMap.{is_sorted}
use Rattle.ov_rows.proofs.Maps.{ascends}
use Rattle.ov_specs.specs.schema.SchemaTypes.{name_cmp}
use Rattle.ov_specs.proofs.laws.Names.{name_cmp_total, name_exact}
use Rattle.ov_index.specs.IndexKeys.{IndexEntry, index_key}
use Rattle.ov_index.specs.Indexing.{without_id, without_entry}
use Rattle.ov_index.specs.Nested.{by_table, numbered}
use Rattle.ov_index.specs.declared.indexes.Indexes.TheInside.{Inside}
use Rattle.ov_index.proofs.IdMaps.{whole_without_id, whole_absent}
use Rattle.ov_index.proofs.IndexMaps.{name_of, by_names}
use Rattle.ov_index.proofs.SeenKeys.{Puts, by_seen, puts_of}
use Rattle.ov_index.proofs.indexes.Indexes.take_one_out.Goals.{in-Some, in_default}
use Rattle.ov_index.proofs.indexes.Indexes.take_one_out.Goals as goal

pub invariant_of-self : goal.invariant_of-self
invariant_of-self c =
    elim c.match-get_mut.branch [
      | in-Some w ↦
          subst (λ (s : Inside). T (is_sorted (by_seen name_of name_cmp) s.tables.entries)) (sym w.self-inside-is) (ascends (by_seen name_of name_cmp) _ (c.get_mut.follows.holds w.take_out.new.self).4)
      | in_default w ↦
          subst (λ (s : Inside). T (is_sorted (by_seen name_of name_cmp) s.tables.entries)) (sym (w.self-inside-is ∙ ap (λ m. record { tables = m }) c.get_mut.follows.holds-at-none)) c.self.invariant
    ]

pub returns : goal.returns
returns c =
    let ms = c.self.inside.tables in
    let name = c.table.result.now in
    let key = c.entry.inside.key in
    let id = c.entry.inside.id in
    elim c.match-get_mut.branch [
      | in-Some w ↦
          let new = w.take_out.new.self in
          let after = c.get_mut.follows.lender new in
          let wrote = c.get_mut.follows.holds new in
          let puts : Puts name_of name_cmp ms.entries after.entries name (Some new) = puts_of name_of name_cmp name_cmp_total name_exact ms after name (Some new) (wrote.3 (search rules)) in
          ap (λ (s : Inside). by_table s.tables.entries) w.self-inside-is
          ∙ whole_without_id by_names ms.entries after.entries name new c.self.invariant (ascends (by_seen name_of name_cmp) _ wrote.4) puts w.in-Some.indexes.now (numbered w.number.result w.values.result.now) id w.in-Some.ensures.value w.take_out.ensures
          ∙ (λ i. without_id (index_key (c.table.ensures i) (w.number.ensures i) (w.values.ensures i)) id (c.self.view_is i))
          ∙ ap (λ (e : IndexEntry). without_entry e c.args.self.now) c.entry.view_is
      | in_default w ↦
          ap (λ (s : Inside). by_table s.tables.entries) (w.self-inside-is ∙ ap (λ m. record { tables = m }) c.get_mut.follows.holds-at-none)
          ∙ whole_absent by_names ms.entries name (numbered key.number key.values) id c.self.invariant w.in_default.ensures.value
          ∙ (λ i. without_id (index_key (c.table.ensures i) key.number key.values) id (c.self.view_is i))
          ∙ ap (λ (e : IndexEntry). without_entry e c.args.self.now) c.entry.view_is
    ]
