use Rattle.std.proofs.Common.{◌≡◌, T, rules, ap, sym, subst, ◌∙◌}
use Rattle.std.specs.FinMap.{is_sorted, remove}
use Rattle.std.proofs.lemmas.Map.Text.{btree_map_updates_text}
use Rattle.ov_specs.specs.rows.Database.{Database}
use Rattle.ov_specs.specs.rows.Lines.{LineKey}
use Rattle.ov_specs.specs.schema.SchemaTypes.{name_cmp}
use Rattle.ov_rows.specs.Named.{named}
use Rattle.ov_rows.specs.Resident.{nested_of}
use Rattle.ov_rows.specs.declared.rows.Rows.TheInside.{Inside}
use Rattle.ov_rows.proofs.Names.{names-ascend}
use Rattle.ov_rows.proofs.Nested.{table_at, row-out, nested_of-remove, nested_of-without}
use Rattle.ov_rows.proofs.rows.Rows.remove.Goals.{in-Some, in_default}
use Rattle.ov_rows.proofs.rows.Rows.remove.Goals as goal

pub invariant_of-self : goal.invariant_of-self
invariant_of-self c =
    elim c.match-get_mut.branch [
      | in-Some w ↦ subst (λ (s : Inside). T (is_sorted name_cmp (named s.tables.entries))) (sym w.self-inside-is) (names-ascend _ (c.get_mut.follows.holds w.remove.new.self).4)
      | in_default w ↦
          subst (λ (s : Inside). T (is_sorted name_cmp (named s.tables.entries))) (sym (w.self-inside-is ∙ ap (λ m. record { tables = m }) c.get_mut.follows.holds-at-none)) c.self.invariant
    ]

pub returns : goal.returns
returns c =
    elim c.match-get_mut.branch [
      | in-Some w ↦
          let tables = c.self.inside.tables in
          let name = c.table.result.now in
          let new = w.remove.new.self in
          let wrote = c.get_mut.follows.holds new in
          let key : (name, w.id.result) ≡ c.args.key.now = λ i. (c.table.ensures i, w.id.ensures i) in
          ap (λ (s : Inside). nested_of s.tables.entries) w.self-inside-is
          ∙ nested_of-remove tables.entries (c.get_mut.follows.lender new).entries name w.id.result new c.self.invariant (names-ascend _ wrote.4) (btree_map_updates_text name tables (c.get_mut.follows.lender new) _ (wrote.3 (search rules)))
          (row-out _ w.in-Some.rows.now new w.id.result w.in-Some.ensures.value w.remove.ensures)
          ∙ ap (λ (k : LineKey). remove (nested_of tables.entries) k) key ∙ ap (λ (database : Database). remove database c.args.key.now) c.self.view_is
      | in_default w ↦
          let tables = c.self.inside.tables in
          ap (λ (s : Inside). nested_of s.tables.entries) (w.self-inside-is ∙ ap (λ m. record { tables = m }) c.get_mut.follows.holds-at-none)
          ∙ nested_of-without tables.entries c.args.key.now.0 c.args.key.now.1 c.self.invariant (ap (λ n. table_at n tables.entries) (sym c.table.ensures) ∙ sym w.in_default.ensures.value)
          ∙ ap (λ (database : Database). remove database c.args.key.now) c.self.view_is
    ]
