use Rattle.std.proofs.Common.{T, rules, ap, sym, subst, ◌∙◌}
use Rattle.std.specs.FinMap.{is_sorted}
use Rattle.std.proofs.lemmas.Map.Text.{btree_map_updates_text}
use Rattle.ov_specs.specs.schema.SchemaTypes.{name_cmp}
use Rattle.ov_rows.specs.Named.{named}
use Rattle.ov_rows.specs.Resident.{nested_of}
use Rattle.ov_rows.proofs.Names.{names-ascend}
use Rattle.ov_rows.proofs.Nested.{table_at}
use Rattle.ov_refs.specs.Holding.{without_holder}
use Rattle.ov_refs.specs.declared.holders.Holders.TheInside.{Inside}
use Rattle.ov_refs.proofs.HolderMaps.{nested-fewer, nested-none}
use Rattle.ov_refs.proofs.holders.Holders.remove.Goals.{in-Some, in_default}
use Rattle.ov_refs.proofs.holders.Holders.remove.Goals as goal

pub invariant_of-self : goal.invariant_of-self
invariant_of-self c =
    elim c.match-get_mut.branch [
      | in-Some w ↦ subst (λ (s : Inside). T (is_sorted name_cmp (named s.tables.entries))) (sym w.self-inside-is) (names-ascend _ (c.get_mut.follows.holds w.remove.new.self).4)
      | in_default w ↦
          subst (λ (s : Inside). T (is_sorted name_cmp (named s.tables.entries))) (sym (w.self-inside-is ∙ ap (λ m. record { tables = m }) c.get_mut.follows.holds-at-none)) c.self.invariant
    ]

pub returns : goal.returns
returns c =
    elim c.match-get_mut.branch [
      | in-Some w ↦
          let tables = c.self.inside.tables in
          let name = c.table.result.now in
          let new = w.remove.new.self in
          let wrote = c.get_mut.follows.holds new in
          ap (λ (s : Inside). nested_of s.tables.entries) w.self-inside-is
          ∙ nested-fewer tables.entries name w.id.result c.args.from.now c.self.invariant (c.get_mut.follows.lender new).entries (names-ascend _ wrote.4) new (btree_map_updates_text name tables (c.get_mut.follows.lender new) _ (wrote.3 (search rules)))
          w.in-Some.holders.now w.in-Some.ensures.value w.remove.ensures
          ∙ (λ i. without_holder (c.table.ensures i, w.id.ensures i) c.args.from.now (c.self.view_is i))
      | in_default w ↦
          let tables = c.self.inside.tables in
          let key = c.args.to.now in
          ap (λ (s : Inside). nested_of s.tables.entries) (w.self-inside-is ∙ ap (λ m. record { tables = m }) c.get_mut.follows.holds-at-none)
          ∙ nested-none tables.entries key.0 key.1 c.args.from.now c.self.invariant (w.in_default.ensures.value ∙ ap (λ n. table_at n tables.entries) c.table.ensures)
          ∙ ap (without_holder key c.args.from.now) c.self.view_is
    ]
