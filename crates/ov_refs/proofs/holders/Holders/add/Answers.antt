use Rattle.std.proofs.Common.{rules, ap, sym, ◌∙◌, string_bytes, String, Global, Some, cond}
use Rattle.std.specs.BTreeMap.{BTreeMap}
use Rattle.std.specs.Str.{bytes_eq}
use Rattle.std.proofs.lemmas.Map.Text.{btree_map_updates_text}
use Rattle.ov_rows.proofs.Names.{names-ascend}
use Rattle.ov_rows.proofs.Nested.{table_at, nested_of-same, ok_gives, err_gives}
use Rattle.ov_refs.specs.Holding.{TableHolders, with_holder}
use Rattle.ov_refs.proofs.HolderMaps.{nested-more, nested-first}
use Rattle.ov_refs.proofs.holders.Holders.add.Goals as goal

pub invariant_of-self : goal.invariant_of-self
invariant_of-self c = names-ascend _ (c.get_mut.follows.holds c.add.new.self).4

pub invariant_of-self-in-None : goal.invariant_of-self-in-None
invariant_of-self-in-None c = names-ascend _ c.in_ok-insert-in-None.ensures.ordered

pub returns-in-Some-clause-ok : goal.returns-in-Some-clause-ok
returns-in-Some-clause-ok c =
    let tables = c.self.inside.tables in
    let name = c.table.result.now in
    let new = c.add.new.self in
    let wrote = c.get_mut.follows.holds new in
    ok_gives c.add.result _ _ (λ put.
    nested-more tables.entries name c.id.result c.args.from c.self.invariant (c.get_mut.follows.lender new).entries (names-ascend _ wrote.4) new (btree_map_updates_text name tables (c.get_mut.follows.lender new) _ (wrote.3 (search rules)))
    c.in-Some.holders.now c.in-Some.ensures.value put
    ∙ (λ i. with_holder (c.table.ensures i, c.id.ensures i) c.args.from (c.self.view_is i))) c.add.ensures.ok

pub returns-in-Some-clause-err : goal.returns-in-Some-clause-err
returns-in-Some-clause-err c =
    let tables = c.self.inside.tables in
    let name = c.table.result.now in
    let new = c.add.new.self in
    let wrote = c.get_mut.follows.holds new in
    err_gives c.add.result _ _ (λ same.
    nested_of-same tables.entries (c.get_mut.follows.lender new).entries name c.in-Some.holders.now new c.self.invariant (names-ascend _ wrote.4) (btree_map_updates_text name tables (c.get_mut.follows.lender new) _ (wrote.3 (search rules)))
    c.in-Some.ensures.value same ∙ c.self.view_is) c.add.ensures.err

pub returns-in_ok-insert-in-None-clause-ok : goal.returns-in_ok-insert-in-None-clause-ok
returns-in_ok-insert-in-None-clause-ok c =
    let tables = c.self.inside.tables in
    let new = c.insert.new.self in
    let holders = c.add-in-None.new.self in
    let name = string_bytes c.in_ok-from_str-in-None.field-0 in
    let named = c.in_ok-from_str-in-None.ensures.ok ∙ c.table-in-None.ensures in
    nested-first tables.entries name c.id-in-None.result c.args.from c.self.invariant new.entries (names-ascend _ c.in_ok-insert-in-None.ensures.ordered) holders
    (λ cs. btree_map_updates_text name c.get_mut.follows.lender-at-none new _ c.in_ok-insert-in-None.ensures.updates cs ∙ ap (λ (m : BTreeMap (String Global) TableHolders). cond (bytes_eq name cs) (Some holders) (table_at cs m.entries)) c.get_mut.follows.holds-at-none)
    (c.in-None.ensures.value ∙ ap (λ n. table_at n tables.entries) (c.table.ensures ∙ sym named))
    (c.in_ok-add-in-None.ensures.ok ∙ ap (λ (t : TableHolders). with_holder c.id-in-None.result c.args.from t) c.new-holders.ensures)
    ∙ (λ i. with_holder (named i, c.id-in-None.ensures i) c.args.from (c.self.view_is i))
