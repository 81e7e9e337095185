use Rattle.std.proofs.Common.{◌≡◌, rules, ap, sym, ◌∙◌, string_bytes, String, Global, Some, cond}
use Rattle.std.specs.BTreeMap.{BTreeMap}
use Rattle.std.specs.FinMap.{insert, get}
use Rattle.std.specs.Str.{bytes_eq}
use Rattle.std.specs.Prelude.{option_and_then}
use Rattle.std.proofs.lemmas.Map.Text.{btree_map_updates_text}
use Rattle.ov_specs.specs.rows.Database.{Database}
use Rattle.ov_specs.specs.rows.Lines.{LineKey}
use Rattle.ov_rows.specs.Nested.{TableRows}
use Rattle.ov_rows.specs.Resident.{nested_of}
use Rattle.ov_rows.proofs.Names.{names-ascend}
use Rattle.ov_rows.proofs.Nested.{table_at, get-nested_of, row-put, row-first, nested_of-insert, nested_of-same, on_err, ok_gives, err_gives}
use Rattle.ov_rows.proofs.rows.Rows.insert.Goals as goal

pub invariant_of-self : goal.invariant_of-self
invariant_of-self c = names-ascend _ (c.get_mut.follows.holds c.insert.new.self).4

pub invariant_of-self-in-None : goal.invariant_of-self-in-None
invariant_of-self-in-None c = names-ascend _ c.in_ok-insert-in-None.ensures.ordered

pub returns-in-Some-clause-ok : goal.returns-in-Some-clause-ok
returns-in-Some-clause-ok c =
    let tables = c.self.inside.tables in
    let name = c.table.result.now in
    let new = c.insert.new.self in
    let wrote = c.get_mut.follows.holds new in
    let key : (name, c.id.result) ≡ c.args.key.now = λ i. (c.table.ensures i, c.id.ensures i) in
    ok_gives c.insert.result _ _ (λ put.
    nested_of-insert tables.entries (c.get_mut.follows.lender new).entries name c.id.result new c.self.invariant (names-ascend _ wrote.4) (btree_map_updates_text name tables (c.get_mut.follows.lender new) _ (wrote.3 (search rules))) c.args.row
    (row-put _ c.in-Some.rows.now new c.id.result c.args.row c.in-Some.ensures.value put)
    ∙ ap (λ (k : LineKey). insert (nested_of tables.entries) k c.args.row) key ∙ ap (λ (database : Database). insert database c.args.key.now c.args.row) c.self.view_is) c.insert.ensures.ok

pub returns-in-Some-clause-err : goal.returns-in-Some-clause-err
returns-in-Some-clause-err c =
    let tables = c.self.inside.tables in
    let name = c.table.result.now in
    let new = c.insert.new.self in
    let wrote = c.get_mut.follows.holds new in
    err_gives c.insert.result _ _ (λ same.
    nested_of-same tables.entries (c.get_mut.follows.lender new).entries name c.in-Some.rows.now new c.self.invariant (names-ascend _ wrote.4) (btree_map_updates_text name tables (c.get_mut.follows.lender new) _ (wrote.3 (search rules)))
    c.in-Some.ensures.value same ∙ c.self.view_is) c.insert.ensures.err

pub returns-in-Some-clause-absent : goal.returns-in-Some-clause-absent
returns-in-Some-clause-absent c =
    let name = c.table.result.now in
    let key : (name, c.id.result) ≡ c.args.key.now = λ i. (c.table.ensures i, c.id.ensures i) in
    err_gives c.insert.result _ _ (λ none.
    sym (ap (λ (database : Database). get database (name, c.id.result)) c.self.view_is ∙ ap (λ (k : LineKey). get c.args.self.now k) key)
    ∙ get-nested_of c.self.inside.tables.entries (name, c.id.result) c.self.invariant
    ∙ sym (ap (option_and_then (λ (t : TableRows). get t c.id.result)) c.in-Some.ensures.value) ∙ none) c.insert.ensures.absent

pub returns-in_err-rows-in-None-clause-absent : goal.returns-in_err-rows-in-None-clause-absent
returns-in_err-rows-in-None-clause-absent c =
    let name = c.table.result.now in
    let key : (name, c.id-in-None.result) ≡ c.args.key.now = λ i. (c.table.ensures i, c.id-in-None.ensures i) in
    on_err c.from_residual.result _
    (sym (ap (λ (database : Database). get database (name, c.id-in-None.result)) c.self.view_is ∙ ap (λ (k : LineKey). get c.args.self.now k) key)
    ∙ get-nested_of c.self.inside.tables.entries (name, c.id-in-None.result) c.self.invariant
    ∙ sym (ap (option_and_then (λ (t : TableRows). get t c.id-in-None.result)) c.in-None.ensures.value))

pub returns-in_err-from_str-in-None-clause-absent : goal.returns-in_err-from_str-in-None-clause-absent
returns-in_err-from_str-in-None-clause-absent c =
    let name = c.table.result.now in
    let key : (name, c.id-in-None.result) ≡ c.args.key.now = λ i. (c.table.ensures i, c.id-in-None.ensures i) in
    on_err c.from_residual-in_err-from_str-in-None.result _
    (sym (ap (λ (database : Database). get database (name, c.id-in-None.result)) c.self.view_is ∙ ap (λ (k : LineKey). get c.args.self.now k) key)
    ∙ get-nested_of c.self.inside.tables.entries (name, c.id-in-None.result) c.self.invariant
    ∙ sym (ap (option_and_then (λ (t : TableRows). get t c.id-in-None.result)) c.in-None.ensures.value))

pub returns-in_err-insert-in-None-clause-absent : goal.returns-in_err-insert-in-None-clause-absent
returns-in_err-insert-in-None-clause-absent c =
    let name = c.table.result.now in
    let key : (name, c.id-in-None.result) ≡ c.args.key.now = λ i. (c.table.ensures i, c.id-in-None.ensures i) in
    on_err c.from_residual-in_err-insert-in-None.result _
    (sym (ap (λ (database : Database). get database (name, c.id-in-None.result)) c.self.view_is ∙ ap (λ (k : LineKey). get c.args.self.now k) key)
    ∙ get-nested_of c.self.inside.tables.entries (name, c.id-in-None.result) c.self.invariant
    ∙ sym (ap (option_and_then (λ (t : TableRows). get t c.id-in-None.result)) c.in-None.ensures.value))

pub returns-in_ok-insert-in-None-clause-ok : goal.returns-in_ok-insert-in-None-clause-ok
returns-in_ok-insert-in-None-clause-ok c =
    let tables = c.self.inside.tables in
    let new = c.insert-in-None.new.self in
    let name = string_bytes c.in_ok-from_str-in-None.field-0 in
    let named = c.in_ok-from_str-in-None.ensures.ok ∙ c.table-in-None.ensures in
    let key : (name, c.id-in-None.result) ≡ c.args.key.now = λ i. (named i, c.id-in-None.ensures i) in
    nested_of-insert tables.entries new.entries name c.id-in-None.result c.in_ok-rows-in-None.rows c.self.invariant (names-ascend _ c.in_ok-insert-in-None.ensures.ordered)
    (λ cs. btree_map_updates_text name c.get_mut.follows.lender-at-none new _ c.in_ok-insert-in-None.ensures.updates cs ∙ ap (λ (m : BTreeMap (String Global) TableRows). cond (bytes_eq name cs) (Some c.in_ok-rows-in-None.rows) (table_at cs m.entries)) c.get_mut.follows.holds-at-none) c.args.row
    (row-first _ c.in_ok-rows-in-None.rows c.id-in-None.result c.args.row (c.in-None.ensures.value ∙ ap (λ n. table_at n tables.entries) (c.table.ensures ∙ sym named)) c.in_ok-rows-in-None.ensures)
    ∙ ap (λ (k : LineKey). insert (nested_of tables.entries) k c.args.row) key ∙ ap (λ (database : Database). insert database c.args.key.now c.args.row) c.self.view_is
