use Rattle.std.proofs.Common.{List, ℕ, Option, Some, not, rules, string_bytes, sym, ap, ◌∙◌}
use Rattle.std.specs.Prelude.{unwrap_or}
use Rattle.std.specs.FinMap.{empty}
use Rattle.ov_rows.proofs.Maps.{ascends}
use Rattle.ov_rows.proofs.Nested.{ok_gives, err_gives}
use Rattle.ov_specs.specs.schema.SchemaTypes.{name_cmp}
use Rattle.ov_specs.proofs.laws.Names.{name_cmp_total, name_exact}
use Rattle.ov_index.specs.IndexKeys.{index_key}
use Rattle.ov_index.specs.Indexing.{Indexes, is_indexed, with_id}
use Rattle.ov_index.specs.Nested.{TableIndexes, numbered}
use Rattle.ov_index.proofs.IdMaps.{whole_with_id, whole_same, whole_indexed}
use Rattle.ov_index.proofs.IndexMaps.{name_of, by_names, if_ok}
use Rattle.ov_index.proofs.SeenKeys.{Puts, by_seen, found_at, puts_of, puts_from}
use Rattle.ov_index.proofs.indexes.Indexes.add_at.Goals as goal

pub invariant_of-self : goal.invariant_of-self
invariant_of-self c = ascends (by_seen name_of name_cmp) _ (c.get_mut.follows.holds c.add.new.self).4

pub invariant_of-self-in-None : goal.invariant_of-self-in-None
invariant_of-self-in-None c = ascends (by_seen name_of name_cmp) c.insert.new.self.entries c.in_ok-insert-in-None.ensures.ordered

pub returns-in-Some-clause-ok : goal.returns-in-Some-clause-ok
returns-in-Some-clause-ok c =
    let ms = c.self.inside.tables in
    let name = c.args.table.now in
    let values = numbered c.args.number c.args.values.items in
    let new = c.add.new.self in
    let after = c.get_mut.follows.lender new in
    let wrote = c.get_mut.follows.holds new in
    let puts : Puts name_of name_cmp ms.entries after.entries name (Some new) = puts_of name_of name_cmp name_cmp_total name_exact ms after name (Some new) (wrote.3 (search rules)) in
    ok_gives c.add.result _ _ (λ put.
    whole_with_id by_names ms.entries after.entries name new c.self.invariant (ascends (by_seen name_of name_cmp) _ wrote.4) puts values c.args.id
    (put ∙ ap (λ (o : Option TableIndexes). with_id values c.args.id (unwrap_or o empty)) c.in-Some.ensures.value)
    ∙ ap (λ (indexes : Indexes). with_id (index_key name c.args.number c.args.values.items) c.args.id indexes) c.self.view_is) c.add.ensures.ok

pub returns-in-Some-clause-is_new : goal.returns-in-Some-clause-is_new
returns-in-Some-clause-is_new c =
    let name = c.args.table.now in
    let values = numbered c.args.number c.args.values.items in
    if_ok c.add.result _ _ (λ is_new is.
    is ∙ ap not
    (whole_indexed by_names c.self.inside.tables.entries name values c.args.id c.self.invariant _ c.in-Some.ensures.value
    ∙ ap (λ (indexes : Indexes). is_indexed indexes (index_key name c.args.number c.args.values.items) c.args.id) c.self.view_is)) c.add.ensures.is_new

pub returns-in-Some-clause-err : goal.returns-in-Some-clause-err
returns-in-Some-clause-err c =
    let ms = c.self.inside.tables in
    let name = c.args.table.now in
    let new = c.add.new.self in
    let after = c.get_mut.follows.lender new in
    let wrote = c.get_mut.follows.holds new in
    let puts : Puts name_of name_cmp ms.entries after.entries name (Some new) = puts_of name_of name_cmp name_cmp_total name_exact ms after name (Some new) (wrote.3 (search rules)) in
    err_gives c.add.result _ _ (λ same.
    whole_same by_names ms.entries after.entries name new c.self.invariant (ascends (by_seen name_of name_cmp) _ wrote.4) puts c.in-Some.indexes.now c.in-Some.ensures.value same
    ∙ c.self.view_is) c.add.ensures.err

pub returns-in_ok-insert-in-None-clause-ok : goal.returns-in_ok-insert-in-None-clause-ok
returns-in_ok-insert-in-None-clause-ok c =
    let ms = c.self.inside.tables in
    let name = string_bytes c.in_ok-from_str-in-None.field-0 in
    let values = numbered c.args.number c.args.values.items in
    let new = c.in_ok-indexes-in-None.indexes in
    let after = c.insert.new.self in
    let puts : Puts name_of name_cmp ms.entries after.entries name (Some new) = puts_from name_of name_cmp name_cmp_total name_exact ms c.get_mut.follows.lender-at-none after name (Some new) c.get_mut.follows.holds-at-none c.in_ok-insert-in-None.ensures.updates in
    whole_with_id by_names ms.entries after.entries name new c.self.invariant (ascends (by_seen name_of name_cmp) after.entries c.in_ok-insert-in-None.ensures.ordered) puts values c.args.id
    (c.in_ok-indexes-in-None.ensures
    ∙ ap (λ (o : Option TableIndexes). with_id values c.args.id (unwrap_or o empty)) (c.in-None.ensures.value ∙ ap (λ (n : List ℕ). found_at name_of name_cmp n ms.entries) (sym c.in_ok-from_str-in-None.ensures.ok)))
    ∙ (λ i. with_id (index_key (c.in_ok-from_str-in-None.ensures.ok i) c.args.number c.args.values.items) c.args.id (c.self.view_is i))

pub returns-in_ok-insert-in-None-clause-is_new : goal.returns-in_ok-insert-in-None-clause-is_new
returns-in_ok-insert-in-None-clause-is_new c =
    let name = c.args.table.now in
    let values = numbered c.args.number c.args.values.items in
    ap not
    (whole_indexed by_names c.self.inside.tables.entries name values c.args.id c.self.invariant _ c.in-None.ensures.value
    ∙ ap (λ (indexes : Indexes). is_indexed indexes (index_key name c.args.number c.args.values.items) c.args.id) c.self.view_is)
