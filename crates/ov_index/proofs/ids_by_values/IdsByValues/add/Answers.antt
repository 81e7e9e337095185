use Rattle.std.proofs.Common.{List, Option, Some, not, rules, sym, ap, ◌∙◌}
use Rattle.std.specs.Prelude.{unwrap_or}
use Rattle.std.specs.FinMap.{empty, contains_key, insert}
use Rattle.ov_rows.proofs.Maps.{ascends}
use Rattle.ov_rows.proofs.Nested.{ok_gives, err_gives}
use Rattle.ov_specs.specs.schema.Schema.{is_some_and}
use Rattle.ov_specs.specs.values.Value.{Datum}
use Rattle.ov_index.specs.IndexKeys.{values_cmp}
use Rattle.ov_index.specs.Indexing.{IdSet, is_indexed, with_id}
use Rattle.ov_index.specs.KeyOrder.{values_total, values_exact}
use Rattle.ov_index.specs.Nested.{IdsByValues}
use Rattle.ov_index.proofs.IdMaps.{seen_with_id, seen_same, seen_indexed}
use Rattle.ov_index.proofs.IndexMaps.{items_of, if_ok}
use Rattle.ov_index.proofs.SeenKeys.{Puts, by_seen, found_at, puts_of, puts_from}
use Rattle.ov_index.proofs.ids_by_values.IdsByValues.add.Goals as goal

pub invariant_of-self : goal.invariant_of-self
invariant_of-self c = ascends (by_seen items_of values_cmp) _ (c.get_mut.follows.holds c.insert.new.self).4

pub invariant_of-self-in-None : goal.invariant_of-self-in-None
invariant_of-self-in-None c = ascends (by_seen items_of values_cmp) c.insert-in-None.new.self.entries c.in_ok-insert-in-None.ensures.ordered

pub returns-in-Some-clause-ok : goal.returns-in-Some-clause-ok
returns-in-Some-clause-ok c =
    let es = c.self.inside.ids in
    let key = c.as_slice.result.now in
    let new = c.insert.new.self in
    let after = c.get_mut.follows.lender new in
    let wrote = c.get_mut.follows.holds new in
    let puts : Puts items_of values_cmp es.entries after.entries key (Some new) = puts_of items_of values_cmp values_total values_exact es after key (Some new) (wrote.3 (search rules)) in
    ok_gives c.insert.result _ _ (λ put.
    seen_with_id items_of values_total values_exact es.entries after.entries c.self.invariant (ascends (by_seen items_of values_cmp) _ wrote.4) key new c.args.id puts
    (put ∙ ap (λ (o : Option IdSet). insert (unwrap_or o empty) c.args.id tt) c.in-Some.ensures.value)
    ∙ (λ i. with_id (c.as_slice.ensures.value i) c.args.id (c.self.view_is i))) c.insert.ensures.ok

pub returns-in-Some-clause-is_new : goal.returns-in-Some-clause-is_new
returns-in-Some-clause-is_new c =
    if_ok c.insert.result _ _ (λ is_new is.
    is ∙ ap not
    (ap (is_some_and (λ (ids : IdSet). contains_key ids c.args.id)) c.in-Some.ensures.value
    ∙ sym (seen_indexed items_of values_cmp c.self.inside.ids.entries c.as_slice.result.now c.args.id c.self.invariant)
    ∙ (λ i. is_indexed (c.self.view_is i) (c.as_slice.ensures.value i) c.args.id))) c.insert.ensures.is_new

pub returns-in-Some-clause-err : goal.returns-in-Some-clause-err
returns-in-Some-clause-err c =
    let es = c.self.inside.ids in
    let key = c.as_slice.result.now in
    let new = c.insert.new.self in
    let after = c.get_mut.follows.lender new in
    let wrote = c.get_mut.follows.holds new in
    let puts : Puts items_of values_cmp es.entries after.entries key (Some new) = puts_of items_of values_cmp values_total values_exact es after key (Some new) (wrote.3 (search rules)) in
    err_gives c.insert.result _ _ (λ same.
    seen_same items_of values_total values_exact es.entries after.entries c.self.invariant (ascends (by_seen items_of values_cmp) _ wrote.4) key c.in-Some.ids.now new puts c.in-Some.ensures.value same
    ∙ c.self.view_is) c.insert.ensures.err

pub returns-in_ok-insert-in-None-clause-ok : goal.returns-in_ok-insert-in-None-clause-ok
returns-in_ok-insert-in-None-clause-ok c =
    let es = c.self.inside.ids in
    let key = c.args.values.items in
    let set = c.in_ok-of-in-None.field-0 in
    let after = c.insert-in-None.new.self in
    let puts : Puts items_of values_cmp es.entries after.entries key (Some set) = puts_from items_of values_cmp values_total values_exact es c.get_mut.follows.lender-at-none after key (Some set) c.get_mut.follows.holds-at-none c.in_ok-insert-in-None.ensures.updates in
    seen_with_id items_of values_total values_exact es.entries after.entries c.self.invariant (ascends (by_seen items_of values_cmp) after.entries c.in_ok-insert-in-None.ensures.ordered) key set c.args.id puts
    (c.in_ok-of-in-None.ensures ∙ ap (λ (o : Option IdSet). insert (unwrap_or o empty) c.args.id tt) (c.in-None.ensures.value ∙ ap (λ (k : List Datum). found_at items_of values_cmp k es.entries) c.as_slice.ensures.value))
    ∙ ap (λ (all : IdsByValues). with_id key c.args.id all) c.self.view_is

pub returns-in_ok-insert-in-None-clause-is_new : goal.returns-in_ok-insert-in-None-clause-is_new
returns-in_ok-insert-in-None-clause-is_new c =
    ap not
    (ap (is_some_and (λ (ids : IdSet). contains_key ids c.args.id)) c.in-None.ensures.value
    ∙ sym (seen_indexed items_of values_cmp c.self.inside.ids.entries c.as_slice.result.now c.args.id c.self.invariant)
    ∙ (λ i. is_indexed (c.self.view_is i) (c.as_slice.ensures.value i) c.args.id))
