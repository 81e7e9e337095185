use Rattle.std.proofs.Common.{Option, Some, not, rules, ap, ◌∙◌}
use Rattle.std.specs.Prelude.{unwrap_or}
use Rattle.std.specs.Cmp.{nat_cmp_total}
use Rattle.std.specs.FinMap.{nat_cmp-IsAntisymmetric, empty}
use Rattle.std.specs.Ordering.{nat_cmp}
use Rattle.ov_rows.proofs.Maps.{ascends}
use Rattle.ov_rows.proofs.Nested.{ok_gives, err_gives}
use Rattle.ov_index.specs.Indexing.{is_indexed, with_id}
use Rattle.ov_index.specs.Nested.{IdsByValues, TableIndexes, numbered}
use Rattle.ov_index.proofs.IdMaps.{whole_with_id, whole_same, whole_indexed}
use Rattle.ov_index.proofs.IndexMaps.{number_of, by_numbers, if_ok}
use Rattle.ov_index.proofs.SeenKeys.{Puts, puts_of, puts_from}
use Rattle.ov_index.proofs.table_indexes.TableIndexes.add.Goals as goal

pub invariant_of-self : goal.invariant_of-self
invariant_of-self c = ascends nat_cmp _ (c.get_mut.follows.holds c.add.new.self).4

pub invariant_of-self-in-None : goal.invariant_of-self-in-None
invariant_of-self-in-None c = ascends nat_cmp c.insert.new.self.entries c.in_ok-insert-in-None.ensures.ordered

pub returns-in-Some-clause-ok : goal.returns-in-Some-clause-ok
returns-in-Some-clause-ok c =
    let ms = c.self.inside.indexes in
    let values = c.args.values.items in
    let new = c.add.new.self in
    let after = c.get_mut.follows.lender new in
    let wrote = c.get_mut.follows.holds new in
    let puts : Puts number_of nat_cmp ms.entries after.entries c.args.number (Some new) = puts_of number_of nat_cmp nat_cmp_total nat_cmp-IsAntisymmetric ms after c.args.number (Some new) (wrote.3 (search rules)) in
    ok_gives c.add.result _ _ (λ put.
    whole_with_id by_numbers ms.entries after.entries c.args.number new c.self.invariant (ascends nat_cmp _ wrote.4) puts values c.args.id
    (put ∙ ap (λ (o : Option IdsByValues). with_id values c.args.id (unwrap_or o empty)) c.in-Some.ensures.value)
    ∙ ap (λ (table : TableIndexes). with_id (numbered c.args.number values) c.args.id table) c.self.view_is) c.add.ensures.ok

pub returns-in-Some-clause-is_new : goal.returns-in-Some-clause-is_new
returns-in-Some-clause-is_new c =
    let values = c.args.values.items in
    if_ok c.add.result _ _ (λ is_new is.
    is ∙ ap not
    (whole_indexed by_numbers c.self.inside.indexes.entries c.args.number values c.args.id c.self.invariant _ c.in-Some.ensures.value
    ∙ ap (λ (table : TableIndexes). is_indexed table (numbered c.args.number values) c.args.id) c.self.view_is)) c.add.ensures.is_new

pub returns-in-Some-clause-err : goal.returns-in-Some-clause-err
returns-in-Some-clause-err c =
    let ms = c.self.inside.indexes in
    let new = c.add.new.self in
    let after = c.get_mut.follows.lender new in
    let wrote = c.get_mut.follows.holds new in
    let puts : Puts number_of nat_cmp ms.entries after.entries c.args.number (Some new) = puts_of number_of nat_cmp nat_cmp_total nat_cmp-IsAntisymmetric ms after c.args.number (Some new) (wrote.3 (search rules)) in
    err_gives c.add.result _ _ (λ same.
    whole_same by_numbers ms.entries after.entries c.args.number new c.self.invariant (ascends nat_cmp _ wrote.4) puts c.in-Some.index.now c.in-Some.ensures.value same
    ∙ c.self.view_is) c.add.ensures.err

pub returns-in_ok-insert-in-None-clause-ok : goal.returns-in_ok-insert-in-None-clause-ok
returns-in_ok-insert-in-None-clause-ok c =
    let ms = c.self.inside.indexes in
    let values = c.args.values.items in
    let new = c.in_ok-index-in-None.index in
    let after = c.insert.new.self in
    let puts : Puts number_of nat_cmp ms.entries after.entries c.args.number (Some new) = puts_from number_of nat_cmp nat_cmp_total nat_cmp-IsAntisymmetric ms c.get_mut.follows.lender-at-none after c.args.number (Some new) c.get_mut.follows.holds-at-none c.in_ok-insert-in-None.ensures.updates in
    whole_with_id by_numbers ms.entries after.entries c.args.number new c.self.invariant (ascends nat_cmp after.entries c.in_ok-insert-in-None.ensures.ordered) puts values c.args.id
    (c.in_ok-index-in-None.ensures ∙ ap (λ (o : Option IdsByValues). with_id values c.args.id (unwrap_or o empty)) c.in-None.ensures.value)
    ∙ ap (λ (table : TableIndexes). with_id (numbered c.args.number values) c.args.id table) c.self.view_is

pub returns-in_ok-insert-in-None-clause-is_new : goal.returns-in_ok-insert-in-None-clause-is_new
returns-in_ok-insert-in-None-clause-is_new c =
    let values = c.args.values.items in
    ap not
    (whole_indexed by_numbers c.self.inside.indexes.entries c.args.number values c.args.id c.self.invariant _ c.in-None.ensures.value
    ∙ ap (λ (table : TableIndexes). is_indexed table (numbered c.args.number values) c.args.id) c.self.view_is)
