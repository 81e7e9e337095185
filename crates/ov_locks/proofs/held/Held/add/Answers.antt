use Rattle.std.proofs.Common.{ℕ, ◌+◌, [], ◌∷◌, map, length, not, sym, ap, ◌∙◌, rules, arith, string_bytes}
use Rattle.std.specs.Prelude.{Some, None}
use Rattle.std.specs.BTreeMap.{BTreeMap, is_at, insert_entry}
use Rattle.std.specs.BTreeSet.{insert_key}
use Rattle.std.specs.List.{list_any}
use Rattle.std.specs.Ordering.{nat_cmp}
use Rattle.ov_specs.specs.schema.SchemaTypes.{name_cmp}
use Rattle.ov_locks.specs.Held.{HeldNames, NameSet, names_asked, names_taken, names_of_set, requests_in, held_of}
use Rattle.ov_locks.proofs.Given.{on_err}
use Rattle.ov_locks.proofs.HeldNames.{names-found, names-become, insert-names, any-names, count-set, count-first, size-more, held-same}
use Rattle.ov_locks.proofs.held.Held.add.Goals as goal

pub returns-in_err-insert-in-Some-clause-err : goal.returns-in_err-insert-in-Some-clause-err
returns-in_err-insert-in-Some-clause-err c =
    let new = c.insert.new.self in
    let wrote = c.get_mut.follows.holds new in
    on_err _ _ (ap held_of wrote.0
    ∙ held-same (is_at (nat_cmp c.args.session)) c.in-Some.names.now new c.self.inside.of.entries c.in-Some.ensures.value (ap (map string_bytes) c.in_err-insert-in-Some.ensures.err)
    ∙ c.self.view_is)

pub returns-in_ok-insert-in-Some-clause-names : goal.returns-in_ok-insert-in-Some-clause-names
returns-in_ok-insert-in-Some-clause-names c =
    let new = c.insert.new.self in
    let old = c.in-Some.names.now in
    let name = c.args.name.now in
    let wrote = c.get_mut.follows.holds new in
    rw (← c.self.view_is) (names-become c.args.session (Some new) (Some old) (λ ns. insert_key name_cmp ns name) c.self.inside.of.entries (c.get_mut.follows.lender new).entries
    (wrote.3 (search rules)).0 c.in-Some.ensures.value
    (ap (map string_bytes) c.in_ok-insert-in-Some.ensures.keys ∙ insert-names c.in_ok-name.name old.keys ∙ ap (insert_key name_cmp (names_of_set old)) c.in_ok-name.ensures.ok))

pub returns-in_ok-insert-in-Some-clause-count : goal.returns-in_ok-insert-in-Some-clause-count
returns-in_ok-insert-in-Some-clause-count c =
    let es = c.self.inside.of.entries in
    let new = c.insert.new.self in
    let old = c.in-Some.names.now in
    let name = c.args.name.now in
    let wrote = c.get_mut.follows.holds new in
    let names = ap (λ (h : HeldNames). names_asked c.args.session h) (sym c.self.view_is) ∙ names-found c.args.session es ∙ ap names_taken (sym c.in-Some.ensures.value) in
    let added =
    c.in_ok-insert-in-Some.ensures.added
    ∙ ap not (any-names (string_bytes c.in_ok-name.name) old.keys ∙ ap (λ n. list_any (is_at (name_cmp n)) (names_of_set old)) c.in_ok-name.ensures.ok ∙ ap (list_any (is_at (name_cmp name))) (sym names) ∙ c.requires) in
    let more = size-more old new c.in_ok-insert-in-Some.field-0 c.in_ok-insert-in-Some.ensures.len added in
    let total = count-set c.args.session es (c.get_mut.follows.lender new).entries old new wrote.0 c.in-Some.ensures.value in
    rw (← c.self.view_is) (omega (arith, more, total))

pub returns-in_ok-insert-in-None-clause-names : goal.returns-in_ok-insert-in-None-clause-names
returns-in_ok-insert-in-None-clause-names c =
    let new = c.in_ok-set_of-in-None.field-0 in
    let name = c.args.name.now in
    rw (← c.self.view_is) (names-become c.args.session (Some new) None (λ ns. insert_key name_cmp ns name) c.self.inside.of.entries c.insert-in-None.new.self.entries
    (rw c.get_mut.follows.holds-at-none at c.in_ok-insert-in-None.ensures.updates.0) c.in-None.ensures.value
    (ap (map string_bytes) c.in_ok-set_of-in-None.ensures ∙ ap (λ n. n ∷ []) c.in_ok-name.ensures.ok))

pub returns-in_ok-insert-in-None-clause-count : goal.returns-in_ok-insert-in-None-clause-count
returns-in_ok-insert-in-None-clause-count c =
    let new = c.in_ok-set_of-in-None.field-0 in
    let total =
    count-first c.args.session c.self.inside.of.entries c.insert-in-None.new.self.entries new c.get_mut.ensures.ordered
    (c.in_ok-insert-in-None.ensures.entries ∙ ap (λ (m : BTreeMap ℕ NameSet). insert_entry nat_cmp m.entries c.args.session new) c.get_mut.follows.holds-at-none) c.in-None.ensures.value in
    rw (← c.self.view_is) (total ∙ ap (λ ks. requests_in (held_of c.self.inside.of.entries) + length (map string_bytes ks)) c.in_ok-set_of-in-None.ensures)
