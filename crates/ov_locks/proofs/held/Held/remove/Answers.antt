use Rattle.std.proofs.Common.{map, refl, sym, ap, ◌∙◌, rules, arith, string_bytes, true≢false}
use Rattle.std.specs.Prelude.{Some}
use Rattle.std.specs.BTreeMap.{is_at}
use Rattle.std.specs.List.{list_any}
use Rattle.std.specs.Set.{remove_key}
use Rattle.ov_specs.specs.schema.SchemaTypes.{name_cmp}
use Rattle.ov_locks.specs.Held.{HeldNames, names_asked, names_taken}
use Rattle.ov_locks.proofs.HeldNames.{names-found, names-become, names-none, remove-names, any-names, count-set, size-less}
use Rattle.ov_locks.proofs.held.Held.remove.Goals.{in-Some, in_default}
use Rattle.ov_locks.proofs.held.Held.remove.Goals as goal

pub returns-clause-names : goal.returns-clause-names
returns-clause-names c =
    let es = c.self.inside.of.entries in
    let name = c.args.name.now in
    elim c.match-get_mut.branch [
      | in-Some w ↦
          let new = w.remove.new.self in
          let wrote = c.get_mut.follows.holds new in
          rw (w.self-inside-is, ← c.self.view_is) (names-become c.args.session (Some new) (Some w.in-Some.names.now) (remove_key (is_at (name_cmp name))) es (c.get_mut.follows.lender new).entries
          (wrote.3 (search rules)).0 w.in-Some.ensures.value (ap (map string_bytes) w.remove.ensures.keys ∙ remove-names name w.in-Some.names.now.keys))
      | in_default w ↦
          rw (w.self-inside-is, c.get_mut.follows.holds-at-none, ← c.self.view_is) (names-none c.args.session (remove_key (is_at (name_cmp name))) es w.in_default.ensures.value refl)
    ]

pub returns-clause-count : goal.returns-clause-count
returns-clause-count c = λ has.
    let es = c.self.inside.of.entries in
    let name = c.args.name.now in
    let names = ap (λ (h : HeldNames). names_asked c.args.session h) (sym c.self.view_is) ∙ names-found c.args.session es in
    elim c.match-get_mut.branch [
      | in-Some w ↦
          let new = w.remove.new.self in
          let old = w.in-Some.names.now in
          let wrote = c.get_mut.follows.holds new in
          let gone = w.remove.ensures.test ∙ any-names name old.keys ∙ ap (list_any (is_at (name_cmp name))) (sym (names ∙ ap names_taken (sym w.in-Some.ensures.value))) ∙ has in
          let less = size-less old new w.remove.result w.remove.ensures.len gone in
          let total = count-set c.args.session es (c.get_mut.follows.lender new).entries old new wrote.0 w.in-Some.ensures.value in
          rw (w.self-inside-is, ← c.self.view_is) (omega (arith, less, total))
      | in_default w ↦ absurd (true≢false (sym has ∙ ap (list_any (is_at (name_cmp name))) (names ∙ ap names_taken (sym w.in_default.ensures.value))))
    ]
