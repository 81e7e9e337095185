use Rattle.std.proofs.Common.{◌≡◌, ◌≤◌, ◌<◌, ℕ, List, Bool, [], ◌∷◌, ◌++◌, length, map, is_some, option_map, sym, ap, subst, ◌∙◌, Ok, String, string_bytes, Global}
use Rattle.std.specs.List.{list_any}
use Rattle.std.specs.Map.{lookup}
use Rattle.std.specs.Str.{bytes_eq}
use Rattle.std.specs.String.{string_eq}
use Rattle.serde_json.specs.View.{view}
use Rattle.indexmap.proofs.CallerLemmas.{insert_entry-new}
use Rattle.ov_specs.specs.monitors.Monitors.{Monitor, is_named, with_monitor}
use Rattle.ov_specs.specs.monitors.Requests.{monitored_tables}
use Rattle.ov_specs.specs.wire.Frame.{frame}
use Rattle.ov_watch.proofs.Adding.{duplicate, full, judged, refused, not_there}
use Rattle.ov_watch.proofs.Names.{AreUnderNames, lookup-any, pushed, pushed-names, counted}
use Rattle.ov_watch.proofs.monitors.Monitors.add.Goals as goal

abbrev by_text : List ℕ → String Global → Bool
by_text text k = bytes_eq text (string_bytes k)

pub returns-then-contains_key-clause-added : goal.returns-then-contains_key-clause-added
returns-then-contains_key-clause-added c =
    let id = c.args.id in
    let es = c.self.inside.monitors.entries in
    let text_is : c.as_str.result.now ≡ frame id = c.as_str.ensures.value ∙ c.in_ok-name.ensures in
    let read = sym c.in_ok-asked.ensures ∙ ap (option_map (λ v. v.items)) c.in-Some.is in
    let same = ap (list_any (is_named id)) (sym c.self.view_is) ∙ (sym (lookup-any id es c.self.invariant) ∙ sym (c.contains_key.ensures ∙ ap (λ text. is_some (lookup (by_text text) es)) text_is)) in
    duplicate c.args.schema.now c.args.self.now id (view c.args.requests.now) c.in-Some.asked.items read (same ∙ c.if-contains_key.true)

pub returns-then-len-ge-MAX_MONITORS-clause-added : goal.returns-then-len-ge-MAX_MONITORS-clause-added
returns-then-len-ge-MAX_MONITORS-clause-added c =
    let id = c.args.id in
    let es = c.self.inside.monitors.entries in
    let text_is : c.as_str.result.now ≡ frame id = c.as_str.ensures.value ∙ c.in_ok-name.ensures in
    let read = sym c.in_ok-asked.ensures ∙ ap (option_map (λ v. v.items)) c.in-Some.is in
    let same = ap (list_any (is_named id)) (sym c.self.view_is) ∙ (sym (lookup-any id es c.self.invariant) ∙ sym (c.contains_key.ensures ∙ ap (λ text. is_some (lookup (by_text text) es)) text_is)) in
    let many = c.len.ensures.len ∙ (sym (counted es) ∙ ap length c.self.view_is) in
    full c.args.schema.now c.args.self.now id (view c.args.requests.now) c.in-Some.asked.items read (same ∙ c.if-contains_key.false) (subst (λ n. 64 ≤ n) many c.if-len-ge-MAX_MONITORS.true)

pub returns-in-Err-clause-added : goal.returns-in-Err-clause-added
returns-in-Err-clause-added c =
    let id = c.args.id in
    let es = c.self.inside.monitors.entries in
    let text_is : c.as_str.result.now ≡ frame id = c.as_str.ensures.value ∙ c.in_ok-name.ensures in
    let read = sym c.in_ok-asked.ensures ∙ ap (option_map (λ v. v.items)) c.in-Some.is in
    let same = ap (list_any (is_named id)) (sym c.self.view_is) ∙ (sym (lookup-any id es c.self.invariant) ∙ sym (c.contains_key.ensures ∙ ap (λ text. is_some (lookup (by_text text) es)) text_is)) in
    let many = c.len.ensures.len ∙ (sym (counted es) ∙ ap length c.self.view_is) in
    let all = judged c.args.schema.now c.args.self.now id (view c.args.requests.now) c.in-Some.asked.items read (same ∙ c.if-contains_key.false) (subst (λ n. n < 64) many c.if-len-ge-MAX_MONITORS.false)
    ∙ ap (λ ts. with_monitor c.args.self.now id (monitored_tables c.args.schema.now ts)) (sym c.as_slice.ensures.value) in
    refused {A = Unit {0}} {B = Unit {0}} (λ _. c.args.self.now) (λ _. []) c.args.self.now id (monitored_tables c.args.schema.now c.as_slice.result.now) _ c.in-Err.fault all c.in-Err.ensures

pub invariant_of-self : goal.invariant_of-self
invariant_of-self c =
    let id = c.args.id in
    let es = c.self.inside.monitors.entries in
    let name = c.in_ok-name.name in
    let monitor : Monitor = record { id = id; tables = c.in-Ok.tables.items } in
    let none = not_there (lookup (string_eq name) es) (ap (λ text. is_some (lookup (by_text text) es)) (sym c.as_str.ensures.value) ∙ sym c.contains_key.ensures ∙ c.if-contains_key.false) in
    subst AreUnderNames (sym (c.in-Ok-insert.ensures.entries ∙ insert_entry-new string_eq c.self.inside.monitors name monitor none)) (pushed-names es (name, monitor) c.self.invariant c.in_ok-name.ensures)

pub returns-in-Ok-insert-clause-added : goal.returns-in-Ok-insert-clause-added
returns-in-Ok-insert-clause-added c =
    let id = c.args.id in
    let es = c.self.inside.monitors.entries in
    let name = c.in_ok-name.name in
    let monitor : Monitor = record { id = id; tables = c.in-Ok.tables.items } in
    let text_is : c.as_str.result.now ≡ frame id = c.as_str.ensures.value ∙ c.in_ok-name.ensures in
    let read = sym c.in_ok-asked.ensures ∙ ap (option_map (λ v. v.items)) c.in-Some.is in
    let same = ap (list_any (is_named id)) (sym c.self.view_is) ∙ (sym (lookup-any id es c.self.invariant) ∙ sym (c.contains_key.ensures ∙ ap (λ text. is_some (lookup (by_text text) es)) text_is)) in
    let many = c.len.ensures.len ∙ (sym (counted es) ∙ ap length c.self.view_is) in
    let all = judged c.args.schema.now c.args.self.now id (view c.args.requests.now) c.in-Some.asked.items read (same ∙ c.if-contains_key.false) (subst (λ n. n < 64) many c.if-len-ge-MAX_MONITORS.false)
    ∙ ap (λ ts. with_monitor c.args.self.now id (monitored_tables c.args.schema.now ts)) (sym c.as_slice.ensures.value) in
    let none = not_there (lookup (string_eq name) es) (ap (λ text. is_some (lookup (by_text text) es)) (sym c.as_str.ensures.value) ∙ sym c.contains_key.ensures ∙ c.if-contains_key.false) in
    let entries_are = c.in-Ok-insert.ensures.entries ∙ insert_entry-new string_eq c.self.inside.monitors name monitor none in
    all ∙ ap (with_monitor c.args.self.now id) c.in-Ok.ensures
    ∙ ap Ok (ap (λ ms. ms ++ monitor ∷ []) (sym c.self.view_is) ∙ (sym (pushed es (name, monitor)) ∙ sym (ap (map (λ e. e.1)) entries_are)))
