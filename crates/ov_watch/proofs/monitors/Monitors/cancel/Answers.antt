use Rattle.std.proofs.Common.{◌≡◌, ℕ, List, Bool, true, false, map, is_some, not, None, refl, sym, ap, subst, ◌∙◌, Ok, Err, String, string_bytes, Global}
use Rattle.std.specs.Str.{bytes_eq}
use Rattle.ov_specs.specs.wire.Frame.{frame}
use Rattle.std.specs.List.{filter, list_any}
use Rattle.std.specs.Map.{lookup, remove_entry}
use Rattle.serde_json.specs.Data.{Data}
use Rattle.ov_specs.specs.monitors.Monitors.{Monitor, is_named, canceled}
use Rattle.ov_specs.specs.monitors.Requests.{Unknown}
use Rattle.ov_watch.proofs.Names.{is_key, AreUnderNames, lookup-any, removed, removed-names}
use Rattle.ov_watch.proofs.monitors.Monitors.cancel.Goals as goal

cancels : (id : Data) (monitors left : List Monitor) → list_any (is_named id) monitors ≡ true → left ≡ filter (λ m. not (is_named id m)) monitors → canceled monitors id ≡ Ok left
cancels id monitors left there is = rw there (ap Ok (sym is))

refuses : (id : Data) (monitors : List Monitor) → list_any (is_named id) monitors ≡ false → canceled monitors id ≡ Err Unknown
refuses id monitors absent = rw absent refl

-- a key that is looked up by this text
abbrev by_text : List ℕ → String Global → Bool
by_text text k = bytes_eq text (string_bytes k)

pub invariant_of-self : goal.invariant_of-self
invariant_of-self c =
    let es = c.self.inside.monitors.entries in
    let text_is : c.as_str.result.now ≡ frame c.args.id.now = c.as_str.ensures.value ∙ c.in_ok-name.ensures in
    subst AreUnderNames (sym (c.shift_remove.ensures.entries ∙ ap (λ text. remove_entry (by_text text) es) text_is)) (removed-names c.args.id.now es c.self.invariant)

pub returns-in-Some-clause-canceled : goal.returns-in-Some-clause-canceled
returns-in-Some-clause-canceled c =
    let id = c.args.id.now in
    let es = c.self.inside.monitors.entries in
    let text_is : c.as_str.result.now ≡ frame id = c.as_str.ensures.value ∙ c.in_ok-name.ensures in
    let entries_are = c.shift_remove.ensures.entries ∙ ap (λ text. remove_entry (by_text text) es) text_is in
    let there : list_any (is_named id) (map (λ e. e.1) es) ≡ true =
    sym (lookup-any id es c.self.invariant) ∙ ap is_some (sym (c.shift_remove.ensures.value ∙ ap (λ text. lookup (by_text text) es) text_is) ∙ c.in-Some.is) in
    let none : lookup (is_key id) (remove_entry (is_key id) es) ≡ None =
    ap (lookup (is_key id)) (sym entries_are) ∙ sym (ap (λ text. lookup (by_text text) c.shift_remove.new.self.entries) text_is) ∙ c.shift_remove.ensures.updates.1 in
    cancels id c.args.self.now (map (λ e. e.1) c.shift_remove.new.self.entries)
    (ap (list_any (is_named id)) (sym c.self.view_is) ∙ there)
    (ap (map (λ e. e.1)) entries_are ∙ removed id es c.self.invariant none ∙ ap (filter (λ m. not (is_named id m))) c.self.view_is)

pub returns-clause-canceled : goal.returns-clause-canceled
returns-clause-canceled c =
    let id = c.args.id.now in
    let es = c.self.inside.monitors.entries in
    let text_is : c.as_str.result.now ≡ frame id = c.as_str.ensures.value ∙ c.in_ok-name.ensures in
    refuses id c.args.self.now
    (ap (list_any (is_named id)) (sym c.self.view_is) ∙ (sym (lookup-any id es c.self.invariant) ∙ ap is_some (sym (c.shift_remove.ensures.value ∙ ap (λ text. lookup (by_text text) es) text_is) ∙ c.in-None.is)))
