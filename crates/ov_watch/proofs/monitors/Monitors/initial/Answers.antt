use Rattle.std.proofs.Common.{◌≡◌, ℕ, Bool, List, Some, option_map, sym, ap, ◌∙◌, String, string_bytes, Global}
use Rattle.std.specs.List.{find}
use Rattle.std.specs.Map.{lookup}
use Rattle.std.specs.Option.{option_copied}
use Rattle.std.specs.Str.{bytes_eq}
use Rattle.ov_specs.specs.monitors.Monitors.{is_named}
use Rattle.ov_specs.specs.monitors.Updates.{initial}
use Rattle.ov_specs.specs.wire.Frame.{frame}
use Rattle.ov_watch.proofs.Names.{lookup-found}
use Rattle.ov_watch.proofs.monitors.Monitors.initial.Goals as goal

abbrev by_text : List ℕ → String Global → Bool
by_text text k = bytes_eq text (string_bytes k)

pub returns-in-Some : goal.returns-in-Some
returns-in-Some g c =
    let id = c.args.id.now in
    let es = c.self.inside.monitors.entries in
    let rows = c.args.db.now.committed in
    let text_is : c.as_str.result.now ≡ frame id = c.as_str.ensures.value ∙ c.in_ok-name.ensures in
    let found = ap (find (is_named id)) (sym c.self.view_is) ∙ (sym (lookup-found id es c.self.invariant) ∙ (sym (c.get.ensures.value ∙ ap (λ text. lookup (by_text text) es) text_is) ∙ ap option_copied c.in-Some.is)) in
    ap Some (c.in_ok-initial-in-Some.ensures ∙ ap (λ r. initial r c.in-Some.monitor.now) c.rows.ensures) ∙ sym (ap (option_map (initial rows)) found)

pub returns : goal.returns
returns g c =
    let id = c.args.id.now in
    let es = c.self.inside.monitors.entries in
    let rows = c.args.db.now.committed in
    let text_is : c.as_str.result.now ≡ frame id = c.as_str.ensures.value ∙ c.in_ok-name.ensures in
    let found = ap (find (is_named id)) (sym c.self.view_is) ∙ (sym (lookup-found id es c.self.invariant) ∙ (sym (c.get.ensures.value ∙ ap (λ text. lookup (by_text text) es) text_is) ∙ ap option_copied c.in-None.is)) in
    sym (ap (option_map (initial rows)) found)
