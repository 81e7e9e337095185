use Rattle.std.proofs.Common.{List, ℕ, ◌∷◌, [], true, false, codes, refl, ap, sym, ◌≡◌, rules}
use Rattle.std.specs.Prelude.{is_some}
use Rattle.ov_specs.specs.machine.Machine.{to_session}
use Rattle.ov_specs.specs.wire.Frame.{failure_tree}
use Rattle.ov_live.proofs.Workings.{cancel_refused, posted}
use Rattle.ov_live.proofs.live.Live.cancel.Goals as goal

pub returns-then-is_some : goal.returns-then-is_some
returns-then-is_some g c =
    let tree = failure_tree c.args.id (codes "canceled") in
    let some : is_some c.send-outcome.result ≡ true = search rules in
    cancel_refused c.args.session c.args.id c.args.text (to_session c.args.session (tree ∷ [])) c.args.self.now c.send-outcome.result c.send-outcome.new.outbox some c.send-outcome.ensures.queues
    (c.send-outcome.ensures.posts (tree ∷ []) (ap (λ (bytes : List ℕ). bytes ∷ []) (sym c.in-Ok.ensures)))

pub returns : goal.returns
returns g c =
    let tree = failure_tree c.args.id (codes "canceled") in
    let none : is_some c.send-outcome.result ≡ false = search rules in
    let posts = posted (to_session c.args.session (tree ∷ [])) c.args.self.now.outbox.frames c.send-outcome.new.outbox.frames c.send-outcome.result none
    (c.send-outcome.ensures.posts (tree ∷ []) (ap (λ (bytes : List ℕ). bytes ∷ []) (sym c.in-Ok.ensures))) in
    rw (c.remove.ensures, c.as_slice.ensures) (posts, c.send-outcome.ensures.queues, refl)
