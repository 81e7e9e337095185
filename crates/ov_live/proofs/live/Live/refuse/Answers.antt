use Rattle.std.proofs.Common.{List, ℕ, ◌∷◌, [], ap, sym, refl}
use Rattle.ov_specs.specs.machine.Machine.{to_session}
use Rattle.ov_specs.specs.wire.Frame.{failure_tree}
use Rattle.ov_live.proofs.Workings.{answered_works, rest_posted}
use Rattle.ov_live.proofs.live.Live.refuse.Goals as goal

pub returns-in-Ok-clause-works : goal.returns-in-Ok-clause-works
returns-in-Ok-clause-works g c = λ moment.
    let tree = failure_tree c.args.id c.args.text.now in
    answered_works moment c.args.session (tree ∷ []) c.args.self.now c.send.result _ refl c.send.ensures.queues (c.send.ensures.posts (tree ∷ []) (ap (λ (bytes : List ℕ). bytes ∷ []) (sym c.in-Ok.ensures)))

pub returns-in-Ok-clause-rest : goal.returns-in-Ok-clause-rest
returns-in-Ok-clause-rest g c =
    let tree = failure_tree c.args.id c.args.text.now in
    rest_posted (to_session c.args.session (tree ∷ [])) c.args.self.now c.send.result _ c.args.self.now.outbox.frames c.send.new.outbox.frames (c.send.ensures.posts (tree ∷ []) (ap (λ (bytes : List ℕ). bytes ∷ []) (sym c.in-Ok.ensures))) refl refl
