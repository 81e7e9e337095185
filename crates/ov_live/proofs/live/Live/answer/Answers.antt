use Rattle.std.proofs.Common.{List, ℕ, ◌∷◌, [], ap, sym}
use Rattle.ov_specs.specs.wire.Frame.{reply_tree}
use Rattle.ov_live.proofs.live.Live.answer.Goals as goal

pub returns-in-Ok-clause-posts : goal.returns-in-Ok-clause-posts
returns-in-Ok-clause-posts g c = c.send.ensures.posts (reply_tree c.args.id c.args.told ∷ []) (ap (λ (bytes : List ℕ). bytes ∷ []) (sym c.in-Ok.ensures))
