use Rattle.std.proofs.Common.{List, ◌∷◌, [], ℕ, ap, sym}
use Rattle.serde_json.specs.Data.{array}
use Rattle.ov_specs.specs.wire.Frame.{reply_tree}
use Rattle.ov_live.proofs.attempt.answer.Goals as goal

pub returns-in-Ok-clause-posts : goal.returns-in-Ok-clause-posts
returns-in-Ok-clause-posts c = c.send.ensures.posts (reply_tree c.args.id.now (array c.args.results) ∷ []) (ap (λ (bytes : List ℕ). bytes ∷ []) (sym c.in-Ok.ensures))
