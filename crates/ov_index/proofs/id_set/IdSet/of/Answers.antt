use Rattle.std.proofs.Common.{◌++◌, ◌∷◌, [], ap, ◌∙◌}
use Rattle.ov_index.specs.Indexing.{set_of_ids}
use Rattle.ov_index.proofs.IdSets.{set_of-one}
use Rattle.ov_index.proofs.id_set.IdSet.of.Goals as goal

pub returns : goal.returns
returns c = ap set_of_ids (c.in_ok-push.ensures.ok ∙ ap (λ ids. ids ++ c.args.id ∷ []) c.new-ids.ensures.items) ∙ set_of-one c.args.id
