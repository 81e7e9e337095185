use Rattle.std.proofs.Common.{sym, ap, ◌∙◌}
use Rattle.std.specs.FinMap.{len}
use Rattle.ov_index.specs.Indexing.{IdSet}
use Rattle.ov_index.proofs.IdSets.{len-set_of}
use Rattle.ov_index.proofs.id_set.IdSet.len.Goals as goal

pub returns : goal.returns
returns c = c.len.ensures.value ∙ sym (len-set_of c.self.inside.ids.items c.self.invariant) ∙ ap (λ (set : IdSet). len set) c.self.view_is
