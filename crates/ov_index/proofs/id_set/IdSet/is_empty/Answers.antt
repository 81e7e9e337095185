use Rattle.std.proofs.Common.{◌==◌, sym, ap, ◌∙◌}
use Rattle.std.specs.FinMap.{len}
use Rattle.ov_index.specs.Indexing.{IdSet}
use Rattle.ov_index.proofs.IdSets.{len-set_of}
use Rattle.ov_index.proofs.id_set.IdSet.is_empty.Goals as goal

pub returns : goal.returns
returns c = c.is_empty.ensures ∙ ap (λ n. n == 0) (sym (len-set_of c.self.inside.ids.items c.self.invariant)) ∙ ap (λ (set : IdSet). len set == 0) c.self.view_is
