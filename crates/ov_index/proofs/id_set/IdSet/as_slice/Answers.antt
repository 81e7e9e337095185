use Rattle.std.proofs.Common.{sym, ap, ◌∙◌}
use Rattle.std.specs.FinMap.{keys}
use Rattle.ov_index.specs.Indexing.{IdSet}
use Rattle.ov_index.proofs.IdSets.{keys-set_of}
use Rattle.ov_index.proofs.id_set.IdSet.as_slice.Goals as goal

pub returns : goal.returns
returns c = c.as_slice.ensures ∙ sym (keys-set_of c.self.inside.ids.items c.self.invariant) ∙ ap (λ (set : IdSet). keys set) c.self.view_is
