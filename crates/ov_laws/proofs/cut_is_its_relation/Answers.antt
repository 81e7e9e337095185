use Rattle.ov_specs.proofs.laws.CutLaw.{cut_is_its_relation}
use Rattle.ov_laws.proofs.cut_is_its_relation.Goals as goal

pub returns : goal.returns
returns c = cut_is_its_relation
