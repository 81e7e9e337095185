use Rattle.ov_specs.proofs.laws.CutLaw.{cut_starts_again}
use Rattle.ov_laws.proofs.cut_starts_again.Goals as goal

pub returns : goal.returns
returns c = cut_starts_again
