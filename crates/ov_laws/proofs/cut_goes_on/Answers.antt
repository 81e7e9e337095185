use Rattle.ov_specs.proofs.laws.CutLaw.{cut_goes_on}
use Rattle.ov_laws.proofs.cut_goes_on.Goals as goal

pub returns : goal.returns
returns c = cut_goes_on
