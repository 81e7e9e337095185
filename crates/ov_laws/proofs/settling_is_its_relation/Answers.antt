use Rattle.ov_laws.proofs.Settling.{settling_is}
use Rattle.ov_laws.proofs.settling_is_its_relation.Goals as goal

pub returns : goal.returns
returns c = settling_is
