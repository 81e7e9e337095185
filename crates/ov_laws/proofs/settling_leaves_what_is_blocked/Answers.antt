use Rattle.ov_specs.proofs.laws.Settling.{settle_blocks}
use Rattle.ov_laws.proofs.settling_leaves_what_is_blocked.Goals as goal

pub returns : goal.returns
returns c = settle_blocks
