use Rattle.std.proofs.Common.{refl}
use Rattle.ov_keeper.specs.VolatileKeeper.{contents_of}
use Rattle.ov_keeper.proofs.FormatLemmas.{found_format}
use Rattle.ov_keeper.proofs.volatile.VolatileKeeperKeeper.format.Goals as goal

pub returns-clause-found : goal.returns-clause-found
returns-clause-found c honest held is = found_format (contents_of c.args.self.now) refl held is
