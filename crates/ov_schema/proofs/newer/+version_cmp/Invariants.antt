use Rattle.std.proofs.Common.{length}
use Rattle.ov_schema.proofs.newer.+version_cmp.Given as goal

abbrev pub decreases-version_cmp : goal.decreases-version_cmp
decreases-version_cmp l = length l.first.now
