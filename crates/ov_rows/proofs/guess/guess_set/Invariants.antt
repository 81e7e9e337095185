use Rattle.std.proofs.Common.{length}
use Rattle.ov_rows.proofs.guess.guess_set.Given as goal

abbrev pub decreases-atoms : goal.decreases-atoms
decreases-atoms l = length l.reader
