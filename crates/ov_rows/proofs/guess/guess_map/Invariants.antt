use Rattle.std.proofs.Common.{length}
use Rattle.ov_rows.proofs.guess.guess_map.Given as goal

abbrev pub decreases-pairs : goal.decreases-pairs
decreases-pairs l = length l.reader
