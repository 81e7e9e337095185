use Rattle.std.proofs.Common.{◌<◌, ℕ, get_or}
use Rattle.ov_atoms.proofs.identifier.are_sixteen.Given as goal

abbrev pub invariant-loop-index : goal.invariant-loop-index
invariant-loop-index l = (k : ℕ) → k < l.index → get_or l.bytes k 0 < 256
