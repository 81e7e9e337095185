use Rattle.std.proofs.Common.{◌≡◌, drop}
use Rattle.ov_specs.specs.values.Value.{has_nul}
use Rattle.ov_atoms.proofs.read.has_nul.Given as goal

abbrev pub invariant-loop-byte : goal.invariant-loop-byte
invariant-loop-byte l = has_nul l.bytes ≡ has_nul (drop l.byte-index l.bytes)
