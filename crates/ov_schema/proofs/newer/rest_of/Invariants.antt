use Rattle.std.proofs.Common.{◌≡◌, drop}
use Rattle.ov_schema.specs.Parts.{rest_of}
use Rattle.ov_schema.proofs.newer.rest_of.Given as goal

abbrev pub invariant-loop-i : goal.invariant-loop-i
invariant-loop-i l = rest_of l.version ≡ rest_of (drop l.i l.version)
