use Rattle.std.proofs.Common.{◌≡◌, ◌+◌, drop}
use Rattle.ov_schema.specs.Parts.{part_length}
use Rattle.ov_schema.proofs.newer.part_length.Given as goal

abbrev pub invariant-loop-i : goal.invariant-loop-i
invariant-loop-i l = part_length l.version ≡ l.i + part_length (drop l.i l.version)
