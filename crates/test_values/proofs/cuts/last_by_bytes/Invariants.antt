use Rattle.std.proofs.Common.{◌+◌, ◌≤◌}
use Rattle.test_values.proofs.cuts.last_by_bytes.Given as goal

abbrev pub invariant-loop-byte : goal.invariant-loop-byte
invariant-loop-byte l = l.cutter.looked ≤ l.fn.cutter.looked + l.byte-index
