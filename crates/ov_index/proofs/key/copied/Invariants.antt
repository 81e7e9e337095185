use Rattle.std.proofs.Common.{◌≡◌, take}
use Rattle.ov_index.proofs.key.copied.Given as goal

abbrev pub invariant-loop-datum : goal.invariant-loop-datum
invariant-loop-datum l = l.copies.items ≡ take l.datum-index l.values
