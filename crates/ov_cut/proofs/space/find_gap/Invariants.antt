use Rattle.std.proofs.Common.{◌≡◌, ◌+◌, take}
use Rattle.ov_specs.specs.wire.Cut.{AllSpace}
use Rattle.ov_cut.proofs.space.find_gap.Given as goal

abbrev pub invariant-loop-place : goal.invariant-loop-place
invariant-loop-place l = record {
  gap : AllSpace (take l.place l.text);
  looked : l.looks ≡ l.fn.looks + l.place;
}
