use Rattle.std.proofs.Common.{◌-◌, ◌^◌, ◌<◌, drop}
use Rattle.ov_rows.proofs.Spreading.{AreMarked}
use Rattle.ov_rows.proofs.marks.marks_of.Given as goal

abbrev pub invariant-loop-place : goal.invariant-loop-place
invariant-loop-place l = record {
  small : l.marks < 2 ^ (64 - l.place);
  marked : AreMarked l.marks (drop l.place l.defaults) (drop l.place l.values);
}
