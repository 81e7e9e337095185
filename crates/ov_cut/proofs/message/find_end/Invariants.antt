use Rattle.std.proofs.Common.{◌≡◌, ◌+◌, ◌<◌, ◌≤◌, [], ◌++◌, length, take}
use Rattle.ov_cut.specs.Message.{LeavesMode, Brings}
use Rattle.ov_cut.proofs.message.find_end.Given as goal

abbrev pub invariant-loop-place : goal.invariant-loop-place
invariant-loop-place l = record {
  run : Brings l.front (take l.place l.text) [] (l.front ++ take l.place l.text);
  leaves : LeavesMode (l.front ++ take l.place l.text) l.mode l.depth;
  low : 0 < l.depth;
  high : l.depth ≤ length l.front + l.place;
  short : length l.front + l.place ≤ 1048576;
  looked : l.looks ≡ l.fn.looks + l.place;
}
