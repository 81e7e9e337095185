use Rattle.std.proofs.Common.{◌≡◌, ◌+◌, ◌≤◌, true, length}
use Rattle.std.specs.VecDeque.{deque_len, deque_capacity}
use Rattle.ov_hall.specs.Seats.{AreStarted}
use Rattle.ov_hall.proofs.start.start_all.Given as goal

abbrev pub invariant-loop-bell : goal.invariant-loop-bell
invariant-loop-bell g l = record {
  serial : l.serial ≡ l.first + l.bell-index;
  started : AreStarted true l.first l.started.items × (deque_len l.started ≡ l.bell-index);
  room : length l.bells.items ≤ deque_capacity l.started;
  parts : length l.bells.items ≤ l.parts.left + l.bell-index;
}
