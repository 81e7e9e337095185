use Rattle.std.proofs.Common.{◌≡◌, ◌≤◌}
use Rattle.std.specs.VecDeque.{deque_len, deque_capacity}
use Rattle.ov_sockets.specs.Links.{AreNewClients}
use Rattle.ov_sockets.proofs.accept.accept_all.Given as goal

abbrev pub invariant-loop : goal.invariant-loop
invariant-loop l =
    AreNewClients l.links.items × (deque_len l.links ≡ l.counter) × (l.count ≤ deque_capacity l.links)
