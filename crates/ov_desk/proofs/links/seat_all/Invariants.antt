use Rattle.std.proofs.Common.{◌≡◌, ℕ, ◌+◌, ◌≤◌, ◌++◌, true, List, vec_len}
use Rattle.std.specs.Prelude.{vec_capacity}
use Rattle.std.specs.VecDeque.{deque_len}
use Rattle.ov_workers.specs.declared.link.Link.{Link}
use Rattle.ov_lanes.specs.Lanes.{AreNewLanes}
use Rattle.ov_lanes.specs.Opening.{AreSessions}
use Rattle.ov_lanes.specs.Pairs.{Threewise}
use Rattle.ov_hall.specs.Seats.{AreStarted, IsSeatOf}
use Rattle.ov_desk.proofs.links.seat_all.Given as goal

abbrev pub invariant-loop-link : goal.invariant-loop-link
invariant-loop-link g l = record {
  many : (deque_len l.started ≡ deque_len l.links) × (deque_len l.sessions ≡ deque_len l.links);
  started : (first : ℕ) × AreStarted true first l.started.items;
  lanes : vec_len l.lanes + deque_len l.links ≤ vec_capacity l.lanes;
  workers : vec_len l.workers + deque_len l.links ≤ vec_capacity l.workers;
  seated : (first : ℕ) → AreStarted true first l.initial.started.items → AreSessions first l.initial.sessions.items
      → AreStarted true (first + vec_len l.lanes) l.started.items × AreSessions (first + vec_len l.lanes) l.sessions.items
      × ((front : List (Link g.row.S.Denot g.row.W.Denot)) × (l.initial.links.items ≡ front ++ l.links.items)
      × AreNewLanes first l.lanes.items × Threewise IsSeatOf front l.lanes.items l.workers.items);
}

abbrev pub decreases-loop-link : goal.decreases-loop-link
decreases-loop-link g l = deque_len l.links
