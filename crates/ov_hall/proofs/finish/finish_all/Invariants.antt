use Rattle.std.proofs.Common.{◌≡◌, ◌+◌, ◌≤◌, ◌++◌, List, Option, vec_len}
use Rattle.std.specs.VecDeque.{deque_len, deque_capacity}
use Rattle.ov_lanes.specs.declared.lane.Lane.{Lane}
use Rattle.ov_workers.specs.declared.link.Link.{Link}
use Rattle.ov_lanes.specs.Lanes.{AreOver}
use Rattle.ov_lanes.specs.Pairs.{Threewise}
use Rattle.ov_hall.specs.Ends.{EndsSeat}
use Rattle.ov_workers.specs.LinkStates.{ends_of}
use Rattle.ov_hall.specs.Seats.{IsSeatOf}
use Rattle.ov_hall.proofs.finish.finish_all.Given as goal

abbrev pub invariant-loop-place : goal.invariant-loop-place
invariant-loop-place g l = record {
  left : (links : List (Link g.row.S.Denot g.row.W.Denot)) × Threewise IsSeatOf links l.lanes.items l.workers.items;
  done : (links : List (Link g.row.S.Denot g.row.W.Denot)) → Threewise IsSeatOf links l.initial.lanes.items l.initial.workers.items
      → (front after : List (Link g.row.S.Denot g.row.W.Denot)) × (places : List (Option Lane)) × (links ≡ front ++ after) × (l.initial.lanes.items ≡ l.lanes.items ++ places)
      × Threewise IsSeatOf front l.lanes.items l.workers.items × Threewise (λ k p e. EndsSeat (ends_of g.S.Source g.W.Sink) k p e) after places l.ends.items;
  over : AreOver l.lanes.items;
  room : vec_len l.lanes + deque_len l.ends ≤ deque_capacity l.ends;
}

abbrev pub decreases-loop-place : goal.decreases-loop-place
decreases-loop-place g l = vec_len l.lanes
