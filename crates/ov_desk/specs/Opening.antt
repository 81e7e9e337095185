-- What is prepared for a number of links before they are handed over; for private clauses.
use Rattle.std.specs.Prelude.{◌≡◌, ◌≤◌, ℕ, [], true, vec_capacity}
use Rattle.std.specs.VecDeque.{deque_len, deque_capacity}
use Rattle.ov_core.specs.Following.{CoreState}
use Rattle.ov_lanes.specs.Opening.{AreSessions, OpensAll}
use Rattle.ov_hall.specs.Seats.{AreStarted}
use Rattle.ov_desk.specs.declared.links.Opened.{Opened}

-- This many sessions were opened, their workers were started, and there is room for their lanes and for what remains of them.
pub record IsOpened {K D S W L : Type 0} (count : ℕ) (old new : CoreState K D) (o : Opened S W L) : Type 0 where
  pub opens : OpensAll old old.state.next count new
  pub sessions : AreSessions old.state.next o.sessions.items
  pub started : AreStarted true old.state.next o.started.items
  pub many : (deque_len o.sessions ≡ count) × (deque_len o.started ≡ count)
  pub lanes : (o.lanes.items ≡ []) × (count ≤ vec_capacity o.lanes)
  pub workers : (o.workers.items ≡ []) × (count ≤ vec_capacity o.workers)
  pub ends : (o.ends.items ≡ []) × (count ≤ deque_capacity o.ends)
