use Rattle.std.proofs.Common.{◌≡◌, ◌<◌, ℕ, None, get_or}
use Rattle.ov_lanes.specs.Lanes.{AreOver}
use Rattle.ov_hall.specs.Guests.{TendsHall}
use Rattle.ov_workers.specs.LinkStates.{ends_of}
use Rattle.ov_hall.proofs.hall.Hall.leave_all.Given as goal

abbrev pub invariant-loop-place : goal.invariant-loop-place
invariant-loop-place g l = record {
  tends : TendsHall (ends_of g.S.Source g.W.Sink) l.initial.self l.self;
  over : AreOver l.self.desk.lanes.items;
  free : (i : ℕ) → i < l.place → get_or l.self.desk.lanes.items i None ≡ None;
}
