use Rattle.ov_hall.specs.Guests.{TendsHall, IsKept}
use Rattle.ov_workers.specs.LinkStates.{ends_of}
use Rattle.ov_hall.proofs.hall.Hall.tend.Given as goal

abbrev pub invariant-loop-at : goal.invariant-loop-at
invariant-loop-at g l = record {
  tends : TendsHall (ends_of g.S.Source g.W.Sink) l.initial.self l.self;
  kept : IsKept l.initial.self l.self;
}
