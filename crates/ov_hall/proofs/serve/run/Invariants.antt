use Rattle.std.proofs.Common.{◌≡◌, ℕ, ◌++◌, List, Option}
use Rattle.ov_hall.specs.Guests.{HostsBy, ServesEach, notes_in}
use Rattle.ov_workers.specs.LinkStates.{ends_of}
use Rattle.ov_hall.specs.Serving.{KeepsHall}
use Rattle.ov_hall.specs.Seats.{AreSeats}
use Rattle.ov_hall.proofs.serve.run.Given as goal

abbrev pub invariant-loop : goal.invariant-loop
invariant-loop g l = record {
  hosts : HostsBy (ends_of g.S.Source g.W.Sink) g.C.Clock.tells l.initial.hall l.initial.clock l.hall l.clock;
  noted : (notes : List (Option ℕ)) × (l.taken.serials ≡ l.initial.taken.serials ++ notes_in notes) × ServesEach (ends_of g.S.Source g.W.Sink) notes l.initial.hall l.hall;
  kept : (notes : List ℕ) × (l.taken.serials ≡ l.initial.taken.serials ++ notes) × KeepsHall notes l.initial.hall l.hall;
  honest : g.K.Keeper.is_honest l.hall.desk.core.keeper → g.K.Keeper.is_honest l.initial.hall.desk.core.keeper;
  seats : AreSeats l.hall;
}
