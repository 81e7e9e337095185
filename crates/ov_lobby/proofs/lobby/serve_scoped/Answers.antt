use Rattle.std.proofs.Common.{◌≡◌, Some, refl, sym, ap, subst, ◌∙◌, inr}
use Rattle.rtrb.specs.Ring.{IsPair}
use Rattle.ov_core.specs.Following.{with_clock}
use Rattle.ov_workers.specs.Accepting.{arrived}
use Rattle.ov_threads.specs.Handing.{HaveCome}
use Rattle.ov_workers.specs.LinkStates.{ends_of}
use Rattle.ov_lobby.specs.Serving.{ServesGuests}
use Rattle.ov_hall.proofs.Giving.{arrivals_there, arrivals_pair}
use Rattle.ov_lobby.proofs.Guests.{serves_guests}
use Rattle.ov_hall.proofs.Seats.{pair_inbound}
use Rattle.ov_lobby.proofs.lobby.serve_scoped.Goals as goal

pub unreachable-requires : goal.unreachable-requires
unreachable-requires g c =
    let ring = c.requires.ring in let old = c.args.hall.accepted in let new = c.run.new.hall.accepted in
    arrivals_there old new ring.0 ring.1 c.run.ensures.hosts.ring (sym c.leave_all.ensures.same.1 ∙ c.in_default-accepted.is)

pub join-requires : goal.join-requires
join-requires g c =
    let ring = c.requires.ring in let old = c.args.hall.accepted in let new = c.run.new.hall.accepted in let brought = c.in-Some-accepted.arrivals in
    let same = arrivals_pair old new ring.0 brought ring.1 (sym c.leave_all.ensures.same.1 ∙ c.in-Some-accepted.is) c.run.ensures.hosts.ring in
    subst (λ p. IsPair p.ring.value brought.ring) (sym c.hand.ensures.promise)
    (subst (λ p. IsPair p brought.ring) (sym c.in-Some.ensures.1) (pair_inbound c.args.door.ring ring.0.ring brought.ring same ring.2))

pub returns-clause-answers : goal.returns-clause-answers
returns-clause-answers g c =
    let ends = ends_of g.S.Source g.W.Sink in let gives = g.T.Listen.gives in let s = c.shows_none_served.ensures in
    let old = c.args.hall in let new = c.run.new.hall in let listener = c.args.door.listener in
    let there : new.accepted ≡ Some c.in-Some-accepted.arrivals = sym c.leave_all.ensures.same.1 ∙ c.in-Some-accepted.is in
    let come : HaveCome ends gives listener (arrived new.accepted) = subst (λ l. HaveCome ends gives listener l) (sym (ap arrived there)) (c.join.ensures listener c.hand.ensures.handed) in
    record {
      guests = subst (λ k. ServesGuests ends g.C.Clock.tells gives listener (with_clock old.desk.core c.args.clock.now) (with_clock k c.run.new.clock)) (sym c.leave_all.ensures.same.0)
          (serves_guests ends g.C.Clock.tells gives listener old new c.args.clock.now c.run.new.clock s.0 s.1 c.run.ensures.hosts c.run.ensures.over c.leave_all.ensures.left come);
      refused = tt;
      fault = tt;
      untouched = tt;
      honest = λ honest. c.run.ensures.honest (subst (λ core. g.K.Keeper.is_honest core.keeper) c.leave_all.ensures.same.0 honest);
    }

pub returns-in_default-clause-answers : goal.returns-in_default-clause-answers
returns-in_default-clause-answers g c = record { guests = tt; refused = (refl, refl); fault = inr refl; untouched = refl; honest = tt }
