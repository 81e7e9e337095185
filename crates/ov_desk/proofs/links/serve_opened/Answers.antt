use Rattle.std.proofs.Common.{rules, ◌≡◌, ◌++◌, ℕ, length, vec_len, ◌≤◌, refl, sym, ap, subst, ◌∙◌, arith}
use Rattle.std.specs.VecDeque.{deque_len, deque_capacity}
use Rattle.ov_workers.specs.LinkStates.{ends_of}
use Rattle.ov_core.specs.Following.{with_clock}
use Rattle.ov_lanes.specs.Lanes.{SameLane, StayAs}
use Rattle.ov_lanes.specs.Opening.{OpensAll}
use Rattle.ov_lanes.specs.Pairs.{Threewise}
use Rattle.ov_lanes.proofs.PlaceLaws.{serves_opened}
use Rattle.ov_hall.specs.Seats.{IsSeatOf}
use Rattle.ov_hall.proofs.Pairs.{threes_counts}
use Rattle.ov_desk.proofs.Ends.{count_new, count_stays, all_end}
use Rattle.ov_hall.proofs.Running.{kept_same, shut_over, time_of}
use Rattle.ov_hall.proofs.Seats.{seats_of, seats_later}
use Rattle.ov_desk.proofs.links.serve_opened.Goals as goal

pub run-requires-clause-seats : goal.run-requires-clause-seats
run-requires-clause-seats g c κs within =
    let o = c.requires.1 in
    seats_of c.args.links.items c.seat_all.new.lanes.items c.seat_all.new.workers.items (c.seat_all.ensures c.requires.0.state.next o.started o.sessions).1

pub finish_all-ends-requires-clause-seats : goal.finish_all-ends-requires-clause-seats
finish_all-ends-requires-clause-seats g c =
    let o = c.requires.1 in
    let t = c.seat_all.ensures c.requires.0.state.next o.started o.sessions in
    let ls = c.seat_all.new.lanes.items in let ms = c.run.new.hall.desk.lanes.items in
    let long : length c.args.links.items ≡ deque_len c.args.links = search rules in
    let many : length ls ≡ deque_len c.args.links = threes_counts IsSeatOf c.args.links.items ls c.seat_all.new.workers.items t.1 ∙ long in
    let s = serves_opened ls (subst (λ (n : ℕ). OpensAll c.requires.0 c.requires.0.state.next n c.args.core) (sym many) o.opens) t.0 in
    let kept = c.run.ensures.kept.2 refl refl in
    (c.args.links.items, subst (λ v. Threewise IsSeatOf c.args.links.items ms v) (ap (λ v. v.items) (sym kept.2)) (seats_later c.args.links.items ls ms c.seat_all.new.workers.items (kept_same c.run.ensures.kept.0 ls ms (kept.4 s.serves.apart)) t.1))

pub finish_all-ends-requires-clause-room : goal.finish_all-ends-requires-clause-room
finish_all-ends-requires-clause-room g c =
    let o = c.requires.1 in
    let t = c.seat_all.ensures c.requires.0.state.next o.started o.sessions in
    let ls = c.seat_all.new.lanes.items in let ms = c.run.new.hall.desk.lanes.items in
    let long : length c.args.links.items ≡ deque_len c.args.links = search rules in
    let many : length ls ≡ deque_len c.args.links = threes_counts IsSeatOf c.args.links.items ls c.seat_all.new.workers.items t.1 ∙ long in
    let s = serves_opened ls (subst (λ (n : ℕ). OpensAll c.requires.0 c.requires.0.state.next n c.args.core) (sym many) o.opens) t.0 in
    let kept = c.run.ensures.kept.2 refl refl in
    let stay : StayAs SameLane ls ms = kept_same c.run.ensures.kept.0 ls ms (kept.4 s.serves.apart) in
    let places : length ms ≡ vec_len c.run.new.hall.desk.lanes = search rules in
    (o.ends.0, subst (λ (n : ℕ). n ≤ deque_capacity c.args.opened.ends) (sym (sym places ∙ (stay.many ∙ many))) o.ends.1)

pub returns-clause-served : goal.returns-clause-served
returns-clause-served g c old o =
    let t = c.seat_all.ensures old.state.next o.started o.sessions in
    let ls = c.seat_all.new.lanes.items in let ms = c.run.new.hall.desk.lanes.items in let core = c.run.new.hall.desk.core in
    let long : length c.args.links.items ≡ deque_len c.args.links = search rules in
    let many : length ls ≡ deque_len c.args.links = threes_counts IsSeatOf c.args.links.items ls c.seat_all.new.workers.items t.1 ∙ long in
    let opens = subst (λ (n : ℕ). OpensAll old old.state.next n c.args.core) (sym many) o.opens in
    let s = serves_opened ls opens t.0 in
    let kept = c.run.ensures.kept.2 refl refl in
    let stay : StayAs SameLane ls ms = kept_same c.run.ensures.kept.0 ls ms (kept.4 s.serves.apart) in
    let seats = subst (λ v. Threewise IsSeatOf c.args.links.items ms v) (ap (λ v. v.items) (sym kept.2)) (seats_later c.args.links.items ls ms c.seat_all.new.workers.items stay t.1) in
    let by = c.run.ensures.hosts in let x = (by.hosts old s.serves).0 in let after = x.after in
    let ends = c.finish_all-ends.ensures c.args.links.items seats in
    rw c.new-desk.ensures.core (record {
      since = after.since;
      next = omega (arith, kept.3, o.opens.next, long);
      all = all_end (ends_of g.S.Source g.W.Sink) after.since old.state.next (omega arith) c.args.links.items ms c.finish_all-ends.result.items after.fits (count_stays old.state.next ls ms stay (count_new old.state.next ls t.0)) ends;
      closed = shut_over old c.run.new.hall.desk after c.run.ensures.over;
      earlier = after.earlier;
      time = time_of g.C.Clock.tells (with_clock old c.args.clock.now) (with_clock core c.run.new.clock) c.args.core.state opens.since.entries x.more after.since.entries by.moments
          (x.adds ∙ ap (λ l. l ++ x.more) (ap (λ r. r.entries) s.is)) opens.timed by.reported x.timed;
    })

pub returns-clause-honest : goal.returns-clause-honest
returns-clause-honest g c honest = c.run.ensures.honest (subst (λ core. g.K.Keeper.is_honest core.keeper) c.new-desk.ensures.core honest)
