use Rattle.std.proofs.Common.{rules, ◌≡◌, ◌++◌, [], ◌∷◌, None, length, refl, sym, ap, subst, ◌∙◌, append_assoc, append-nil}
use Rattle.ov_lanes.specs.Pairs.{Threewise}
use Rattle.ov_lanes.proofs.Pairs.{popped_at, popped_rest}
use Rattle.ov_lanes.proofs.PlaceLaws.{at_below}
use Rattle.ov_hall.specs.Ends.{EndsSeat}
use Rattle.ov_workers.specs.LinkStates.{ends_of}
use Rattle.ov_hall.specs.Seats.{IsSeatOf}
use Rattle.ov_hall.proofs.Pairs.{threes_none_left}
use Rattle.ov_hall.proofs.Seats.{last_seated, last_seat, seat_parts, seat_not_none, seat_works}
use Rattle.ov_hall.proofs.finish.finish_all.Goals as goal

pub loop-place-init : goal.loop-place-init
loop-place-init g c = record {
  left = c.requires.seats;
  done = λ links seats. (links, [], [], sym (append-nil links), sym (append-nil c.args.lanes.items), seats, subst (λ l. Threewise (λ k p e. EndsSeat (ends_of g.S.Source g.W.Sink) k p e) [] [] l) (sym c.requires.room.0) tt);
  over = c.requires.over;
  room = search rules;
}

pub unreachable-requires : goal.unreachable-requires
unreachable-requires g c =
    let left = c.loop-place.invariant.left in
    last_seated left.0 c.loop-place.lanes.items c.pop.new.self.items c.loop-place.workers.items c.in-Some.place c.in-Some.ensures.items left.1 (search rules)

pub unreachable-requires-in_default-place : goal.unreachable-requires-in_default-place
unreachable-requires-in_default-place g c =
    let left = c.loop-place.invariant.left in
    let x = last_seat left.0 c.loop-place.lanes.items c.pop.new.self.items c.loop-place.workers.items c.in-Some.place c.in-Some.ensures.items left.1 c.pop-in-Some.new.self.items c.in-Some-pop.seat c.in-Some-pop.ensures.items in
    seat_not_none x.1 c.in-Some.place c.in-Some-pop.seat x.4 c.in_default-place.is

pub unreachable-requires-in_default-seat : goal.unreachable-requires-in_default-seat
unreachable-requires-in_default-seat g c =
    let left = c.loop-place.invariant.left in
    let x = last_seat left.0 c.loop-place.lanes.items c.pop.new.self.items c.loop-place.workers.items c.in-Some.place c.in-Some.ensures.items left.1 c.pop-in-Some.new.self.items c.in-Some-pop.seat c.in-Some-pop.ensures.items in
    seat_works x.1 c.in-Some.place c.in-Some-pop.seat x.4 c.in_default-seat.is

pub finish_link-requires-clause-workers : goal.finish_link-requires-clause-workers
finish_link-requires-clause-workers g c =
    let left = c.loop-place.invariant.left in
    let x = last_seat left.0 c.loop-place.lanes.items c.pop.new.self.items c.loop-place.workers.items c.in-Some.place c.in-Some.ensures.items left.1 c.pop-in-Some.new.self.items c.in-Some-pop.seat c.in-Some-pop.ensures.items in
    (seat_parts x.1 c.in-Some.place c.in-Some-pop.seat c.in-Some-place.lane c.in-Some-seat.worker c.in-Some-place.is c.in-Some-seat.is x.4).0

pub finish_link-requires-clause-link : goal.finish_link-requires-clause-link
finish_link-requires-clause-link g c =
    let left = c.loop-place.invariant.left in
    let x = last_seat left.0 c.loop-place.lanes.items c.pop.new.self.items c.loop-place.workers.items c.in-Some.place c.in-Some.ensures.items left.1 c.pop-in-Some.new.self.items c.in-Some-pop.seat c.in-Some-pop.ensures.items in
    (x.1, (seat_parts x.1 c.in-Some.place c.in-Some-pop.seat c.in-Some-place.lane c.in-Some-seat.worker c.in-Some-place.is c.in-Some-seat.is x.4).1)

pub finish_link-requires-clause-over : goal.finish_link-requires-clause-over
finish_link-requires-clause-over g c =
    c.loop-place.invariant.over (length c.pop.new.self.items) c.in-Some-place.lane
    (popped_at c.loop-place.lanes.items c.pop.new.self.items c.in-Some.place None (length c.pop.new.self.items) c.in-Some.ensures.items refl ∙ c.in-Some-place.is)

pub loop-place-preserved : goal.loop-place-preserved
loop-place-preserved g c =
    let was = c.loop-place.invariant in
    let ls = c.loop-place.lanes.items in let ls' = c.pop.new.self.items in let ws = c.loop-place.workers.items in let ws' = c.pop-in-Some.new.self.items in
    let p = c.in-Some.place in let v = c.in-Some-pop.seat in let lane = c.in-Some-place.lane in let worker = c.in-Some-seat.worker in
    let x = last_seat was.left.0 ls ls' ws p c.in-Some.ensures.items was.left.1 ws' v c.in-Some-pop.ensures.items in
    record {
      left = (x.0, x.3);
      done = λ links seats.
          let d = was.done links seats in
          let y = last_seat d.0 ls ls' ws p c.in-Some.ensures.items d.5 ws' v c.in-Some-pop.ensures.items in
          let parts = seat_parts y.1 p v lane worker c.in-Some-place.is c.in-Some-seat.is y.4 in (
            y.0,
            y.1 ∷ d.1,
            p ∷ d.2,
            d.3 ∙ (ap (λ l. l ++ d.1) y.2 ∙ append_assoc y.0 (y.1 ∷ []) d.1),
            d.4 ∙ (ap (λ l. l ++ d.2) c.in-Some.ensures.items ∙ append_assoc ls' (p ∷ []) d.2),
            y.3,
            subst (λ l. Threewise (λ k q e. EndsSeat (ends_of g.S.Source g.W.Sink) k q e) (y.1 ∷ d.1) (p ∷ d.2) l) (sym c.push_front_reserved.ensures.items)
                ((lane, c.in-Some-place.is, c.finish_link.ensures y.1 parts.1), d.6),
          );
      over = λ at l is. was.over at l (popped_rest ls ls' p None at c.in-Some.ensures.items (at_below ls' at l is) ∙ is);
      room = search rules;
    }

pub returns : goal.returns
returns g c links seats =
    let d = c.loop-place.invariant.done links seats in
    let none : c.loop-place.lanes.items ≡ [] = search rules in
    let left = threes_none_left IsSeatOf d.0 c.loop-place.lanes.items c.loop-place.workers.items none d.5 in
    let same : links ≡ d.1 = d.3 ∙ ap (λ l. l ++ d.1) left.0 in
    let places : c.args.lanes.items ≡ d.2 = d.4 ∙ ap (λ l. l ++ d.2) none in
    subst (λ k. Threewise (λ k p e. EndsSeat (ends_of g.S.Source g.W.Sink) k p e) k c.args.lanes.items c.loop-place.ends.items) (sym same)
    (subst (λ l. Threewise (λ k p e. EndsSeat (ends_of g.S.Source g.W.Sink) k p e) d.1 l c.loop-place.ends.items) (sym places) d.6)
