use Rattle.std.proofs.Common.{rules, ◌≡◌, ◌≤◌, ℕ, ◌<◌, ◌+◌, None, List, Option, get_or, length, sym, subst, arith}
use Rattle.ov_lanes.specs.Lanes.{AreOver}
use Rattle.ov_lanes.specs.declared.lane.Lane.{Lane}
use Rattle.ov_workers.specs.LinkStates.{ends_of}
use Rattle.ov_hall.proofs.Guests.{all_left}
use Rattle.ov_hall.proofs.Halls.{emptied_over, emptied_more, all_emptied, tends_none, tends_along}
use Rattle.ov_hall.proofs.hall.Hall.leave_all.Goals as goal

pub loop-place-init : goal.loop-place-init
loop-place-init g c = record {
  tends = tends_none (ends_of g.S.Source g.W.Sink) c.args.self.now c.requires.seats;
  over = c.requires.over;
  free = λ i low. absurd (omega (arith, low));
}

pub leave-requires-clause-place : goal.leave-requires-clause-place
leave-requires-clause-place g c = let many = c.loop-place.invariant.tends.many in search rules

pub loop-place-preserved : goal.loop-place-preserved
loop-place-preserved g c =
    let was = c.loop-place.invariant in let now = c.leave.ensures in let many = was.tends.many in
    let ms = c.loop-place.self.desk.lanes.items in
    let at = c.loop-place.place in
    let low : at < length ms = search rules in
    record {
      tends = tends_along (ends_of g.S.Source g.W.Sink) c.args.self.now c.loop-place.self c.leave.new.self was.tends now.leaves;
      over = subst (λ (l : List (Option Lane)). AreOver l) (sym now.free) (emptied_over ms at low was.over);
      free = subst (λ (l : List (Option Lane)). (i : ℕ) → i < at + 1 → get_or l i None ≡ None) (sym now.free) (emptied_more ms at low was.free);
    }

pub returns-clause-left : goal.returns-clause-left
returns-clause-left g c =
    let was = c.loop-place.invariant in let many = was.tends.many in let ms = c.loop-place.self.desk.lanes.items in
    let long : length ms ≤ c.loop-place.place = search rules in
    all_left (ends_of g.S.Source g.W.Sink) c.args.self.now.desk.lanes.items ms c.args.self.now.workers.items c.loop-place.self.workers.items was.tends.leaves (all_emptied ms c.loop-place.place long was.free)

pub returns-clause-same : goal.returns-clause-same
returns-clause-same g c = let tends = c.loop-place.invariant.tends in (tends.core, tends.same.1)
