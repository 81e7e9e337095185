use Rattle.std.proofs.Common.{rules, ◌≡◌, ◌+◌, ◌++◌, ◌∷◌, [], Some, true, length, vec_len, sym, ap, subst, ◌∙◌, arith, append_assoc, append-nil}
use Rattle.ov_lanes.specs.Opening.{AreSessions}
use Rattle.ov_lanes.specs.Lanes.{AreNewLanes, IsNewLane}
use Rattle.ov_lanes.specs.Pairs.{Threewise}
use Rattle.ov_hall.specs.Seats.{AreStarted, IsSeatOf}
use Rattle.ov_hall.proofs.Seats.{first_started, first_session, started_works, started_new, seat_more}
use Rattle.ov_desk.proofs.links.seat_all.Goals as goal

pub hand-requires-clause-unhanded : goal.hand-requires-clause-unhanded
hand-requires-clause-unhanded g c = (first_started true c.loop-link.invariant.started.0 c.loop-link.started.items c.pop_front-in-Some.new.self.items c.in-Some-Some.one c.in-Some-Some.ensures.items c.loop-link.invariant.started.1).0.await

pub loop-link-preserved : goal.loop-link-preserved
loop-link-preserved g c =
    let was = c.loop-link.invariant in let link = c.in-Some.link in let one = c.in-Some-Some.one in let session = c.in-Some-Some.session in
    let ls = c.loop-link.lanes.items in let ws = c.loop-link.workers.items in
    let long : length ls ≡ vec_len c.loop-link.lanes = search rules in
    record {
      many = (search rules, search rules);
      started = (was.started.0 + 1, (first_started true was.started.0 c.loop-link.started.items c.pop_front-in-Some.new.self.items one c.in-Some-Some.ensures.items was.started.1).1);
      lanes = search rules;
      workers = search rules;
      seated = λ first started sessions.
          let x = was.seated first started sessions in
          let n = first + vec_len c.loop-link.lanes in
          let f = first_started true n c.loop-link.started.items c.pop_front-in-Some.new.self.items one c.in-Some-Some.ensures.items x.0 in
          let s = first_session n c.loop-link.sessions.items c.pop_front-in-Some-2.new.self.items session c.in-Some-Some.ensures'.items x.1 in
          let serial = ap (λ k. k.serial) c.new.ensures.session ∙ s.0 in
          let works = started_works true n one c.new.result c.hand.new.self f.0 c.new.ensures.rings.0 c.new.ensures.rings.1 serial c.hand.ensures.promises.0 c.hand.ensures.promises.1 in
          let new = started_new true n one c.new.result c.hand.new.self f.0 c.new.ensures.rings.0 c.new.ensures.rings.1 serial c.hand.ensures.promises.0 c.hand.ensures.promises.1 c.new.ensures.nothing in
          let more = seat_more first x.2.0 ls ws link c.new.result c.hand.new.self x.2.2 x.2.3 (subst (λ k. IsNewLane k c.new.result) (omega (arith, long)) new) works c.hand.ensures.handed in
          let next : n + 1 ≡ first + vec_len c.push_reserved.new.self = (let e = c.push_reserved.ensures.len in omega (arith, e)) in (
            subst (λ k. AreStarted true k c.pop_front-in-Some.new.self.items) next f.1,
            subst (λ k. AreSessions k c.pop_front-in-Some-2.new.self.items) next s.1,
            (
              x.2.0 ++ link ∷ [],
              x.2.1 ∙ (ap (λ l. x.2.0 ++ l) c.in-Some.ensures.items ∙ sym (append_assoc x.2.0 (link ∷ []) c.pop_front.new.self.items)),
              subst (λ l. AreNewLanes first l) (sym c.push_reserved.ensures.items) more.0,
              subst (λ l. Threewise IsSeatOf (x.2.0 ++ link ∷ []) l c.push_reserved-in-Some.new.self.items) (sym c.push_reserved.ensures.items) (subst (λ v. Threewise IsSeatOf (x.2.0 ++ link ∷ []) (ls ++ Some c.new.result ∷ []) v) (sym c.push_reserved-in-Some.ensures.items) more.1),
            ),
          );
    }

pub returns : goal.returns
returns g c first started sessions =
    let x = c.loop-link.invariant.seated first started sessions in
    let none : c.loop-link.links.items ≡ [] = search rules in
    let all : c.args.links.items ≡ x.2.0 = x.2.1 ∙ (ap (λ l. x.2.0 ++ l) none ∙ append-nil x.2.0) in
    (x.2.2, subst (λ l. Threewise IsSeatOf l c.loop-link.lanes.items c.loop-link.workers.items) (sym all) x.2.3)
