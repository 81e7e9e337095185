use Rattle.std.proofs.Common.{rules, ◌≡◌, length, sym, subst, arith, true}
use Rattle.std.specs.VecDeque.{deque_len}
use Rattle.ov_hall.specs.Seats.{IsStarted, AreStarted}
use Rattle.ov_hall.proofs.Seats.{started_more}
use Rattle.ov_hall.proofs.start.start_all.Goals as goal

pub loop-bell-preserved : goal.loop-bell-preserved
loop-bell-preserved g c =
    let was = c.loop-bell.invariant in
    let long : length c.loop-bell.started.items ≡ deque_len c.loop-bell.started = search rules in
    record {
      serial = omega (arith, was.serial);
      started = (
        subst (λ l. AreStarted true c.args.first l) (sym c.push_back_reserved.ensures.items)
            (started_more true c.args.first c.loop-bell.started.items c.in-Ok.one was.started.0 (subst (λ n. IsStarted true n c.in-Ok.one) (omega (arith, was.serial, was.started.1, long)) c.in-Ok.ensures.started)),
        omega (arith, was.started.1, c.push_back_reserved.ensures.len),
      );
      room = search rules;
      parts = omega (arith, was.parts, c.in-Some.ensures.2);
    }
