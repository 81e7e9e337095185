use Rattle.std.proofs.Common.{◌+◌, true}
use Rattle.ov_hall.proofs.Seats.{first_started}
use Rattle.ov_hall.proofs.start.dismiss_all.Goals as goal

pub dismiss-requires : goal.dismiss-requires
dismiss-requires g c = (first_started true c.loop-one.invariant.0 c.loop-one.started.items c.pop_front.new.self.items c.in-Some.one c.in-Some.ensures.items c.loop-one.invariant.1).0.await

pub loop-one-preserved : goal.loop-one-preserved
loop-one-preserved g c = (c.loop-one.invariant.0 + 1, (first_started true c.loop-one.invariant.0 c.loop-one.started.items c.pop_front.new.self.items c.in-Some.one c.in-Some.ensures.items c.loop-one.invariant.1).1)
