use Rattle.std.proofs.Common.{refl}
use Rattle.ov_lanes.specs.Lanes.{IsServed}
use Rattle.ov_lanes.proofs.Entering.{overruns_by, turn_along}
use Rattle.ov_lanes.proofs.PlaceLaws.{goes_none, goes_along}
use Rattle.ov_lanes.proofs.Steady.{steady_none, steady_along}
use Rattle.ov_lanes.proofs.Turning.{served_same, stay_same, stay_then_puts, look_self, turned}
use Rattle.ov_lanes.proofs.desk.Desk.turn.Goals as goal

pub returns-in_default-clause-goes : goal.returns-in_default-clause-goes
returns-in_default-clause-goes g c = goes_none c.args.moment c.args.self.now.core c.args.self.now.lanes.items

pub returns-in_default-clause-rings : goal.returns-in_default-clause-rings
returns-in_default-clause-rings g c = stay_same c.args.self.now.lanes.items

pub returns-in_default-clause-turns : goal.returns-in_default-clause-turns
returns-in_default-clause-turns g c = (refl, look_self c.args.self.now.lanes.items)

pub returns-in_default-clause-steady : goal.returns-in_default-clause-steady
returns-in_default-clause-steady g c = steady_none g.K.Keeper.is_honest c.args.self.now.core

pub returns-clause-goes : goal.returns-clause-goes
returns-clause-goes g c =
    goes_along c.args.moment c.args.self.now.lanes.items c.take_at.new.self.lanes.items c.flush.new.self.lanes.items c.take_at.ensures.goes (c.flush.ensures.flushes.goes c.args.moment)

pub returns-clause-rings : goal.returns-clause-rings
returns-clause-rings g c = stay_then_puts c.args.self.now.lanes.items c.take_at.new.self.lanes.items c.flush.new.self.lanes.items c.take_at.ensures.rings c.flush.ensures.flushes.rings

pub returns-clause-turns : goal.returns-clause-turns
returns-clause-turns g c =
    let ls = c.args.self.now.lanes.items in let ms = c.take_at.new.self.lanes.items in let ns = c.flush.new.self.lanes.items in
    let old = c.args.self.now.core in let mid = c.take_at.new.self.core in let new = c.flush.new.self.core in
    let took = c.if-not-take_at.ensures.taken in let flushes = c.flush.ensures.flushes in
    let t = turned c.args.serial c.in-Some.at ls ms ns c.in-Some.ensures.1 took.0 flushes.rings in (
      t,
      c.flush.ensures.flushed,
      turn_along old mid took.0.item (IsServed ls) took.0.lane.session.serial c.args.serial new t.2 took.1
          (overruns_by mid new (IsServed ms) (IsServed ls) (served_same ls ms c.take_at.ensures.rings) flushes.enters),
    )

pub returns-clause-steady : goal.returns-clause-steady
returns-clause-steady g c = steady_along g.K.Keeper.is_honest c.args.self.now.core c.take_at.new.self.core c.flush.new.self.core c.take_at.ensures.steady c.flush.ensures.flushes.steady
