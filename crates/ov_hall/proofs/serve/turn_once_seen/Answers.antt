use Rattle.ov_lanes.proofs.PlaceLaws.{goes_none, goes_along}
use Rattle.ov_lanes.proofs.Steady.{steady_none, steady_along}
use Rattle.ov_lanes.proofs.Turning.{stay_same, stay_along_same, look_self}
use Rattle.ov_hall.proofs.Running.{looks_then_takes, looks_along}
use Rattle.ov_hall.proofs.serve.turn_once_seen.Goals as goal

pub returns-then-is_none-clause-goes : goal.returns-then-is_none-clause-goes
returns-then-is_none-clause-goes g c = goes_none c.args.moment c.args.desk.now.core c.args.desk.now.lanes.items

pub returns-then-is_none-clause-rings : goal.returns-then-is_none-clause-rings
returns-then-is_none-clause-rings g c = stay_same c.args.desk.now.lanes.items

pub returns-then-is_none-clause-steady : goal.returns-then-is_none-clause-steady
returns-then-is_none-clause-steady g c = steady_none g.K.Keeper.is_honest c.args.desk.now.core

pub loop-init : goal.loop-init
loop-init g c = record {
  goes = goes_none c.args.moment c.args.desk.now.core c.args.desk.now.lanes.items;
  rings = stay_same c.args.desk.now.lanes.items;
  steady = steady_none g.K.Keeper.is_honest c.args.desk.now.core;
  looks = look_self c.args.desk.now.lanes.items;
}

pub returns-then-turn-clause-goes : goal.returns-then-turn-clause-goes
returns-then-turn-clause-goes g c = goes_along c.args.moment c.args.desk.now.lanes.items c.loop.desk.lanes.items c.turn.new.self.lanes.items c.loop.invariant.goes c.turn.ensures.goes

pub returns-then-turn-clause-rings : goal.returns-then-turn-clause-rings
returns-then-turn-clause-rings g c = stay_along_same c.args.desk.now.lanes.items c.loop.desk.lanes.items c.turn.new.self.lanes.items c.loop.invariant.rings c.turn.ensures.rings

pub returns-then-turn-clause-taken : goal.returns-then-turn-clause-taken
returns-then-turn-clause-taken g c = looks_then_takes c.args.serial c.args.desk.now.lanes.items c.loop.desk.lanes.items c.turn.new.self.lanes.items c.loop.invariant.looks c.if-turn.ensures.turns.0

pub returns-then-turn-clause-flushed : goal.returns-then-turn-clause-flushed
returns-then-turn-clause-flushed g c is = c.if-turn.ensures.turns.1

pub returns-then-turn-clause-steady : goal.returns-then-turn-clause-steady
returns-then-turn-clause-steady g c = steady_along g.K.Keeper.is_honest c.args.desk.now.core c.loop.desk.core c.turn.new.self.core c.loop.invariant.steady c.turn.ensures.steady

pub loop-preserved : goal.loop-preserved
loop-preserved g c = record {
  goes = goes_along c.args.moment c.args.desk.now.lanes.items c.loop.desk.lanes.items c.turn.new.self.lanes.items c.loop.invariant.goes c.turn.ensures.goes;
  rings = stay_along_same c.args.desk.now.lanes.items c.loop.desk.lanes.items c.turn.new.self.lanes.items c.loop.invariant.rings c.turn.ensures.rings;
  steady = steady_along g.K.Keeper.is_honest c.args.desk.now.core c.loop.desk.core c.turn.new.self.core c.loop.invariant.steady c.turn.ensures.steady;
  looks = looks_along c.args.desk.now.lanes.items c.loop.desk.lanes.items c.turn.new.self.lanes.items c.loop.invariant.looks c.if-turn.ensures.turns.1;
}
