use Rattle.std.proofs.Common.{◌≡◌, true}
use Rattle.std.specs.Vec.Iter.{into_iter_items}
use Rattle.ov_specs.specs.machine.Machine.{is_open}
use Rattle.ov_streams.proofs.Entering.{EntersSome}
use Rattle.ov_streams.proofs.feed.enter_all.Given as goal

abbrev pub invariant-loop-message : goal.invariant-loop-message
invariant-loop-message g l = record {
  there : is_open l.core.state l.session.serial ≡ true;
  honest : g.K.Keeper.is_honest l.core.keeper → g.K.Keeper.is_honest l.fn.core.keeper;
  entered : EntersSome l.moment l.session.serial l.fn.messages.items (into_iter_items l.message-iterator) l.fn.core l.core;
}
