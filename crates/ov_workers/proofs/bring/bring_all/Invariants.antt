use Rattle.std.proofs.Common.{◌≡◌, ◌++◌, map}
use Rattle.std.specs.Vec.Iter.{into_iter_items}
use Rattle.rtrb.specs.Ring.{sent}
use Rattle.ov_order.specs.declared.items.Brought.TheVariants.{Message}
use Rattle.ov_workers.specs.Inlet.{SameInlet}
use Rattle.ov_workers.proofs.bring.bring_all.Given as goal

-- With the messages that are left, all are brought.
abbrev pub invariant-loop-message : goal.invariant-loop-message
invariant-loop-message g l = record {
  inlet : SameInlet l.initial.inlet l.inlet;
  brought : sent l.inlet.ring ++ map Message (into_iter_items l.message-iterator)
      ≡ sent l.initial.inlet.ring ++ map Message l.fn.messages.items;
}
