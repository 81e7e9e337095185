use Rattle.std.proofs.Common.{Bool, map}
use Rattle.ov_specs.specs.machine.Machine.{to_session}
use Rattle.ov_specs.specs.monitors.Updates.{update_notification}
use Rattle.ov_live.specs.Preparing.{PreparesMore}
use Rattle.ov_live.specs.declared.replying.Replying.{Replying}
use Rattle.ov_live.proofs.replying.Replying.prepare_updates_of.Given as goal

abbrev pub invariant-loop-params : goal.invariant-loop-params
invariant-loop-params g l = (ok : Bool) (new : Replying) → PreparesMore (to_session l.session (map update_notification l.params-iterator.rest.items)) l.self ok new
    → PreparesMore (to_session l.session (map update_notification l.initial.params-iterator.rest.items)) l.fn.self ok new
