use Rattle.std.proofs.Common.{◌≡◌, ◌++◌}
use Rattle.ov_stored.specs.Changing.{applied}
use Rattle.ov_specs.specs.monitors.Updates.{all_updates}
use Rattle.ov_watch.proofs.monitors.Monitors.updates.Given as goal

abbrev pub invariant-loop-monitor : goal.invariant-loop-monitor
invariant-loop-monitor g l =
    all_updates l.rows (applied l.delta l.rows) l.initial.monitor-iterator ≡ l.updates.items ++ all_updates l.rows (applied l.delta l.rows) l.monitor-iterator
