use Rattle.std.proofs.Common.{◌≡◌, drop}
use Rattle.ov_specs.specs.monitors.Requests as spec
use Rattle.ov_specs.proofs.laws.Results.{after_these}
use Rattle.ov_watch.proofs.table.monitored_tables.Given as goal

abbrev pub invariant-loop-table : goal.invariant-loop-table
invariant-loop-table l = spec.monitored_tables l.schema l.asked ≡ after_these l.tables.items (spec.monitored_tables l.schema (drop l.table-index l.asked))
