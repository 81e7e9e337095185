use Rattle.std.proofs.Common.{◌≡◌, drop}
use Rattle.std.specs.FinMap.{contains_key}
use Rattle.std.specs.List.{list_all}
use Rattle.ov_specs.specs.monitors.Requests as spec
use Rattle.ov_watch.proofs.table.are_known.Given as goal

abbrev pub invariant-loop-request : goal.invariant-loop-request
invariant-loop-request l = list_all (contains_key l.table.columns) (spec.requested_columns l.requests) ≡ list_all (contains_key l.table.columns) (spec.requested_columns (drop l.request-index l.requests))
