use Rattle.std.proofs.Common.{◌≡◌, ◌++◌, drop, map}
use Rattle.ov_specs.specs.monitors.Requests as spec
use Rattle.ov_watch.proofs.requests.names_in.Given as goal

abbrev pub invariant-loop-request : goal.invariant-loop-request
invariant-loop-request l = spec.requested_columns l.requests ≡ map (λ t. t.now) l.names.items ++ spec.requested_columns (drop l.request-index l.requests)
