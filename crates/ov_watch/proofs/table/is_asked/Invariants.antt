use Rattle.std.proofs.Common.{◌≡◌, drop, map}
use Rattle.std.specs.List.{list_any}
use Rattle.ov_specs.specs.monitors.Requests as spec
use Rattle.ov_watch.proofs.table.is_asked.Given as goal

abbrev pub invariant-loop-request : goal.invariant-loop-request
invariant-loop-request l =
    list_any (λ request. spec.is_one_of request.columns l.name) (map (λ r. r.now) l.requests)
    ≡ list_any (λ request. spec.is_one_of request.columns l.name) (map (λ r. r.now) (drop l.request-index l.requests))
