use Rattle.std.proofs.Common.{◌≡◌, ◌++◌, drop, map, filter}
use Rattle.std.specs.List.{list_any}
use Rattle.ov_specs.specs.monitors.Requests as spec
use Rattle.ov_watch.proofs.table.columns_of.Given as goal

abbrev pub invariant-loop-name : goal.invariant-loop-name
invariant-loop-name l =
    filter (λ name. list_any (λ request. spec.is_one_of request.columns name) (map (λ r. r.now) l.requests)) (map (λ c. c.0) l.name-items)
    ≡ l.names.items ++ filter (λ name. list_any (λ request. spec.is_one_of request.columns name) (map (λ r. r.now) l.requests)) (map (λ c. c.0) (drop l.name-index l.name-items))
