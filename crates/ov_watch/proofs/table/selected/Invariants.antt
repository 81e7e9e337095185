use Rattle.std.proofs.Common.{◌≡◌, ◌++◌, drop, map, filter}
use Rattle.ov_watch.specs.Views.{selects}
use Rattle.ov_watch.proofs.table.selected.Given as goal

abbrev pub invariant-loop-request : goal.invariant-loop-request
invariant-loop-request l = filter (selects l.kind) l.requests ≡ map (λ r. r.now) l.selected.items ++ filter (selects l.kind) (drop l.request-index l.requests)
