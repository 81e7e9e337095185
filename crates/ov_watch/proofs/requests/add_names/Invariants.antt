use Rattle.std.proofs.Common.{◌≡◌, ◌++◌, drop, map}
use Rattle.ov_watch.proofs.requests.add_names.Given as goal

abbrev pub invariant-loop-name : goal.invariant-loop-name
invariant-loop-name l = map (λ t. t.now) l.names.items ++ drop l.name-index l.more ≡ map (λ t. t.now) l.fn.names.items ++ l.more
