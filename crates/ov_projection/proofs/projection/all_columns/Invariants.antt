use Rattle.std.proofs.Common.{◌≡◌, ◌++◌, drop, map}
use Rattle.ov_projection.proofs.projection.all_columns.Given as goal

abbrev pub invariant-loop-name : goal.invariant-loop-name
invariant-loop-name l = map (λ c. c.0) l.name-items ≡ l.names.items ++ map (λ c. c.0) (drop l.name-index l.name-items)
