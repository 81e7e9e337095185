use Rattle.std.proofs.Common.{◌≡◌, ◌++◌, map}
use Rattle.std.specs.List.{filter}
use Rattle.std.specs.Str.{bytes_eq}
use Rattle.ov_stage.proofs.merge.changes_of.Given as goal

abbrev pub invariant-loop-key : goal.invariant-loop-key
invariant-loop-key l =
    map (λ c. ((l.table, c.0.now), c.1.now)) l.changes.items ++ filter (λ c. bytes_eq c.0.0 l.table) l.key-iterator ≡ filter (λ c. bytes_eq c.0.0 l.table) l.initial.key-iterator
