use Rattle.std.proofs.Common.{◌≡◌, ◌++◌, map}
use Rattle.ov_rows.specs.Named.{named}
use Rattle.ov_rows.specs.Nested.{all_rows}
use Rattle.ov_carried.proofs.keys.keys_of.Given as goal

abbrev pub invariant-loop-name : goal.invariant-loop-name
invariant-loop-name l = l.found.items ++ map (λ r. r.0) (all_rows (named l.name-iterator)) ≡ map (λ r. r.0) (all_rows (named l.initial.name-iterator))
