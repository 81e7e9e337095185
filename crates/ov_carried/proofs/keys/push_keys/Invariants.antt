use Rattle.std.proofs.Common.{◌≡◌, ◌++◌, map}
use Rattle.ov_rows.specs.Nested.{in_table}
use Rattle.ov_carried.proofs.keys.push_keys.Given as goal

abbrev pub invariant-loop-id : goal.invariant-loop-id
invariant-loop-id l =
    l.found.items ++ map (λ r. r.0) (in_table l.name l.id-iterator) ≡ l.fn.found.items ++ map (λ r. r.0) (in_table l.name l.initial.id-iterator)
