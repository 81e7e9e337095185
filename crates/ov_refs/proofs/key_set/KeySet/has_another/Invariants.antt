use Rattle.std.proofs.Common.{◌≡◌, not}
use Rattle.std.specs.FinMap.{keys}
use Rattle.std.specs.List.{list_any}
use Rattle.ov_specs.specs.rows.Database.{same_key}
use Rattle.ov_refs.proofs.key_set.KeySet.has_another.Given as goal

abbrev pub invariant-loop-other : goal.invariant-loop-other
invariant-loop-other l = list_any (λ other. not (same_key other l.key)) l.other-iterator ≡ list_any (λ other. not (same_key other l.key)) (keys l.self)
