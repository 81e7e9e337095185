use Rattle.std.proofs.Common.{◌≡◌, not}
use Rattle.std.specs.FinMap.{contains_key, keys}
use Rattle.std.specs.List.{list_any}
use Rattle.ov_integrity.proofs.missing.has_untouched.Given as goal

abbrev pub invariant-loop-key : goal.invariant-loop-key
invariant-loop-key l = list_any (λ key. not (contains_key l.changes key)) l.key-iterator ≡ list_any (λ key. not (contains_key l.changes key)) (keys l.set)
