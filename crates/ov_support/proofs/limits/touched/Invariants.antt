use Rattle.std.proofs.Common.{◌≡◌, ◌||◌, ℕ, List, Bool}
use Rattle.std.specs.List.{list_any}
use Rattle.ov_support.proofs.limits.touched.Given as goal

abbrev pub invariant-loop-key : goal.invariant-loop-key
invariant-loop-key l =
    (test : List ℕ → Bool) → (list_any test l.names.items || list_any (λ c. test c.0.0) l.key-iterator) ≡ list_any (λ c. test c.0.0) l.initial.key-iterator
