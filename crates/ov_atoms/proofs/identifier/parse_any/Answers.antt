use Rattle.std.proofs.Common.{◌≡◌, ℕ, List, Option, Some, None, Result, Ok, Err, IsOk, IfOk, ◌↔◌, refl, ◌∙◌}
use Rattle.std.specs.Result.{result_ok}
use Rattle.ov_atoms.proofs.identifier.parse_any.Goals as goal

result_ok-parsed : {E : Type 0} (r : Result (List ℕ) E) (p : Option (List ℕ)) → IsOk r ↔ ((u : List ℕ) × (p ≡ Some u)) → IfOk r (λ u. Some u ≡ p) → result_ok r ≡ p
result_ok-parsed (Ok u) p ok same = same
result_ok-parsed (Err e) None ok same = refl
result_ok-parsed (Err e) (Some u) ok same = let no = ok.1 (u, refl) in cc

pub returns : goal.returns
returns c = c.ok.ensures.value ∙ result_ok-parsed c.parse_str.result _ c.parse_str.ensures.ok c.parse_str.ensures.bytes
