-- The first refusal that applies, test by test.
use Rattle.std.proofs.Common.{◌≡◌, Bool, true, false, if◌then◌else◌, Option, Some, ap, ◌∙◌}

module _ {A : Type 0} (b : Bool) (a : A) (rest : Option A) where
  -- the test fails
  pub passed : (o : Option A) → b ≡ false → rest ≡ o → (if b then Some a else rest) ≡ o
  passed o is same = ap (λ x. if x then Some a else rest) is ∙ same

  -- the test holds
  pub here : b ≡ true → (if b then Some a else rest) ≡ Some a
  here is = ap (λ x. if x then Some a else rest) is
