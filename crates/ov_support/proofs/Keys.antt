-- Whether two keys are one.
use Rattle.std.proofs.Common.{◌≡◌, Bool, true, false, Option, Some, None, refl, sym, ap, ◌∙◌}
use Rattle.ov_specs.specs.rows.Database.{Row, same_key}
use Rattle.ov_specs.specs.rows.Lines.{LineKey}
use Rattle.ov_specs.proofs.laws.LineKeys.{same_key-is, same_key-itself}

-- ---- what cannot be, and truth

pub contradicts : (b : Bool) → b ≡ true → b ≡ false → ⊥
contradicts true is is_not = cc
contradicts false is is_not = cc

pub none_is : (row : Row) → ◌≡◌ {A = Option Row} None (Some row) → ⊥
none_is row e = cc

-- two tests that imply each other are one
pub same_truth : (a b : Bool) → (a ≡ true → b ≡ true) → (b ≡ true → a ≡ true) → a ≡ b
same_truth true b there back = sym (there refl)
same_truth false true there back = back refl
same_truth false false there back = refl

-- ---- keys

same_key-of : (a b : LineKey) → a ≡ b → same_key a b ≡ true
same_key-of a b same = ap (same_key a) (sym same) ∙ same_key-itself a

pub same_key-turned : (a b : LineKey) → same_key a b ≡ same_key b a
same_key-turned a b = by (same_key a b) (same_key b a) refl refl
  where
    by : (x y : Bool) → same_key a b ≡ x → same_key b a ≡ y → same_key a b ≡ same_key b a
    by true y is turned = is ∙ sym (same_key-of b a (sym (same_key-is a b is)))
    by false true is turned = same_key-of a b (sym (same_key-is b a turned)) ∙ sym turned
    by false false is turned = is ∙ sym turned
