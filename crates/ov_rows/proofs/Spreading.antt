-- Values of which some are their columns' defaults, one column after another.
use Rattle.std.proofs.Common.{◌≡◌, ◌≢◌, ℕ, suc, ◌+◌, ◌*◌, ◌-◌, ◌/◌, ◌%◌, ◌^◌, ◌<◌, ◌≤◌, List, [], ◌∷◌, ◌++◌, reverse, length, drop, get_or, Option, Some, None, MatchOption, IfNone, option_to_list, true, refl, sym, ap, subst, ◌∙◌, arith}
use Rattle.std.proofs.Math.Nat.{pow-le-pow_right}
use Rattle.std.proofs.lemmas.List.{drop_more, reverse-append, nil_from_length}
use Rattle.std.specs.Ordering.{eq_by_cmp}
use Rattle.ov_specs.specs.values.Value.{Datum, datum_cmp}
use Rattle.ov_specs.proofs.laws.DatumOrder.{datum_cmp-IsAntisymmetric}
use Rattle.ov_specs.proofs.laws.Truths.{equal_is}
use Rattle.ov_rows.specs.Spread.{before, own_among, spread}

-- ---- the first column

pub marked-first : (m : ℕ) (default : Datum) (defaults own : List Datum) → m % 2 ≡ 1 → spread m (default ∷ defaults) own ≡ default ∷ spread (m / 2) defaults own
marked-first m default defaults [] is = rw is refl
marked-first m default defaults (datum ∷ own) is = rw is refl

pub own-first : (m : ℕ) (default : Datum) (defaults : List Datum) (datum : Datum) (own : List Datum) → m % 2 ≡ 0 → spread m (default ∷ defaults) (datum ∷ own) ≡ datum ∷ spread (m / 2) defaults own
own-first m default defaults datum own is = rw is refl

pub none-first : (m : ℕ) (default : Datum) (defaults : List Datum) → m % 2 ≡ 0 → spread m (default ∷ defaults) [] ≡ []
none-first m default defaults is = rw is refl

-- ---- without marks all values are the row's own

pub unmarked : (defaults own : List Datum) → spread 0 defaults own ≡ own
unmarked [] own = refl
unmarked (default ∷ defaults) [] = refl
unmarked (default ∷ defaults) (datum ∷ own) = ap (λ later. datum ∷ later) (unmarked defaults own)

pub unmarked-among : (values : List Datum) → own_among 0 values ≡ values
unmarked-among [] = refl
unmarked-among (datum ∷ values) = ap (λ later. datum ∷ later) (unmarked-among values)

-- ---- the marks of values

-- the marks and the defaults give back the values
abbrev pub AreMarked : ℕ → List Datum → List Datum → Type 0
AreMarked m defaults values = spread m defaults (own_among m values) ≡ values

pub none-marked : (m : ℕ) (defaults values : List Datum) → m ≡ 0 → AreMarked m defaults values
none-marked m defaults values none = subst (λ n. AreMarked n defaults values) (sym none) (unmarked defaults (own_among 0 values) ∙ unmarked-among values)

-- a column with its default comes before others
pub more-marked : (m : ℕ) (datum : Datum) (defaults values : List Datum) → AreMarked m defaults values → AreMarked (m * 2 + 1) (datum ∷ defaults) (datum ∷ values)
more-marked m datum defaults values rest =
    let half : (m * 2 + 1) / 2 ≡ m = omega arith in
    let odd : (m * 2 + 1) % 2 ≡ 1 = omega arith in
    let among : own_among (m * 2 + 1) (datum ∷ values) ≡ own_among m values = rw odd (ap (λ n. own_among n values) half) in
    ap (spread (m * 2 + 1) (datum ∷ defaults)) among ∙ marked-first (m * 2 + 1) datum defaults (own_among m values) odd
    ∙ ap (λ later. datum ∷ later) (ap (λ n. spread n defaults (own_among m values)) half ∙ rest)

-- a column with a value of its own comes before others
pub more-own : (m : ℕ) (default datum : Datum) (defaults values : List Datum) → AreMarked m defaults values → AreMarked (m * 2) (default ∷ defaults) (datum ∷ values)
more-own m default datum defaults values rest =
    let half : m * 2 / 2 ≡ m = omega arith in
    let even : m * 2 % 2 ≡ 0 = omega arith in
    let among : own_among (m * 2) (datum ∷ values) ≡ datum ∷ own_among m values = rw even (ap (λ n. datum ∷ own_among n values) half) in
    ap (spread (m * 2) (default ∷ defaults)) among ∙ own-first (m * 2) default defaults datum (own_among m values) even
    ∙ ap (λ later. datum ∷ later) (ap (λ n. spread n defaults (own_among m values)) half ∙ rest)

-- the marks of the values from a place on, of which the first is the default of its column or not
module _ (m place : ℕ) (defaults values : List Datum) (default datum : Datum) (is_default : default ≡ get_or defaults place default) (is_datum : datum ≡ get_or values place datum)
    (known : place < length defaults) (there : place < length values) (rest : AreMarked m (drop (place + 1) defaults) (drop (place + 1) values)) where
  from_here : (xs : List Datum) (x y : Datum) → place < length xs → x ≡ get_or xs place x → x ≡ y → y ∷ drop (place + 1) xs ≡ drop place xs
  from_here xs x y within at is = ap (λ d. d ∷ drop (place + 1) xs) (sym is ∙ at) ∙ sym (drop_more xs place x within)

  pub marked-here : datum ≡ default → AreMarked (m * 2 + 1) (drop place defaults) (drop place values)
  marked-here same =
      subst (λ ds. AreMarked (m * 2 + 1) ds (drop place values)) (from_here defaults default default known is_default refl)
      (subst (λ vs. AreMarked (m * 2 + 1) (default ∷ drop (place + 1) defaults) vs) (from_here values datum default there is_datum same)
      (more-marked m default (drop (place + 1) defaults) (drop (place + 1) values) rest))

  pub own-here : AreMarked (m * 2) (drop place defaults) (drop place values)
  own-here =
      subst (λ ds. AreMarked (m * 2) ds (drop place values)) (from_here defaults default default known is_default refl)
      (subst (λ vs. AreMarked (m * 2) (default ∷ drop (place + 1) defaults) vs) (from_here values datum datum there is_datum refl)
      (more-own m default datum (drop (place + 1) defaults) (drop (place + 1) values) rest))

-- ---- the bound on the marks of the columns from a place on

pub fits-one_more : (m n mark : ℕ) → n < 64 → m < 2 ^ (64 - (n + 1)) → mark ≤ 1 → m * 2 + mark < 2 ^ (64 - n)
fits-one_more m n mark few small one =
    let here : 64 - (n + 1) ≡ 63 - n = omega arith in
    let next : 64 - n ≡ suc (63 - n) = omega arith in
    let below : m < 2 ^ (63 - n) = subst (λ k. m < 2 ^ k) here small in
    subst (λ k. m * 2 + mark < 2 ^ k) (sym next) (omega (arith, below, one))

pub fits-half : (m n : ℕ) → m < 2 ^ (64 - (n + 1)) → m < 2 ^ 63
fits-half m n small =
    let shorter : 64 - (n + 1) ≤ 63 = omega arith in
    let power = pow-le-pow_right {n = 2} (omega arith) {i = 64 - (n + 1)} {j = 63} shorter in
    omega (arith, small, power)

pub fits-none : (n : ℕ) → 0 < 2 ^ (64 - n)
fits-none n =
    let power = pow-le-pow_right {n = 2} (omega arith) {i = 0} {j = 64 - n} (omega arith) in
    omega (arith, power)

-- ---- the last of a list is taken

pub even : (m : ℕ) → m % 2 ≢ 1 → m % 2 ≡ 0
even m other = omega arith

-- nothing is taken from an empty list alone
pub popped_nil : (old : List Datum) (count other : ℕ) (last : Option Datum) → MatchOption last ((count ≡ 0) × (other ≡ 0)) (λ _. other + 1 ≡ count) → count ≡ length old → IfNone last (old ≡ [])
popped_nil old count other None cases is = nil_from_length old (sym is ∙ cases.0)
popped_nil old count other (Some last) cases is = tt

pub popped : (m : ℕ) (default : Datum) (defaults old new : List Datum) (last : Option Datum) → m % 2 ≡ 0 → old ≡ new ++ option_to_list last → IfNone last (old ≡ [])
    → spread m (default ∷ defaults) (reverse old) ≡ before last (spread (m / 2) defaults (reverse new))
popped m default defaults old new None even is none = ap (λ xs. spread m (default ∷ defaults) (reverse xs)) none ∙ none-first m default defaults even
popped m default defaults old new (Some last) even is none =
    ap (λ xs. spread m (default ∷ defaults) (reverse xs)) is ∙ ap (spread m (default ∷ defaults)) (reverse-append new (last ∷ [])) ∙ own-first m default defaults last (reverse new) even

-- ---- two equal values

pub same-datum : (a b : Datum) → eq_by_cmp datum_cmp a b ≡ true → a ≡ b
same-datum a b same = datum_cmp-IsAntisymmetric a b (equal_is _ same)
