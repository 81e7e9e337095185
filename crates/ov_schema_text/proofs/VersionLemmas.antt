-- A version, read from left to right.
use Rattle.std.proofs.Common.{◌≡◌, ℕ, ◌-◌, List, [], ◌∷◌, length, refl, ap, ◌∙◌, sym, Bool, true, false, arith, zero, suc}
use Rattle.std.specs.Prelude.{not, ◌&&◌, ◌||◌, ◌==◌, if◌then◌else◌}
use Rattle.std.specs.List.{list_all}
use Rattle.std.proofs.Math.Dec.{eqb-suc-zero, eqb-zero-suc, eqb-suc-suc}
use Rattle.std.proofs.lemmas.Bool.{eqb-true, leb-true, and_parts}
use Rattle.ov_specs.specs.schema.Schema.{is_empty, is_digit, is_number, before_parts, split_at_dots, is_version}

-- what is left of a version: the number of dots still to come, and whether the current part has a digit yet
abbrev pub left_is_version : List ℕ → ℕ → Bool → Bool
left_is_version [] dots begun = (dots == 0) && begun
left_is_version (c ∷ cs) dots begun =
    if is_digit c then left_is_version cs dots true
    else if (c == 46) && begun && not (dots == 0) then left_is_version cs (dots - 1) false
    else false

-- the same for the remaining parts, of which the first has begun
abbrev left_parts : List (List ℕ) → ℕ → Bool → Bool
left_parts [] dots begun = false
left_parts (part ∷ parts) dots begun = (length parts == dots) && (((begun || not (is_empty part)) && list_all is_digit part) && list_all is_number parts)

-- one test fails
never : (a b c : Bool) → (a && ((b && false) && c)) ≡ false
never true true c = refl
never true false c = refl
never false b c = refl

none : (a : Bool) → (a && false) ≡ false
none true = refl
none false = refl

-- ---- one character

-- there is a part
some_part : (cs : List ℕ) → is_empty (split_at_dots cs) ≡ false
some_part [] = refl
some_part (c ∷ cs) = by_test (c == 46) (split_at_dots cs) (some_part cs)
  where
    by_test : (b : Bool) (parts : List (List ℕ)) → is_empty parts ≡ false → is_empty (if b then [] ∷ parts else before_parts c parts) ≡ false
    by_test true parts h = refl
    by_test false (part ∷ parts) h = refl
    by_test false [] h = h

digit_first : (c : ℕ) (parts : List (List ℕ)) (dots : ℕ) (begun : Bool) → is_digit c ≡ true → left_parts (before_parts c parts) dots begun ≡ left_parts parts dots true
digit_first c [] dots begun h = refl
digit_first c (part ∷ parts) dots true h = rw h refl
digit_first c (part ∷ parts) dots false h = rw h refl

other_first : (c : ℕ) (parts : List (List ℕ)) (dots : ℕ) (begun : Bool) → is_digit c ≡ false → left_parts (before_parts c parts) dots begun ≡ false
other_first c [] dots begun h = refl
other_first c (part ∷ parts) dots begun h = rw h (never (length parts == dots) (begun || true) (list_all is_number parts))

dot_first : (parts : List (List ℕ)) (dots : ℕ) (begun : Bool) → is_empty parts ≡ false → left_parts ([] ∷ parts) dots begun ≡ (if begun && not (dots == 0) then left_parts parts (dots - 1) false else false)
dot_first [] dots begun h = cc
dot_first (part ∷ parts) zero true h = rw (eqb-suc-zero (length parts)) refl
dot_first (part ∷ parts) zero false h = rw (eqb-suc-zero (length parts)) refl
dot_first (part ∷ parts) (suc dots) true h =
    let less : suc dots - 1 ≡ dots = omega arith in
    rw (eqb-suc-suc (length parts) dots, eqb-suc-zero dots, less) refl
dot_first (part ∷ parts) (suc dots) false h = rw (eqb-suc-suc (length parts) dots) (none (length parts == dots))

-- ---- all of them

-- from left to right is part by part
left-parts : (cs : List ℕ) (dots : ℕ) (begun : Bool) → left_is_version cs dots begun ≡ left_parts (split_at_dots cs) dots begun
left-parts [] zero true = refl
left-parts [] zero false = refl
left-parts [] (suc dots) begun = rw (eqb-suc-zero dots, eqb-zero-suc dots) refl
left-parts (c ∷ cs) dots begun = by_kind (left-parts cs) (c == 46) (is_digit c) refl refl
  where
    by_kind : ((dots : ℕ) (begun : Bool) → left_is_version cs dots begun ≡ left_parts (split_at_dots cs) dots begun)
        → (dot digit : Bool) → (c == 46) ≡ dot → is_digit c ≡ digit
        → (if digit then left_is_version cs dots true else if dot && begun && not (dots == 0) then left_is_version cs (dots - 1) false else false)
        ≡ left_parts (if dot then [] ∷ split_at_dots cs else before_parts c (split_at_dots cs)) dots begun
    by_kind rest true true e h =
        let is : c ≡ 46 = eqb-true c 46 e in
        let least = leb-true 48 c (and_parts _ _ h).0 in
        absurd (omega arith)
    by_kind rest true false e h = ap (λ b. if begun && not (dots == 0) then b else false) (rest (dots - 1) false) ∙ sym (dot_first (split_at_dots cs) dots begun (some_part cs))
    by_kind rest false true e h = rest dots true ∙ sym (digit_first c (split_at_dots cs) dots begun h)
    by_kind rest false false e h = sym (other_first c (split_at_dots cs) dots begun h)

-- two dots are still to come
pub left-version : (text : List ℕ) → left_is_version text 2 false ≡ is_version text
left-version text = left-parts text 2 false ∙ whole (split_at_dots text)
  where
    whole : (parts : List (List ℕ)) → left_parts parts 2 false ≡ ((length parts == 3) && list_all is_number parts)
    whole [] = refl
    whole (part ∷ parts) = rw (eqb-suc-suc (length parts) 2) refl
