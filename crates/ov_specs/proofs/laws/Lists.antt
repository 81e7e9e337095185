-- Tests of lists that are mapped, joined or filtered.
use Rattle.std.proofs.Common.{◌≡◌, List, [], ◌∷◌, map, filter, flat_map, Bool, true, false, cond, ◌||◌, refl, ap, ◌∙◌}
use Rattle.std.specs.List.{list_any, list_all}
use Rattle.std.proofs.lemmas.Bool.{and_parts, and_from}
use Rattle.std.proofs.lemmas.List.Folds.{list_any-append}

pub any-map : {A B : Type 0} (test : B → Bool) (f : A → B) (xs : List A) → list_any test (map f xs) ≡ list_any (λ x. test (f x)) xs
any-map test f [] = refl
any-map test f (x ∷ xs) = ap (λ b. test (f x) || b) (any-map test f xs)

pub any-flat_map : {A B : Type 0} (test : B → Bool) (f : A → List B) (xs : List A) → list_any test (flat_map f xs) ≡ list_any (λ x. list_any test (f x)) xs
any-flat_map test f [] = refl
any-flat_map test f (x ∷ xs) = list_any-append test (f x) (flat_map f xs) ∙ ap (λ b. list_any test (f x) || b) (any-flat_map test f xs)

-- what all pass, those that are kept pass
pub all-filter : {A : Type 0} (kept test : A → Bool) (xs : List A) → list_all test xs ≡ true → list_all test (filter kept xs) ≡ true
all-filter kept test [] h = refl
all-filter kept test (x ∷ xs) h = by (kept x) (all-filter kept test xs parts.1)
  where
    parts : (test x ≡ true) × (list_all test xs ≡ true)
    parts = and_parts (test x) (list_all test xs) h

    by : (b : Bool) → list_all test (filter kept xs) ≡ true → list_all test (cond b (x ∷ filter kept xs) (filter kept xs)) ≡ true
    by true rest = and_from (test x) (list_all test (filter kept xs)) parts.0 rest
    by false rest = rest
