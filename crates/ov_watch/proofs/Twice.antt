-- Whether a name occurs twice in a list, name by name.
use Rattle.std.proofs.Common.{◌≡◌, ℕ, List, [], ◌∷◌, ◌++◌, Bool, true, false, ◌||◌, cond, not, refl, sym, ap, ◌∙◌, Bor}
use Rattle.std.specs.Cmp.Lexicographic.{slice_cmp, nat_list_eq_equiv, texts_ties}
use Rattle.std.specs.Ordering.{nat_cmp, eq_by_cmp}
use Rattle.std.proofs.lemmas.List.Folds.{list_any-append}
use Rattle.std.specs.List.{list_any}
use Rattle.std.specs.Str.{bytes_eq}
use Rattle.ov_specs.specs.schema.Schema.{has_twice}

-- a name that is equal to this one is among those that are borrowed
abbrev pub any_key : List ℕ → List (Bor (List ℕ)) → Bool
any_key q keys = list_any (λ k. eq_by_cmp (slice_cmp nat_cmp) q k.now) keys

either : (a b c d : Bool) → ((a || (b || false)) || (c || d)) ≡ ((a || c) || (b || d))
either true b c d = refl
either false true true d = refl
either false true false d = refl
either false false c d = refl

-- one name more
pub has_twice-push : (xs : List (List ℕ)) (x : List ℕ) → has_twice (xs ++ x ∷ []) ≡ (has_twice xs || list_any (bytes_eq x) xs)
has_twice-push [] x = refl
has_twice-push (n ∷ ns) x =
    (λ i. list_any-append (λ other. bytes_eq other n) ns (x ∷ []) i || has_twice-push ns x i)
    ∙ either (list_any (λ other. bytes_eq other n) ns) (bytes_eq x n) (has_twice ns) (list_any (bytes_eq x) ns)

-- what occurs twice in a front occurs twice in the whole
pub has_twice-front : (xs ys : List (List ℕ)) → has_twice xs ≡ true → has_twice (xs ++ ys) ≡ true
has_twice-front [] ys h = cc
has_twice-front (n ∷ ns) ys h = ap (λ b. b || has_twice (ns ++ ys)) (list_any-append (λ other. bytes_eq other n) ns ys) ∙ by (list_any (λ other. bytes_eq other n) ns) (has_twice ns) h (has_twice-front ns ys)
  where
    by : (a b : Bool) → (a || b) ≡ true → (b ≡ true → has_twice (ns ++ ys) ≡ true) → ((a || list_any (λ other. bytes_eq other n) ys) || has_twice (ns ++ ys)) ≡ true
    by true b h f = refl
    by false b h f = ap (λ c. list_any (λ other. bytes_eq other n) ys || c) (f h) ∙ last (list_any (λ other. bytes_eq other n) ys)
      where
        last : (b : Bool) → (b || true) ≡ true
        last true = refl
        last false = refl

-- ---- names that were seen

turned : (a b : List ℕ) → bytes_eq a b ≡ bytes_eq b a
turned a b = nat_list_eq_equiv.symm a b

first_or : (a b : Bool) → cond a true b ≡ (b || (a || false))
first_or true true = refl
first_or true false = refl
first_or false true = refl
first_or false false = refl

pub seen-push : (names : List (List ℕ)) (n : List ℕ) (old new : List (Bor (List ℕ))) → ((q : List ℕ) → any_key q old ≡ list_any (bytes_eq q) names)
    → ((q : List ℕ) → any_key q new ≡ cond (eq_by_cmp (slice_cmp nat_cmp) n q) true (any_key q old)) → (q : List ℕ) → any_key q new ≡ list_any (bytes_eq q) (names ++ n ∷ [])
seen-push names n old new before step q =
    step q ∙ ap (λ b. cond b true (any_key q old)) (sym (texts_ties n q) ∙ turned n q) ∙ ap (cond (bytes_eq q n) true) (before q) ∙ first_or (bytes_eq q n) (list_any (bytes_eq q) names)
    ∙ sym (list_any-append (bytes_eq q) names (n ∷ []))

pub seen-once : (names : List (List ℕ)) (n : List ℕ) → has_twice names ≡ false → list_any (bytes_eq n) names ≡ false → has_twice (names ++ n ∷ []) ≡ false
seen-once names n once fresh = has_twice-push names n ∙ (λ i. once i || fresh i)

pub seen-twice : (front : List (List ℕ)) (n : List ℕ) (rest : List (List ℕ)) → list_any (bytes_eq n) front ≡ true → has_twice ((front ++ n ∷ []) ++ rest) ≡ true
seen-twice front n rest again = has_twice-front (front ++ n ∷ []) rest (has_twice-push front n ∙ ap (λ b. has_twice front || b) again ∙ last (has_twice front))
  where
    last : (b : Bool) → (b || true) ≡ true
    last true = refl
    last false = refl

-- ---- what was answered

pub not_again : (a b : Bool) → a ≡ not b → a ≡ true → b ≡ false
not_again a true h k = cc
not_again a false h k = refl

pub is_again : (a b : Bool) → a ≡ not b → a ≡ false → b ≡ true
is_again a true h k = refl
is_again a false h k = cc
