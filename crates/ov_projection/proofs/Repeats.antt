-- Rows that are shown once: the first of those that are equal, as a walk from the front keeps them.
use Rattle.std.proofs.Common.{◌≡◌, ℕ, List, [], ◌∷◌, ◌++◌, Bool, true, false, not, ◌||◌, cond, if◌then◌else◌, filter, refl, sym, ap, ◌∙◌, append_assoc, append-nil}
use Rattle.std.proofs.lemmas.Bool.{false≢true}
use Rattle.std.proofs.lemmas.List.Folds.{list_any-append}
use Rattle.std.specs.List.{list_any}
use Rattle.std.specs.Cmp.{eq_by_cmp_equiv, partial_equiv_from_equiv}
use Rattle.std.specs.Cmp.Lexicographic.{lists_total}
use Rattle.ov_specs.specs.rows.Database.{same_columns}
use Rattle.ov_specs.specs.operations.Select.{without_repeats}
use Rattle.ov_specs.specs.values.Value.{Datum}
use Rattle.ov_specs.proofs.laws.Sameness.{column_cmp_total, columns-tied}
use Rattle.ov_specs.proofs.laws.Truths.{or_nothing, or_truth}

abbrev pub Shown : Type 0
Shown = List (List ℕ × Datum)

-- ---- equality is passed on

abbrev PassesOn : {A : Type 0} → (A → A → Bool) → Type 0
PassesOn {A} E = (x y z : A) → E x y ≡ true → E y z ≡ true → E x z ≡ true

columns_pass : PassesOn same_columns
columns_pass x y z h k = columns-tied x z ∙ (partial_equiv_from_equiv (eq_by_cmp_equiv (lists_total column_cmp_total))).trans x y z (sym (columns-tied x y) ∙ h) (sym (columns-tied y z) ∙ k)

-- ---- the walk from the front

filter-all : {A : Type 0} (xs : List A) → filter (λ x. true) xs ≡ xs
filter-all [] = refl
filter-all (x ∷ xs) = ap (λ ys. x ∷ ys) (filter-all xs)

module _ {A : Type 0} where
  split : (p : A → Bool) (y : A) (ys : List A) (a b : Bool) → p y ≡ not a → cond (not (a || b)) (y ∷ filter p ys) (filter p ys) ≡ filter p (cond (not b) (y ∷ ys) ys)
  split p y ys true true e = refl
  split p y ys true false e = rw e refl
  split p y ys false true e = refl
  split p y ys false false e = rw e refl

  drop_one : (p : A → Bool) (y : A) (kept ys : List A) (b : Bool) → (b ≡ true → p y ≡ false) → filter p kept ≡ filter p ys → filter p (cond (not b) (y ∷ kept) kept) ≡ cond (p y) (y ∷ filter p ys) (filter p ys)
  drop_one p y kept ys true apart e = rw (apart refl) e
  drop_one p y kept ys false apart e = ap (λ zs. cond (p y) (y ∷ zs) zs) e

passed_over : (a b c : Bool) → (b ≡ true → a ≡ true) → (a || c) ≡ (a || (b || c))
passed_over a false c h = refl
passed_over a true c h = rw (h refl) refl

joined : (a b c : Bool) → ((a || b) || c) ≡ (a || (b || c))
joined true b c = refl
joined false b c = refl

module _ {A : Type 0} (E : A → A → Bool) where
  -- one that is equal is kept
  abbrev pub among : List A → A → Bool
  among kept x = list_any (λ k. E k x) kept

  -- none that is equal is kept
  abbrev fresh : List A → A → Bool
  fresh kept x = not (among kept x)

  -- what is kept, with those of the others that are new
  abbrev pub kept_with : List A → List A → List A
  kept_with kept [] = kept
  kept_with kept (x ∷ xs) = if among kept x then kept_with kept xs else kept_with (kept ++ x ∷ []) xs

  -- the first of those that are equal
  abbrev once : List A → List A
  once [] = []
  once (x ∷ xs) = x ∷ filter (λ y. not (E x y)) (once xs)

  among-push : (kept : List A) (x y : A) → among (kept ++ x ∷ []) y ≡ (among kept y || E x y)
  among-push kept x y = list_any-append (λ k. E k y) kept (x ∷ []) ∙ ap (λ b. among kept y || b) (or_nothing (E x y))

  filter-both : (kept : List A) (x : A) (ys : List A) → filter (fresh (kept ++ x ∷ [])) ys ≡ filter (fresh kept) (filter (λ y. not (E x y)) ys)
  filter-both kept x [] = refl
  filter-both kept x (y ∷ ys) = rw (among-push kept x y, filter-both kept x ys) (split (fresh kept) y (filter (λ z. not (E x z)) ys) (among kept y) (E x y) refl)

  among-passes : PassesOn E → (kept : List A) (x y : A) → among kept x ≡ true → E x y ≡ true → among kept y ≡ true
  among-passes on [] x y h e = absurd (false≢true h)
  among-passes on (k ∷ kept) x y h e =
      elim (E k x) as (λ b. E k x ≡ b → (b || among kept x) ≡ true → (E k y || among kept y) ≡ true) [
        | true ↦ λ is g. rw (on k x y is e) refl
        | false ↦ λ is g. rw (among-passes on kept x y g e) (or_truth (E k y))
      ] refl h

  absorbed : PassesOn E → (kept : List A) (x : A) → among kept x ≡ true → (ys : List A) → filter (fresh kept) (filter (λ y. not (E x y)) ys) ≡ filter (fresh kept) ys
  absorbed on kept x h [] = refl
  absorbed on kept x h (y ∷ ys) = drop_one (fresh kept) y (filter (λ z. not (E x z)) ys) ys (E x y) (λ e. ap not (among-passes on kept x y h e)) (absorbed on kept x h ys)

  kept_with-once : PassesOn E → (kept xs : List A) → kept_with kept xs ≡ kept ++ filter (fresh kept) (once xs)
  kept_with-once on kept [] = sym (append-nil kept)
  kept_with-once on kept (x ∷ xs) =
      let others : List A = filter (fresh kept) (filter (λ y. not (E x y)) (once xs)) in
      elim (among kept x) as (λ b. among kept x ≡ b → (if b then kept_with kept xs else kept_with (kept ++ x ∷ []) xs) ≡ kept ++ cond (not b) (x ∷ others) others) [
        | true ↦ λ h. kept_with-once on kept xs ∙ ap (λ zs. kept ++ zs) (sym (absorbed on kept x h (once xs)))
        | false ↦ λ h. kept_with-once on (kept ++ x ∷ []) xs ∙ (append_assoc kept (x ∷ []) _ ∙ ap (λ zs. kept ++ (x ∷ zs)) (filter-both kept x (once xs)))
      ] refl

  -- one row more
  pub kept_with-push : (kept xs : List A) (x : A) → kept_with kept (xs ++ x ∷ []) ≡ (if among (kept_with kept xs) x then kept_with kept xs else kept_with kept xs ++ x ∷ [])
  kept_with-push kept [] x = refl
  kept_with-push kept (y ∷ ys) x =
      elim (among kept y) as (λ b. (if b then kept_with kept (ys ++ x ∷ []) else kept_with (kept ++ y ∷ []) (ys ++ x ∷ []))
      ≡ (if among (if b then kept_with kept ys else kept_with (kept ++ y ∷ []) ys) x then (if b then kept_with kept ys else kept_with (kept ++ y ∷ []) ys) else (if b then kept_with kept ys else kept_with (kept ++ y ∷ []) ys) ++ x ∷ [])) [
        | true ↦ kept_with-push kept ys x
        | false ↦ kept_with-push (kept ++ y ∷ []) ys x
      ]

  -- what is equal to one of the rows is equal to one that is kept
  pub among-kept : PassesOn E → (kept xs : List A) (x : A) → among (kept_with kept xs) x ≡ (among kept x || list_any (λ y. E y x) xs)
  among-kept on kept [] x = sym (or_nothing (among kept x))
  among-kept on kept (y ∷ ys) x =
      elim (among kept y) as (λ b. among kept y ≡ b → among (if b then kept_with kept ys else kept_with (kept ++ y ∷ []) ys) x ≡ (among kept x || (E y x || list_any (λ z. E z x) ys))) [
        | true ↦ λ is. among-kept on kept ys x ∙ passed_over (among kept x) (E y x) (list_any (λ z. E z x) ys) (among-passes on kept y x is)
        | false ↦ λ is. among-kept on (kept ++ y ∷ []) ys x ∙ ap (λ b. b || list_any (λ z. E z x) ys) (among-push kept y x) ∙ joined (among kept x) (E y x) (list_any (λ z. E z x) ys)
      ] refl

without_repeats-once : (rows : List Shown) → without_repeats rows ≡ once same_columns rows
without_repeats-once [] = refl
without_repeats-once (row ∷ rows) = ap (λ others. row ∷ filter (λ other. not (same_columns row other)) others) (without_repeats-once rows)

-- only the first of the rows that are equal, found by one walk from the front
pub without_repeats-kept : (rows : List Shown) → without_repeats rows ≡ kept_with same_columns [] rows
without_repeats-kept rows = without_repeats-once rows ∙ sym (kept_with-once same_columns columns_pass [] rows ∙ filter-all (once same_columns rows))

-- a row is kept exactly if none of the rows before it is equal to it
pub kept_is_seen : (rows : List Shown) (row : Shown) → among same_columns (kept_with same_columns [] rows) row ≡ list_any (λ x. same_columns x row) rows
kept_is_seen rows row = among-kept same_columns columns_pass [] rows row
