-- Lists of databases, each of which is made of the one before it; and what holds of each element of a list.
use Rattle.std.proofs.Common.{◌≡◌, ℕ, suc, ◌+◌, List, [], ◌∷◌, ◌++◌, length, filter, Bool, true, false, cond, refl, sym, ap, subst, arith}
use Rattle.std.specs.List.{AllByRecursion}
use Rattle.ov_specs.specs.rows.Database.{Database}

-- the number of the next one, after these
abbrev pub after_all : ℕ → List Database → ℕ
after_all n [] = n
after_all n (d ∷ ds) = after_all (suc n) ds

pub after_all-is : (n : ℕ) (ds : List Database) → after_all n ds ≡ n + length ds
after_all-is n [] = omega arith
after_all-is n (d ∷ ds) = omega (arith, after_all-is (suc n) ds)

pub after_all-append : (n : ℕ) (ds es : List Database) → after_all n (ds ++ es) ≡ after_all (after_all n ds) es
after_all-append n [] es = refl
after_all-append n (d ∷ ds) es = after_all-append (suc n) ds es

-- from one database to another, over these, each made of the one before it; this is the number of the first
abbrev pub Path : (ℕ → Database → Database → Type 0) → ℕ → Database → List Database → Database → Type 0
Path R n a [] b = a ≡ b
Path R n a (d ∷ ds) b = R n a d × Path R (suc n) d ds b

module _ (R : ℕ → Database → Database → Type 0) where
  pub path-append : (n : ℕ) (a : Database) (ds : List Database) (b : Database) (es : List Database) (c : Database) → Path R n a ds b → Path R (after_all n ds) b es c → Path R n a (ds ++ es) c
  path-append n a [] b es c p q = subst (λ d. Path R n d es c) (sym p) q
  path-append n a (d ∷ ds) b es c p q = (p.0, path-append (suc n) d ds b es c p.1 q)

  -- where it ends
  pub path-last : (n : ℕ) (a : Database) (ds : List Database) (b : Database) → Path R n a ds b → (earlier : List Database) × (a ∷ ds ≡ earlier ++ b ∷ []) × (length earlier ≡ length ds)
  path-last n a [] b p = ([], ap (λ d. d ∷ []) p, refl)
  path-last n a (d ∷ ds) b p =
      let (earlier, is, long) = path-last (suc n) d ds b p.1 in
      (a ∷ earlier, ap (λ l. a ∷ l) is, omega (arith, long))

  abbrev others : Database → List Database → List Database
  others d [] = []
  others d (e ∷ es) = es

  abbrev first_of : Database → List Database → Database
  first_of d [] = d
  first_of d (e ∷ es) = e

  -- one after another
  pub path-next : (n : ℕ) (a : Database) (ds : List Database) (b : Database) → Path R n a ds b → (earlier later : List Database) (one next : Database) → a ∷ ds ≡ earlier ++ one ∷ next ∷ later → R (after_all n earlier) one next
  path-next n a ds b p [] later one next is =
      (subst (λ l. Path R n one l b) (ap (others a) is) (subst (λ d. Path R n d ds b) (ap (first_of a) is) p)).0
  path-next n a [] b p (x ∷ earlier) later one next is = absurd (no earlier (ap (others a) is))
    where
      no : (l : List Database) → [] ≡ l ++ one ∷ next ∷ later → ⊥
      no [] e = cc
      no (y ∷ l) e = cc
  path-next n a (d ∷ ds) b p (x ∷ earlier) later one next is = path-next (suc n) d ds b p.1 earlier later one next (ap (others a) is)

-- ---- what holds of each

module _ {A : Type 0} (P : A → Type 0) where
  pub all-append : (xs ys : List A) → AllByRecursion P xs → AllByRecursion P ys → AllByRecursion P (xs ++ ys)
  all-append [] ys all more = more
  all-append (x ∷ xs) ys all more = (all.0, all-append xs ys all.1 more)

  pub all-filter : (test : A → Bool) (xs : List A) → AllByRecursion P xs → AllByRecursion P (filter test xs)
  all-filter test [] all = tt
  all-filter test (x ∷ xs) all = by (test x) (all-filter test xs all.1)
    where
      by : (b : Bool) → AllByRecursion P (filter test xs) → AllByRecursion P (cond b (x ∷ filter test xs) (filter test xs))
      by true rest = (all.0, rest)
      by false rest = rest

  pub all-so : (Q : A → Type 0) → ((x : A) → P x → Q x) → (xs : List A) → AllByRecursion P xs → AllByRecursion Q xs
  all-so Q so [] all = tt
  all-so Q so (x ∷ xs) all = (so x all.0, all-so Q so xs all.1)

  -- the one between these
  pub all-at : (front : List A) (x : A) (back : List A) → AllByRecursion P (front ++ x ∷ back) → P x
  all-at [] x back all = all.0
  all-at (y ∷ front) x back all = all-at front x back all.1
