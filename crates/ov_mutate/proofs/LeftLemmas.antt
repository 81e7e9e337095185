-- What a walk leaves of a list is what a filter leaves, and what it makes of two maps has no key with two values.
use Rattle.std.proofs.Common.{◌≡◌, List, [], ◌∷◌, ◌++◌, map, filter, Bool, true, false, cond, not, T, ◌&&◌, ◌||◌, Option, Some, None, refl, sym, ap, subst, ◌∙◌, Less}
use Rattle.std.proofs.lemmas.List.Folds.{list_any-append}
use Rattle.std.specs.Prelude.{is_some, if◌then◌else◌}
use Rattle.std.specs.List.{list_any, list_all}
use Rattle.std.specs.Ordering.{eq_by_cmp, is_lt}
use Rattle.std.specs.FinMap.{find, contains_key, keys, entries, entries_sorted, is_sorted, same_map, get-from_entries}
use Rattle.std.specs.FinMap.Entries.{below_all, is_some-find}
use Rattle.ov_specs.specs.operations.Conditions.{has_pair}
use Rattle.ov_specs.specs.rows.Database.{same_atom, same_pair}
use Rattle.ov_specs.specs.operations.Mutators.{inserted, deleted}
use Rattle.ov_specs.specs.values.Reading.{differ_at_one_key, has_clash}
use Rattle.ov_specs.specs.values.Value.{Atom, atom_cmp, AtomSet, AtomMap, set_of, map_of, Datum, Atoms, Pairs}
use Rattle.ov_specs.proofs.laws.Clashing.{same-is, has_clash-ascending}
use Rattle.ov_specs.proofs.laws.Order.{atom_cmp_total, atom_cmp-IsAntisymmetric}
use Rattle.ov_conds.specs.Compared as compared
use Rattle.ov_conds.specs.Compared.{elements_of}
use Rattle.ov_conds.specs.Walks.{from_key, is_first}
use Rattle.ov_conds.proofs.WalkLemmas.{below, ascends, ascends-from_key, is_first-has, has-from_key, keys-ascend, entries-ascend}
use Rattle.ov_conds.proofs.CompareLemmas.{is_atom-swap, atom-apart, atom-beyond, pair-apart, pair-beyond, any-contains_key, any-has_pair}
use Rattle.ov_mutate.specs.Remaining.{remaining_atoms, remaining_pairs, pairs_without_keys, at_new_keys}
use Rattle.ov_specs.proofs.laws.Truths.{both_hold, right_fails, left_holds, right_holds, less_is}

abbrev pub Pair : Type 0
Pair = Atom × Atom

-- ---- walks

if_not : {A : Type 0} (b : Bool) (x y : A) → (if b then x else y) ≡ cond (not b) y x
if_not true x y = refl
if_not false x y = refl

module _ {A C : Type 0} (key : A → Atom) (at : C → Atom) (same : A → C → Bool) (apart : (x : A) (c : C) → atom_cmp (key x) (at c) ≡ Less → same x c ≡ false)
    (beyond : (x : A) (c : C) → atom_cmp (at c) (key x) ≡ Less → same x c ≡ false) where
  abbrev lacks : List A → C → Bool
  lacks xs c = not (list_any (λ x. same x c) xs)

  left-later : (k : Atom) (xs : List A) (cs : List C) → T (below at k cs) → filter (lacks (from_key key k xs)) cs ≡ filter (lacks xs) cs
  left-later k xs [] h = refl
  left-later k xs (c ∷ cs) h =
      let here = has-from_key key at same apart beyond k xs c (less_is _ (left_holds (is_lt (atom_cmp k (at c))) (below at k cs) h)) in
      let rest = left-later k xs cs (right_holds (is_lt (atom_cmp k (at c))) (below at k cs) h) in
      λ i. cond (not (here i)) (c ∷ rest i) (rest i)

  -- what a walk leaves that drops what it finds
  pub walk-left : (walk : List A → List C → List C) → ((xs : List A) → walk xs [] ≡ [])
      → ((xs : List A) (c : C) (cs : List C) → walk xs (c ∷ cs) ≡ (if is_first (λ x. same x c) (from_key key (at c) xs) then walk (from_key key (at c) xs) cs else c ∷ walk (from_key key (at c) xs) cs))
      → (xs : List A) (cs : List C) → T (ascends key xs) → T (ascends at cs) → walk xs cs ≡ filter (λ c. not (list_any (λ x. same x c) xs)) cs
  walk-left walk none one xs [] h j = none xs
  walk-left walk none one xs (c ∷ cs) h j =
      let here = is_first-has key at same apart beyond xs c h in
      let later = walk-left walk none one (from_key key (at c) xs) cs (ascends-from_key key (at c) xs h) (right_holds (below at (at c) cs) (ascends at cs) j)
      ∙ left-later (at c) xs cs (left_holds (below at (at c) cs) (ascends at cs) j) in
      one xs c cs ∙ (λ i. if here i then later i else c ∷ later i) ∙ if_not (list_any (λ x. same x c) xs) _ _

keys_ascend : (s : AtomSet) → T (ascends (λ a. a) (keys s))
keys_ascend s = keys-ascend (entries s) (entries_sorted s)

entries_ascend : (m : AtomMap) → T (ascends (λ p. p.0) (entries m))
entries_ascend m = entries-ascend (entries m) (entries_sorted m)

pub remaining_atoms-keys : (s gone : AtomSet) → remaining_atoms (keys gone) (keys s) ≡ filter (λ a. not (contains_key gone a)) (keys s)
remaining_atoms-keys s gone =
    walk-left (λ a. a) (λ a. a) same_atom atom-apart atom-beyond remaining_atoms (λ xs. refl) (λ xs c cs. refl) (keys gone) (keys s) (keys_ascend gone) (keys_ascend s)
    ∙ λ i. filter (λ a. not (any-contains_key gone a i)) (keys s)

pub remaining_pairs-entries : (m gone : AtomMap) → remaining_pairs (entries gone) (entries m) ≡ filter (λ p. not (has_pair gone p)) (entries m)
remaining_pairs-entries m gone =
    walk-left (λ p. p.0) (λ p. p.0) same_pair pair-apart pair-beyond remaining_pairs (λ xs. refl) (λ xs c cs. refl) (entries gone) (entries m) (entries_ascend gone) (entries_ascend m)
    ∙ λ i. filter (λ p. not (any-has_pair gone p i)) (entries m)

pub pairs_without_keys-entries : (m : AtomMap) (gone : AtomSet) → pairs_without_keys (keys gone) (entries m) ≡ filter (λ p. not (contains_key gone p.0)) (entries m)
pairs_without_keys-entries m gone =
    walk-left (λ a. a) (λ (p : Pair). p.0) (λ a p. same_atom a p.0) (λ a p up. atom-apart a p.0 up) (λ a p up. atom-beyond a p.0 up) pairs_without_keys (λ xs. refl) (λ xs c cs. refl) (keys gone) (entries m) (keys_ascend gone) (entries_ascend m)
    ∙ λ i. filter (λ p. not (any-contains_key gone p.0 i)) (entries m)

-- no pair has this key
abbrev pub is_new : List Pair → Pair → Bool
is_new ps p = not (list_any (λ q. same_atom q.0 p.0) ps)

pub at_new_keys-entries : (m elements : AtomMap) → at_new_keys (entries m) (entries elements) ≡ filter (is_new (entries m)) (entries elements)
at_new_keys-entries m elements =
    walk-left (λ (p : Pair). p.0) (λ (p : Pair). p.0) (λ q p. same_atom q.0 p.0) (λ q p up. atom-apart q.0 p.0 up) (λ q p up. atom-beyond q.0 p.0 up) at_new_keys (λ xs. refl) (λ xs c cs. refl)
    (entries m) (entries elements) (entries_ascend m) (entries_ascend elements)

-- ---- what is left of a map has no clash

below-filter : (test : Pair → Bool) (k : Atom) (es : List Pair) → T (below_all atom_cmp k es) → T (below_all atom_cmp k (filter test es))
below-filter test k [] h = tt
below-filter test k (e ∷ es) h =
    let rest = below-filter test k es (right_holds (is_lt (atom_cmp k e.0)) (below_all atom_cmp k es) h) in
    elim (test e) as (λ b. T (below_all atom_cmp k (cond b (e ∷ filter test es) (filter test es)))) [
      | true ↦ both_hold _ _ (left_holds (is_lt (atom_cmp k e.0)) (below_all atom_cmp k es) h) rest
      | false ↦ rest
    ]

is_sorted-filter : (test : Pair → Bool) (es : List Pair) → T (is_sorted atom_cmp es) → T (is_sorted atom_cmp (filter test es))
is_sorted-filter test [] h = tt
is_sorted-filter test (e ∷ es) h =
    let rest = is_sorted-filter test es (right_holds (below_all atom_cmp e.0 es) (is_sorted atom_cmp es) h) in
    elim (test e) as (λ b. T (is_sorted atom_cmp (cond b (e ∷ filter test es) (filter test es)))) [
      | true ↦ both_hold _ _ (below-filter test e.0 es (left_holds (below_all atom_cmp e.0 es) (is_sorted atom_cmp es) h)) rest
      | false ↦ rest
    ]

pub has_clash-filter : (test : Pair → Bool) (m : AtomMap) → has_clash (filter test (entries m)) ≡ false
has_clash-filter test m = has_clash-ascending (filter test (entries m)) (is_sorted-filter test (entries m) (entries_sorted m))

-- ---- nor has a map with pairs at new keys

not_or-left : (a b : Bool) → not (a || b) ≡ true → a ≡ false
not_or-left true b e = sym e
not_or-left false b e = refl

not_or-right : (a b : Bool) → not (a || b) ≡ true → not b ≡ true
not_or-right true b e = absurd (subst T (sym e) tt)
not_or-right false b e = e

pub or-left : (a b : Bool) → (a || b) ≡ false → a ≡ false
or-left true b e = e
or-left false b e = refl

and-left : (a b : Bool) → (a && b) ≡ true → a ≡ true
and-left true b e = refl
and-left false b e = e

and-right : (a b : Bool) → (a && b) ≡ true → b ≡ true
and-right true b e = e
and-right false b e = absurd (subst T (sym e) tt)

no_differ : (x : Pair) (xs ys : List Pair) → list_all (is_new (x ∷ xs)) ys ≡ true → list_any (differ_at_one_key x) ys ≡ false
no_differ x xs [] h = refl
no_differ x xs (y ∷ ys) h =
    let here = not_or-left (same_atom x.0 y.0) (list_any (λ q. same_atom q.0 y.0) xs) (and-left (is_new (x ∷ xs) y) (list_all (is_new (x ∷ xs)) ys) h) in
    ap (λ b. (b && not (same_atom x.1 y.1)) || list_any (differ_at_one_key x) ys) here ∙ no_differ x xs ys (and-right (is_new (x ∷ xs) y) (list_all (is_new (x ∷ xs)) ys) h)

new_to_fewer : (x : Pair) (xs ys : List Pair) → list_all (is_new (x ∷ xs)) ys ≡ true → list_all (is_new xs) ys ≡ true
new_to_fewer x xs [] h = refl
new_to_fewer x xs (y ∷ ys) h =
    let here = not_or-right (same_atom x.0 y.0) (list_any (λ q. same_atom q.0 y.0) xs) (and-left (is_new (x ∷ xs) y) (list_all (is_new (x ∷ xs)) ys) h) in
    ap (λ b. b && list_all (is_new xs) ys) here ∙ new_to_fewer x xs ys (and-right (is_new (x ∷ xs) y) (list_all (is_new (x ∷ xs)) ys) h)

has_clash-append : (xs ys : List Pair) → has_clash xs ≡ false → has_clash ys ≡ false → list_all (is_new xs) ys ≡ true → has_clash (xs ++ ys) ≡ false
has_clash-append [] ys h j new = j
has_clash-append (x ∷ xs) ys h j new =
    let here = list_any-append (differ_at_one_key x) xs ys ∙ λ i. or-left (list_any (differ_at_one_key x) xs) (has_clash xs) h i || no_differ x xs ys new i in
    let rest = has_clash-append xs ys (right_fails (list_any (differ_at_one_key x) xs) (has_clash xs) h) j (new_to_fewer x xs ys new) in
    λ i. here i || rest i

all-filter : (test : Pair → Bool) (es : List Pair) → list_all test (filter test es) ≡ true
all-filter test [] = refl
all-filter test (e ∷ es) =
    elim (test e) as (λ b. test e ≡ b → list_all test (cond b (e ∷ filter test es) (filter test es)) ≡ true) [
      | true ↦ λ is. ap (λ b. b && list_all test (filter test es)) is ∙ all-filter test es
      | false ↦ λ is. all-filter test es
    ] refl

pub has_clash-new : (m elements : AtomMap) → has_clash (entries m ++ at_new_keys (entries m) (entries elements)) ≡ false
has_clash-new m elements =
    ap (λ ps. has_clash (entries m ++ ps)) (at_new_keys-entries m elements)
    ∙ has_clash-append (entries m) (filter (is_new (entries m)) (entries elements)) (has_clash-ascending (entries m) (entries_sorted m)) (has_clash-filter (is_new (entries m)) elements) (all-filter (is_new (entries m)) (entries elements))

-- ---- a key that is there keeps its value

-- the first of the two that is there
abbrev or_else : {A : Type 0} → Option A → Option A → Option A
or_else None o = o
or_else (Some a) o = Some a

or_else-cond : {A : Type 0} (b : Bool) (a : A) (o p : Option A) → cond b (Some a) (or_else o p) ≡ or_else (cond b (Some a) o) p
or_else-cond true a o p = refl
or_else-cond false a o p = refl

find-append : (q : Atom) (xs ys : List Pair) → find atom_cmp q (xs ++ ys) ≡ or_else (find atom_cmp q xs) (find atom_cmp q ys)
find-append q [] ys = refl
find-append q (x ∷ xs) ys = ap (cond (same_atom q x.0) (Some x.1)) (find-append q xs ys) ∙ or_else-cond (same_atom q x.0) x.1 (find atom_cmp q xs) (find atom_cmp q ys)

list_any-keys : (q : Atom) (xs : List Pair) → list_any (eq_by_cmp atom_cmp q) (map (λ e. e.0) xs) ≡ list_any (λ x. same_atom x.0 q) xs
list_any-keys q [] = refl
list_any-keys q (x ∷ xs) = λ i. is_atom-swap q x.0 i || list_any-keys q xs i

is_new-absent : (q : Atom) (v : Atom) (xs : List Pair) → find atom_cmp q xs ≡ None → is_new xs (q, v) ≡ true
is_new-absent q v xs none = ap not (sym (list_any-keys q xs) ∙ (sym (is_some-find atom_cmp q xs) ∙ ap is_some none))

find-filter : (q : Atom) (xs : List Pair) → find atom_cmp q xs ≡ None → (ys : List Pair) → find atom_cmp q (filter (is_new xs) ys) ≡ find atom_cmp q ys
find-filter q xs none [] = refl
find-filter q xs none (y ∷ ys) =
    elim (same_atom q y.0) as (λ b. same_atom q y.0 ≡ b → find atom_cmp q (cond (is_new xs y) (y ∷ filter (is_new xs) ys) (filter (is_new xs) ys)) ≡ cond b (Some y.1) (find atom_cmp q ys)) [
      | true ↦ λ is.
          let new : is_new xs y ≡ true = is_new-absent y.0 y.1 xs (ap (λ k. find atom_cmp k xs) (sym (same-is q y.0 is)) ∙ none) in
          ap (λ b. find atom_cmp q (cond b (y ∷ filter (is_new xs) ys) (filter (is_new xs) ys))) new ∙ ap (λ b. cond b (Some y.1) (find atom_cmp q (filter (is_new xs) ys))) is
      | false ↦ λ is.
          elim (is_new xs y) as (λ b. find atom_cmp q (cond b (y ∷ filter (is_new xs) ys) (filter (is_new xs) ys)) ≡ find atom_cmp q ys) [
            | true ↦ ap (λ b. cond b (Some y.1) (find atom_cmp q (filter (is_new xs) ys))) is ∙ find-filter q xs none ys
            | false ↦ find-filter q xs none ys
          ]
    ] refl

find-new : (q : Atom) (xs ys : List Pair) → find atom_cmp q (xs ++ filter (is_new xs) ys) ≡ find atom_cmp q (xs ++ ys)
find-new q xs ys =
    find-append q xs (filter (is_new xs) ys)
    ∙ elim (find atom_cmp q xs) as (λ o. find atom_cmp q xs ≡ o → or_else o (find atom_cmp q (filter (is_new xs) ys)) ≡ or_else o (find atom_cmp q ys)) [
      | None ↦ λ none. find-filter q xs none ys
      | Some v ↦ λ is. refl
    ] refl
    ∙ sym (find-append q xs ys)

pub map_of-new : (m elements : AtomMap) → map_of (entries m ++ at_new_keys (entries m) (entries elements)) ≡ map_of (entries m ++ entries elements)
map_of-new m elements =
    ap (λ ps. map_of (entries m ++ ps)) (at_new_keys-entries m elements)
    ∙ same_map atom_cmp_total atom_cmp-IsAntisymmetric _ _ (λ q.
    get-from_entries atom_cmp_total (entries m ++ filter (is_new (entries m)) (entries elements)) q ∙ (find-new q (entries m) (entries elements) ∙ sym (get-from_entries atom_cmp_total (entries m ++ entries elements) q)))

-- ---- values

-- two lists of atoms
pub inserted-atoms : (d e : Datum) (xs ys : List Atom) → compared.Atoms xs ≡ elements_of d → compared.Atoms ys ≡ elements_of e → Atoms (set_of (xs ++ ys)) ≡ inserted d e
inserted-atoms (Atoms s) (Atoms t) xs ys h j = let left : xs ≡ keys s = cc in let right : ys ≡ keys t = cc in λ i. Atoms (set_of (left i ++ right i))
inserted-atoms (Atoms s) (Pairs n) xs ys h j = cc
inserted-atoms (Pairs m) e xs ys h j = cc

pub clash-inserted : (d e : Datum) (xs ys : List Pair) → compared.Pairs xs ≡ elements_of d → compared.Pairs ys ≡ elements_of e → has_clash (xs ++ at_new_keys xs ys) ≡ false
clash-inserted (Pairs m) (Pairs n) xs ys h j = let left : xs ≡ entries m = cc in let right : ys ≡ entries n = cc in (λ i. has_clash (left i ++ at_new_keys (left i) (right i))) ∙ has_clash-new m n
clash-inserted (Pairs m) (Atoms t) xs ys h j = cc
clash-inserted (Atoms s) e xs ys h j = cc

pub inserted-pairs : (d e : Datum) (xs ys : List Pair) → compared.Pairs xs ≡ elements_of d → compared.Pairs ys ≡ elements_of e → Pairs (map_of (xs ++ at_new_keys xs ys)) ≡ inserted d e
inserted-pairs (Pairs m) (Pairs n) xs ys h j = let left : xs ≡ entries m = cc in let right : ys ≡ entries n = cc in (λ i. Pairs (map_of (left i ++ at_new_keys (left i) (right i)))) ∙ ap Pairs (map_of-new m n)
inserted-pairs (Pairs m) (Atoms t) xs ys h j = cc
inserted-pairs (Atoms s) e xs ys h j = cc

pub deleted-atoms : (d e : Datum) (xs ys : List Atom) → compared.Atoms xs ≡ elements_of d → compared.Atoms ys ≡ elements_of e → Atoms (set_of (remaining_atoms ys xs)) ≡ deleted d e
deleted-atoms (Atoms s) (Atoms t) xs ys h j = let left : xs ≡ keys s = cc in let right : ys ≡ keys t = cc in (λ i. Atoms (set_of (remaining_atoms (right i) (left i)))) ∙ ap (λ zs. Atoms (set_of zs)) (remaining_atoms-keys s t)
deleted-atoms (Atoms s) (Pairs n) xs ys h j = cc
deleted-atoms (Pairs m) e xs ys h j = cc

pub clash-deleted_pairs : (d e : Datum) (xs ys : List Pair) → compared.Pairs xs ≡ elements_of d → compared.Pairs ys ≡ elements_of e → has_clash (remaining_pairs ys xs) ≡ false
clash-deleted_pairs (Pairs m) (Pairs n) xs ys h j =
    let left : xs ≡ entries m = cc in let right : ys ≡ entries n = cc in (λ i. has_clash (remaining_pairs (right i) (left i))) ∙ (ap has_clash (remaining_pairs-entries m n) ∙ has_clash-filter (λ p. not (has_pair n p)) m)
clash-deleted_pairs (Pairs m) (Atoms t) xs ys h j = cc
clash-deleted_pairs (Atoms s) e xs ys h j = cc

pub deleted-pairs : (d e : Datum) (xs ys : List Pair) → compared.Pairs xs ≡ elements_of d → compared.Pairs ys ≡ elements_of e → Pairs (map_of (remaining_pairs ys xs)) ≡ deleted d e
deleted-pairs (Pairs m) (Pairs n) xs ys h j = let left : xs ≡ entries m = cc in let right : ys ≡ entries n = cc in (λ i. Pairs (map_of (remaining_pairs (right i) (left i)))) ∙ ap (λ zs. Pairs (map_of zs)) (remaining_pairs-entries m n)
deleted-pairs (Pairs m) (Atoms t) xs ys h j = cc
deleted-pairs (Atoms s) e xs ys h j = cc

pub clash-deleted_keys : (d e : Datum) (xs : List Pair) (ys : List Atom) → compared.Pairs xs ≡ elements_of d → compared.Atoms ys ≡ elements_of e → has_clash (pairs_without_keys ys xs) ≡ false
clash-deleted_keys (Pairs m) (Atoms t) xs ys h j =
    let left : xs ≡ entries m = cc in let right : ys ≡ keys t = cc in (λ i. has_clash (pairs_without_keys (right i) (left i))) ∙ (ap has_clash (pairs_without_keys-entries m t) ∙ has_clash-filter (λ p. not (contains_key t p.0)) m)
clash-deleted_keys (Pairs m) (Pairs n) xs ys h j = cc
clash-deleted_keys (Atoms s) e xs ys h j = cc

pub deleted-keys : (d e : Datum) (xs : List Pair) (ys : List Atom) → compared.Pairs xs ≡ elements_of d → compared.Atoms ys ≡ elements_of e → Pairs (map_of (pairs_without_keys ys xs)) ≡ deleted d e
deleted-keys (Pairs m) (Atoms t) xs ys h j = let left : xs ≡ entries m = cc in let right : ys ≡ keys t = cc in (λ i. Pairs (map_of (pairs_without_keys (right i) (left i)))) ∙ ap (λ zs. Pairs (map_of zs)) (pairs_without_keys-entries m t)
deleted-keys (Pairs m) (Pairs n) xs ys h j = cc
deleted-keys (Atoms s) e xs ys h j = cc
