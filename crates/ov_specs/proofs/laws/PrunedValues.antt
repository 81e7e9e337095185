-- Values without weak references to rows that are not there: a part of the value, which is still one for its column.
use Rattle.std.proofs.Common.{◌≡◌, ℕ, suc, ◌≤◌, ℤ, pos, negsuc, List, [], ◌∷◌, ◌++◌, map, filter, length, Bool, true, false, cond, T, ◌&&◌, ◌||◌, not, Option, Some, None, int_lt, nat_lt, refl, sym, ap, subst, ◌∙◌, arith, Ordering, ◌⊎◌, inl, inr}
use Rattle.std.proofs.lemmas.Bool.{and_parts, and_from, and_cases, or_from, or_right}
use Rattle.std.proofs.lemmas.List.Folds.{list_any-append}
use Rattle.std.proofs.lemmas.Bool.Decides.{nat_tests}
use Rattle.std.proofs.lemmas.Option.{same_Some}
use Rattle.std.specs.List.{list_all, list_any, filter_map, cons_option}
use Rattle.std.specs.FinMap.{FinMap, len, keys, entries, entries_sorted, is_sorted, from_entries, len-entries, contains_key}
use Rattle.std.specs.FinMap.Entries.{below_all}
use Rattle.ov_specs.specs.integrity.Committed.{is_dangling, stays, pair_stays, pruned_datum}
use Rattle.ov_specs.specs.integrity.References.{Target, target_of, atom_targets, value_targets, datum_targets}
use Rattle.ov_specs.specs.rows.Database.{Database}
use Rattle.ov_specs.specs.rows.Suits.{is_value_for}
use Rattle.ov_specs.specs.schema.Fitting.{is_none_or, is_between, atom_fits, value_fits, fits}
use Rattle.ov_specs.specs.schema.Schema.{is_some_and}
use Rattle.ov_specs.specs.schema.SchemaTypes.{Reference, BaseType, ColumnType, Column, kinds_of}
use Rattle.ov_specs.specs.values.Value.{Atom, Integer, Boolean, Text, Uuid, atom_cmp, Kinds, Single, Pair, AtomSet, AtomMap, marked, set_of, map_of, Datum, Atoms, Pairs, is_atom_of, is_pair_of, is_of, count}
use Rattle.ov_specs.proofs.laws.Lists.{any-map, all-filter}
use Rattle.ov_specs.proofs.laws.ReadingBack.{entries-from_entries}
use Rattle.ov_specs.proofs.laws.Truths.{both_hold, left_holds, right_holds, or_truth}

-- ---- a part of a list

module _ {A : Type 0} (kept : A → Bool) where
  pub filter-shorter : (xs : List A) → length (filter kept xs) ≤ length xs
  filter-shorter [] = omega arith
  filter-shorter (x ∷ xs) = by (kept x) (filter-shorter xs)
    where
      by : (b : Bool) → length (filter kept xs) ≤ length xs → length (cond b (x ∷ filter kept xs) (filter kept xs)) ≤ suc (length xs)
      by true h = omega arith
      by false h = omega arith

-- a part of entries in order is in order
module _ {K X : Type 0} (R : K → K → Ordering) (kept : K × X → Bool) where
  below_all-filter : (k : K) (es : List (K × X)) → T (below_all R k es) → T (below_all R k (filter kept es))
  below_all-filter k [] h = tt
  below_all-filter k (e ∷ es) h = by (kept e) (below_all-filter k es (right_holds _ _ h))
    where
      by : (b : Bool) → T (below_all R k (filter kept es)) → T (below_all R k (cond b (e ∷ filter kept es) (filter kept es)))
      by true rest = both_hold _ _ (left_holds _ _ h) rest
      by false rest = rest

  pub is_sorted-filter : (es : List (K × X)) → T (is_sorted R es) → T (is_sorted R (filter kept es))
  is_sorted-filter [] h = tt
  is_sorted-filter (e ∷ es) h = by (kept e) (is_sorted-filter es (right_holds _ _ h))
    where
      by : (b : Bool) → T (is_sorted R (filter kept es)) → T (is_sorted R (cond b (e ∷ filter kept es) (filter kept es)))
      by true rest = both_hold _ _ (below_all-filter e.0 es (left_holds _ _ h)) rest
      by false rest = rest

-- ---- a part of a set and of a map

marked-filter : (kept : Atom → Bool) (es : List (Atom × Unit {0})) → map marked (filter kept (map (λ e. e.0) es)) ≡ filter (λ e. kept e.0) es
marked-filter kept [] = refl
marked-filter kept (e ∷ es) = by (kept e.0) (marked-filter kept es)
  where
    front : List Atom
    front = filter kept (map (λ e. e.0) es)

    part : List (Atom × Unit {0})
    part = filter (λ e. kept e.0) es

    by : (b : Bool) → map marked front ≡ part → map marked (cond b (e.0 ∷ front) front) ≡ cond b (e ∷ part) part
    by true rest = ap (λ fs. e ∷ fs) rest
    by false rest = rest

map-filter : {X : Type 0} (kept : Atom → Bool) (es : List (Atom × X)) → map (λ e. e.0) (filter (λ e. kept e.0) es) ≡ filter kept (map (λ e. e.0) es)
map-filter kept [] = refl
map-filter {X} kept (e ∷ es) = by (kept e.0) (map-filter kept es)
  where
    front : List Atom
    front = filter kept (map (λ e. e.0) es)

    part : List (Atom × X)
    part = filter (λ e. kept e.0) es

    by : (b : Bool) → map (λ e. e.0) part ≡ front → map (λ e. e.0) (cond b (e ∷ part) part) ≡ cond b (e.0 ∷ front) front
    by true rest = ap (λ ks. e.0 ∷ ks) rest
    by false rest = rest

pub entries-part_of_set : (kept : Atom → Bool) (s : AtomSet) → entries (set_of (filter kept (keys s))) ≡ filter (λ e. kept e.0) (entries s)
entries-part_of_set kept s =
    ap (λ es. entries (from_entries {R = atom_cmp} es)) (marked-filter kept (entries s)) ∙ entries-from_entries _ (is_sorted-filter atom_cmp (λ e. kept e.0) (entries s) (entries_sorted s))

pub keys-part_of_set : (kept : Atom → Bool) (s : AtomSet) → keys (set_of (filter kept (keys s))) ≡ filter kept (keys s)
keys-part_of_set kept s = ap (map (λ e. e.0)) (entries-part_of_set kept s) ∙ map-filter kept (entries s)

pub entries-part_of_map : (kept : Atom × Atom → Bool) (m : AtomMap) → entries (map_of (filter kept (entries m))) ≡ filter kept (entries m)
entries-part_of_map kept m = entries-from_entries _ (is_sorted-filter atom_cmp kept (entries m) (entries_sorted m))

no_longer : {X : Type 0} (kept : Atom × X → Bool) (part whole : FinMap atom_cmp X) → entries part ≡ filter kept (entries whole) → len part ≤ len whole
no_longer kept part whole is = subst (λ n. n ≤ len whole) (sym (len-entries part ∙ ap length is)) (subst (λ n. length (filter kept (entries whole)) ≤ n) (sym (len-entries whole)) (filter-shorter kept (entries whole)))

-- ---- what is left is of its kinds, and fits if it is not too little

pub pruned_is_of : (rows : Database) (t : ColumnType) (kinds : Kinds) (datum : Datum) → is_of kinds datum ≡ true → is_of kinds (pruned_datum rows t datum) ≡ true
pruned_is_of rows t (Single kind) (Atoms s) h =
    ap (list_all (is_atom_of kind)) (keys-part_of_set (stays rows t.key) s) ∙ all-filter (stays rows t.key) (is_atom_of kind) (keys s) h
pruned_is_of rows t (Pair key value) (Pairs m) h =
    ap (list_all (is_pair_of key value)) (entries-part_of_map (pair_stays rows t) m) ∙ all-filter (pair_stays rows t) (is_pair_of key value) (entries m) h
pruned_is_of rows t (Single kind) (Pairs m) h = cc
pruned_is_of rows t (Pair key value) (Atoms s) h = cc

not_above : (m n : ℕ) (greatest : ℤ) → m ≤ n → not (int_lt greatest (pos n)) ≡ true → not (int_lt greatest (pos m)) ≡ true
not_above m n (pos k) le h = by (nat_lt k n) (nat_lt k m) refl refl h
  where
    by : (b c : Bool) → nat_lt k n ≡ b → nat_lt k m ≡ c → not b ≡ true → not c ≡ true
    by true c is less not_b = cc
    by false false is less not_b = refl
    by false true is less not_b = absurd (grind (arith, nat_tests, is, less, le))
not_above m n (negsuc k) le h = cc

still_below_most : (m n : ℕ) (most : Option ℤ) → m ≤ n → is_none_or (λ g. not (int_lt g (pos n))) most ≡ true → is_none_or (λ g. not (int_lt g (pos m))) most ≡ true
still_below_most m n None le h = refl
still_below_most m n (Some greatest) le h = not_above m n greatest le h

still_between : (least : ℤ) (most : Option ℤ) (m n : ℕ) → m ≤ n → is_between (Some least) most (pos n) ≡ true → int_lt (pos m) least ≡ false → is_between (Some least) most (pos m) ≡ true
still_between least most m n le h few =
    and_from (not (int_lt (pos m) least)) (is_none_or (λ g. not (int_lt g (pos m))) most) (ap not few)
    (still_below_most m n most le (and_parts (not (int_lt (pos n) least)) (is_none_or (λ g. not (int_lt g (pos n))) most) h).1)

pub pruned_fits : (rows : Database) (t : ColumnType) (datum : Datum) → fits t datum ≡ true → int_lt (pos (count (pruned_datum rows t datum))) t.min ≡ false → fits t (pruned_datum rows t datum) ≡ true
pruned_fits rows t (Atoms s) h few =
    let kept : Atom → Bool = stays rows t.key in
    let left : AtomSet = set_of (filter kept (keys s)) in
    let parts = and_parts (is_between (Some t.min) t.max (pos (len s))) (list_all (atom_fits t.key) (keys s)) h in
    and_from (is_between (Some t.min) t.max (pos (len left))) (list_all (atom_fits t.key) (keys left))
    (still_between t.min t.max (len left) (len s) (no_longer (λ e. kept e.0) left s (entries-part_of_set kept s)) parts.0 few)
    (ap (list_all (atom_fits t.key)) (keys-part_of_set kept s) ∙ all-filter kept (atom_fits t.key) (keys s) parts.1)
pruned_fits rows t (Pairs m) h few =
    let kept : Atom × Atom → Bool = pair_stays rows t in
    let test : Atom × Atom → Bool = λ p. atom_fits t.key p.0 && value_fits t.value p.1 in
    let left : AtomMap = map_of (filter kept (entries m)) in
    let parts = and_parts (is_between (Some t.min) t.max (pos (len m))) (list_all test (entries m)) h in
    and_from (is_between (Some t.min) t.max (pos (len left))) (list_all test (entries left))
    (still_between t.min t.max (len left) (len m) (no_longer kept left m (entries-part_of_map kept m)) parts.0 few)
    (ap (list_all test) (entries-part_of_map kept m) ∙ all-filter kept test (entries m) parts.1)

-- a value that has lost its dangling references is still one for its column, if it is not too little
pub pruned_value_fits : (rows : Database) (column : Column) (datum : Datum) → is_value_for column datum ≡ true → int_lt (pos (count (pruned_datum rows column.type_of datum))) column.type_of.min ≡ false
    → is_value_for column (pruned_datum rows column.type_of datum) ≡ true
pruned_value_fits rows column datum h few =
    let t = column.type_of in
    let parts = and_parts (is_of (kinds_of t) datum) (fits t datum) h in
    and_from (is_of (kinds_of t) (pruned_datum rows t datum)) (fits t (pruned_datum rows t datum)) (pruned_is_of rows t (kinds_of t) datum parts.0) (pruned_fits rows t datum parts.1 few)

-- ---- what passes in a list, and in a part of it

module _ {A : Type 0} (test kept : A → Bool) where
  pub any-filter : (xs : List A) → list_any test (filter kept xs) ≡ true → list_any test xs ≡ true
  any-filter [] h = h
  any-filter (x ∷ xs) h = by (kept x) (any-filter xs) h
    where
      by : (b : Bool) → (list_any test (filter kept xs) ≡ true → list_any test xs ≡ true) → list_any test (cond b (x ∷ filter kept xs) (filter kept xs)) ≡ true → (test x || list_any test xs) ≡ true
      by false rest h = or_right (test x) (list_any test xs) (rest h)
      by true rest h = either (test x) h
        where
          either : (c : Bool) → (c || list_any test (filter kept xs)) ≡ true → (c || list_any test xs) ≡ true
          either true h = refl
          either false h = rest h

  pub none-filter : ((x : A) → kept x ≡ true → test x ≡ false) → (xs : List A) → list_any test (filter kept xs) ≡ false
  none-filter none [] = refl
  none-filter none (x ∷ xs) = by (kept x) refl (none-filter none xs)
    where
      by : (b : Bool) → kept x ≡ b → list_any test (filter kept xs) ≡ false → list_any test (cond b (x ∷ filter kept xs) (filter kept xs)) ≡ false
      by true is rest = or_from (test x) (list_any test (filter kept xs)) (none x is) rest
      by false is rest = rest

  pub same-filter : ((x : A) → kept x ≡ false → test x ≡ false) → (xs : List A) → list_any test (filter kept xs) ≡ list_any test xs
  same-filter none [] = refl
  same-filter none (x ∷ xs) = by (kept x) refl (same-filter none xs)
    where
      by : (b : Bool) → kept x ≡ b → list_any test (filter kept xs) ≡ list_any test xs → list_any test (cond b (x ∷ filter kept xs) (filter kept xs)) ≡ (test x || list_any test xs)
      by true is rest = ap (λ c. test x || c) rest
      by false is rest = rest ∙ sym (ap (λ c. c || list_any test xs) (none x is))

any-filter_map : {A B : Type 0} (test : B → Bool) (f : A → Option B) (xs : List A) → list_any test (filter_map f xs) ≡ list_any (λ x. is_some_and test (f x)) xs
any-filter_map test f [] = refl
any-filter_map {B = B} test f (x ∷ xs) = by (f x) (any-filter_map test f xs)
  where
    by : (o : Option B) → list_any test (filter_map f xs) ≡ list_any (λ x. is_some_and test (f x)) xs
        → list_any test (cons_option o (filter_map f xs)) ≡ (is_some_and test o || list_any (λ x. is_some_and test (f x)) xs)
    by None rest = rest
    by (Some b) rest = ap (λ c. test b || c) rest

any-nothing : {A : Type 0} (xs : List A) → false ≡ list_any (λ x. false) xs
any-nothing [] = refl
any-nothing (x ∷ xs) = any-nothing xs

any-either : {A : Type 0} (f g : A → Bool) (xs : List A) → (list_any f xs || list_any g xs) ≡ list_any (λ x. f x || g x) xs
any-either f g [] = refl
any-either f g (x ∷ xs) = in_turn (f x) (g x) (list_any f xs) (list_any g xs) ∙ ap (λ c. (f x || g x) || c) (any-either f g xs)
  where
    in_turn : (a b c d : Bool) → ((a || c) || (b || d)) ≡ ((a || b) || (c || d))
    in_turn true b c d = refl
    in_turn false true c d = or_truth c
    in_turn false false c d = refl

-- ---- the targets of a value

-- the atom refers to a target that passes the test
abbrev pub refers_to : (Target → Bool) → BaseType → Atom → Bool
refers_to test b a = is_some_and test (target_of b.refers a)

-- the key or the value of a pair does
abbrev pub pair_refers_to : (Target → Bool) → ColumnType → Atom × Atom → Bool
pair_refers_to test t p = refers_to test t.key p.0 || is_some_and (λ b. refers_to test b p.1) t.value

any_value_target : (test : Target → Bool) (o : Option BaseType) (pairs : List (Atom × Atom)) → list_any test (value_targets o (map (λ p. p.1) pairs)) ≡ list_any (λ p. is_some_and (λ b. refers_to test b p.1) o) pairs
any_value_target test None pairs = any-nothing pairs
any_value_target test (Some b) pairs = any-filter_map test (target_of b.refers) (map (λ p. p.1) pairs) ∙ any-map (refers_to test b) (λ p. p.1) pairs

any_pair_target : (test : Target → Bool) (t : ColumnType) (pairs : List (Atom × Atom))
    → list_any test (atom_targets t.key (map (λ p. p.0) pairs) ++ value_targets t.value (map (λ p. p.1) pairs)) ≡ list_any (pair_refers_to test t) pairs
any_pair_target test t pairs =
    list_any-append test (atom_targets t.key (map (λ p. p.0) pairs)) (value_targets t.value (map (λ p. p.1) pairs))
    ∙ ap (λ b. b || list_any test (value_targets t.value (map (λ p. p.1) pairs))) (any-filter_map test (target_of t.key.refers) (map (λ p. p.0) pairs) ∙ any-map (refers_to test t.key) (λ p. p.0) pairs)
    ∙ ap (λ b. list_any (λ p. refers_to test t.key p.0) pairs || b) (any_value_target test t.value pairs)
    ∙ any-either (λ p. refers_to test t.key p.0) (λ p. is_some_and (λ b. refers_to test b p.1) t.value) pairs

-- a target of the value passes the test
abbrev has_target : (Target → Bool) → ColumnType → Datum → Bool
has_target test t (Atoms s) = list_any (refers_to test t.key) (keys s)
has_target test t (Pairs m) = list_any (pair_refers_to test t) (entries m)

any_target : (test : Target → Bool) (t : ColumnType) (datum : Datum) → list_any test (datum_targets t datum) ≡ has_target test t datum
any_target test t (Atoms s) = any-filter_map test (target_of t.key.refers) (keys s)
any_target test t (Pairs m) = any_pair_target test t (entries m)

-- a target of what is left of the value passes the test
abbrev has_left : (Target → Bool) → Database → ColumnType → Datum → Bool
has_left test rows t (Atoms s) = list_any (refers_to test t.key) (filter (stays rows t.key) (keys s))
has_left test rows t (Pairs m) = list_any (pair_refers_to test t) (filter (pair_stays rows t) (entries m))

any_left : (test : Target → Bool) (rows : Database) (t : ColumnType) (datum : Datum) → list_any test (datum_targets t (pruned_datum rows t datum)) ≡ has_left test rows t datum
any_left test rows t (Atoms s) = any_target test t (pruned_datum rows t (Atoms s)) ∙ ap (list_any (refers_to test t.key)) (keys-part_of_set (stays rows t.key) s)
any_left test rows t (Pairs m) = any_target test t (pruned_datum rows t (Pairs m)) ∙ ap (list_any (pair_refers_to test t)) (entries-part_of_map (pair_stays rows t) m)

-- ---- no reference is made

pub left_is_target : (test : Target → Bool) (rows : Database) (t : ColumnType) (datum : Datum) → list_any test (datum_targets t (pruned_datum rows t datum)) ≡ true → list_any test (datum_targets t datum) ≡ true
left_is_target test rows t (Atoms s) h = any_target test t (Atoms s) ∙ any-filter (refers_to test t.key) (stays rows t.key) (keys s) (sym (any_left test rows t (Atoms s)) ∙ h)
left_is_target test rows t (Pairs m) h = any_target test t (Pairs m) ∙ any-filter (pair_refers_to test t) (pair_stays rows t) (entries m) (sym (any_left test rows t (Pairs m)) ∙ h)

-- ---- none that is left dangles

not_true : (b : Bool) → not b ≡ true → b ≡ false
not_true true h = cc
not_true false h = refl

pair_stays-refers : (rows : Database) (t : ColumnType) (p : Atom × Atom) → pair_stays rows t p ≡ true → pair_refers_to (is_dangling rows) t p ≡ false
pair_stays-refers rows t p h =
    let parts = and_parts (stays rows t.key p.0) (is_none_or (λ b. stays rows b p.1) t.value) h in
    or_from (refers_to (is_dangling rows) t.key p.0) (is_some_and (λ b. refers_to (is_dangling rows) b p.1) t.value) (not_true _ parts.0) (by t.value parts.1)
  where
    by : (o : Option BaseType) → is_none_or (λ b. stays rows b p.1) o ≡ true → is_some_and (λ b. refers_to (is_dangling rows) b p.1) o ≡ false
    by None h = refl
    by (Some b) h = not_true _ h

pub none_dangles : (rows : Database) (t : ColumnType) (datum : Datum) → list_any (is_dangling rows) (datum_targets t (pruned_datum rows t datum)) ≡ false
none_dangles rows t (Atoms s) = any_left (is_dangling rows) rows t (Atoms s) ∙ none-filter (refers_to (is_dangling rows) t.key) (stays rows t.key) (λ a h. not_true _ h) (keys s)
none_dangles rows t (Pairs m) = any_left (is_dangling rows) rows t (Pairs m) ∙ none-filter (pair_refers_to (is_dangling rows) t) (pair_stays rows t) (pair_stays-refers rows t) (entries m)

-- ---- strong references stay

-- one of the two references is strong, and the other one weak
abbrev pub is_mixed : Option Reference → Option Reference → Bool
is_mixed None other = false
is_mixed (Some a) None = false
is_mixed (Some a) (Some b) = (a.is_strong && not b.is_strong) || (not a.is_strong && b.is_strong)

-- a map with a strong reference on one side and a weak one on the other
abbrev pub has_mixed_pairs : ColumnType → Bool
has_mixed_pairs t = is_some_and (λ value. is_mixed t.key.refers value.refers) t.value

-- the references of the type are strong ones
abbrev is_strong_base : Option Reference → Bool
is_strong_base refers = is_some_and (λ r. r.is_strong) refers

module _ (test : Target → Bool) (strong_only : (target : Target) → target.is_strong ≡ false → test target ≡ false) where
  no_strong : (refers : Option Reference) (a : Atom) → is_strong_base refers ≡ false → is_some_and test (target_of refers a) ≡ false
  no_strong None a h = refl
  no_strong (Some r) (Uuid id) h = strong_only (record { key = (r.table, id); is_strong = r.is_strong }) h
  no_strong (Some r) (Integer n) h = refl
  no_strong (Some r) (Boolean b) h = refl
  no_strong (Some r) (Text text) h = refl

module _ (rows : Database) where
  -- an atom that goes refers weakly
  gone_is_weak : (refers : Option Reference) (a : Atom) → not (is_some_and (is_dangling rows) (target_of refers a)) ≡ false → (r : Reference) × (refers ≡ Some r) × (r.is_strong ≡ false)
  gone_is_weak None a h = cc
  gone_is_weak (Some r) (Uuid id) h = (r, refl, by r.is_strong (contains_key rows (r.table, id)) h)
    where
      by : (strong there : Bool) → not (not strong && not there) ≡ false → strong ≡ false
      by true there h = cc
      by false there h = refl
  gone_is_weak (Some r) (Integer n) h = cc
  gone_is_weak (Some r) (Boolean b) h = cc
  gone_is_weak (Some r) (Text text) h = cc

and_truth : (b : Bool) → (b && true) ≡ b
and_truth true = refl
and_truth false = refl

value_weak : (a b : Option Reference) (r : Reference) → is_mixed a b ≡ false → a ≡ Some r → r.is_strong ≡ false → is_strong_base b ≡ false
value_weak None b r unmixed is weak = cc
value_weak (Some s) None r unmixed is weak = refl
value_weak (Some s) (Some b) r unmixed is weak = by s.is_strong b.is_strong (ap (λ x. x.is_strong) (same_Some s r is) ∙ weak) unmixed
  where
    by : (x y : Bool) → x ≡ false → ((x && not y) || (not x && y)) ≡ false → y ≡ false
    by true y weak h = cc
    by false y weak h = h

is_mixed-turned : (a b : Option Reference) → is_mixed a b ≡ is_mixed b a
is_mixed-turned None None = refl
is_mixed-turned None (Some b) = refl
is_mixed-turned (Some a) None = refl
is_mixed-turned (Some a) (Some b) = by a.is_strong b.is_strong
  where
    by : (x y : Bool) → ((x && not y) || (not x && y)) ≡ ((y && not x) || (not y && x))
    by true true = refl
    by true false = refl
    by false true = refl
    by false false = refl

module _ (test : Target → Bool) (strong_only : (target : Target) → target.is_strong ≡ false → test target ≡ false) (rows : Database) (t : ColumnType) where
  gone_passes_not : (b : BaseType) (a : Atom) → stays rows b a ≡ false → refers_to test b a ≡ false
  gone_passes_not b a h =
      let weak = gone_is_weak rows b.refers a h in
      no_strong test strong_only b.refers a (ap is_strong_base weak.1 ∙ weak.2)

  gone_pair_passes_not : has_mixed_pairs t ≡ false → (p : Atom × Atom) → pair_stays rows t p ≡ false → pair_refers_to test t p ≡ false
  gone_pair_passes_not unmixed p h = by t.value unmixed h
    where
      either : (v : BaseType) → is_mixed t.key.refers v.refers ≡ false → (stays rows t.key p.0 ≡ false) ⊎ (stays rows v p.1 ≡ false) → (refers_to test t.key p.0 || refers_to test v p.1) ≡ false
      either v unmixed (inl gone) =
          let weak = gone_is_weak rows t.key.refers p.0 gone in
          or_from (refers_to test t.key p.0) (refers_to test v p.1) (gone_passes_not t.key p.0 gone)
          (no_strong test strong_only v.refers p.1 (value_weak t.key.refers v.refers weak.0 unmixed weak.1 weak.2))
      either v unmixed (inr gone) =
          let weak = gone_is_weak rows v.refers p.1 gone in
          or_from (refers_to test t.key p.0) (refers_to test v p.1)
          (no_strong test strong_only t.key.refers p.0 (value_weak v.refers t.key.refers weak.0 (is_mixed-turned v.refers t.key.refers ∙ unmixed) weak.1 weak.2))
          (gone_passes_not v p.1 gone)

      by : (o : Option BaseType) → is_some_and (λ value. is_mixed t.key.refers value.refers) o ≡ false → (stays rows t.key p.0 && is_none_or (λ b. stays rows b p.1) o) ≡ false
          → (refers_to test t.key p.0 || is_some_and (λ b. refers_to test b p.1) o) ≡ false
      by None unmixed h = or_from (refers_to test t.key p.0) false (gone_passes_not t.key p.0 (sym (and_truth (stays rows t.key p.0)) ∙ h)) refl
      by (Some v) unmixed h = either v unmixed (and_cases (stays rows t.key p.0) (stays rows v p.1) h)

  -- if the pairs of a map refer on both sides, they go only if neither side refers strongly
  pub strong_stays : has_mixed_pairs t ≡ false → (datum : Datum) → list_any test (datum_targets t (pruned_datum rows t datum)) ≡ list_any test (datum_targets t datum)
  strong_stays unmixed (Atoms s) =
      any_left test rows t (Atoms s) ∙ same-filter (refers_to test t.key) (stays rows t.key) (gone_passes_not t.key) (keys s) ∙ sym (any_target test t (Atoms s))
  strong_stays unmixed (Pairs m) =
      any_left test rows t (Pairs m) ∙ same-filter (pair_refers_to test t) (pair_stays rows t) (gone_pair_passes_not unmixed) (entries m) ∙ sym (any_target test t (Pairs m))
