-- The columns of the code as those of the definitions.
use Rattle.std.proofs.Common.{◌≡◌, ℕ, List, [], ◌∷◌, map, length, zip, suc, ◌⊎◌, inl, inr, arith, Iter, Bor, Bool, true, false, cond, T, ◌&&◌, ◌||◌, Option, Some, None, refl, sym, ap, subst, ◌∙◌, String, string_bytes, Global, Ordering, Less, Equal, Greater}
use Rattle.std.specs.declared.iter.Zip.{Zip}
use Rattle.std.specs.BTreeMap.{insert_entry, is_at}
use Rattle.std.specs.Cmp.Lexicographic.{pointwise, slice_cmp, nat_list_cmp_total}
use Rattle.std.specs.FinMap.{find, put, is_sorted, empty, insert, get, keys, values, entries, entries_sorted, len-entries, len-empty, get-from_sorted, entries-from_sorted, entries-insert, same_entries_map}
use Rattle.std.specs.FinMap.Entries.{below_all, by_order}
use Rattle.std.specs.Iterator.{YieldsFirstRef}
use Rattle.std.specs.List.{AllByRecursion}
use Rattle.std.specs.List.Sorted.{IsStrictlySortedBy}
use Rattle.std.specs.Map.{keys_of, lookup}
use Rattle.std.specs.Ordering.{nat_cmp, eq_by_cmp, match_ordering}
use Rattle.serde_json.specs.Data.{Members, no_members, member, put as put_member, Data}
use Rattle.ov_specs.specs.schema.SchemaTypes.{name_cmp}
use Rattle.ov_specs.specs.wire.Tree.{has_real, members_have_real}
use Rattle.std.specs.Str.{bytes_eq}
use Rattle.ov_specs.specs.rows.Database.{Columns, same_columns}
use Rattle.ov_specs.specs.values.Value.{Datum, datum_cmp}
use Rattle.ov_rows.specs.Named.{named, columns_of, columns_at, IsListed}
use Rattle.ov_specs.proofs.laws.Sameness.{datum-tied}
use Rattle.ov_specs.proofs.laws.Truths.{both_hold}
use Rattle.std.proofs.lemmas.Bool.{or_parts}
use Rattle.std.proofs.lemmas.Fn.{fronts}
use Rattle.std.proofs.lemmas.Iterator.{zips}
use Rattle.std.proofs.lemmas.List.{nil_from_length}
use Rattle.std.proofs.lemmas.Map.Text.{is_eq-slice_cmp}

abbrev name_order : String Global → String Global → Ordering
name_order a b = name_cmp (string_bytes a) (string_bytes b)

module _ {X : Type 0} where
  below : (k : String Global) (es : List (String Global × X)) → AllByRecursion (λ y. name_order k y ≡ Less) (keys_of es) → T (below_all name_cmp (string_bytes k) (named es))
  below k [] h = tt
  below k (x ∷ es) h = both_hold _ _ (rw h.0 tt) (below k es h.1)

  -- names that ascend, as the code says it
  pub names-ascend : (es : List (String Global × X)) → IsStrictlySortedBy name_order (keys_of es) → T (is_sorted name_cmp (named es))
  unfolding IsStrictlySortedBy
  names-ascend [] h = tt
  names-ascend (x ∷ es) h = both_hold _ _ (below x.0 es h.0) (names-ascend es h.1)

  pub find-named : (q : List ℕ) (es : List (String Global × X)) → find name_cmp q (named es) ≡ lookup (is_at (λ k. slice_cmp nat_cmp q (string_bytes k))) es
  find-named q [] = refl
  find-named q (e ∷ es) = ap (cond (eq_by_cmp name_cmp q (string_bytes e.0)) (Some e.1)) (find-named q es)

  put-named : (k : String Global) (v : X) (es : List (String Global × X)) → put name_cmp (string_bytes k) v (named es) ≡ named (insert_entry name_order es k v)
  put-named k v [] = refl
  put-named k v (e ∷ es) =
      elim (name_order k e.0) as (λ o. by_order o ((string_bytes k, v) ∷ named (e ∷ es)) ((string_bytes e.0, v) ∷ named es) ((string_bytes e.0, e.1) ∷ put name_cmp (string_bytes k) v (named es)) ≡ named (match_ordering o ((k, v) ∷ e ∷ es) ((e.0, v) ∷ es) (e ∷ insert_entry name_order es k v))) [
        | Less ↦ refl
        | Equal ↦ refl
        | Greater ↦ ap (λ xs. (string_bytes e.0, e.1) ∷ xs) (put-named k v es)
      ]

pub get-columns_of : (es : List (String Global × Datum)) (q : List ℕ) → T (is_sorted name_cmp (named es)) → get (columns_of es) q ≡ lookup (is_at (λ k. slice_cmp nat_cmp q (string_bytes k))) es
get-columns_of es q h = get-from_sorted name_cmp (named es) q h ∙ find-named q es

pub entries-columns_of : (es : List (String Global × Datum)) → T (is_sorted name_cmp (named es)) → entries (columns_of es) ≡ named es
entries-columns_of es h = entries-from_sorted name_cmp (named es) h

pub columns_of-insert : (es es' : List (String Global × Datum)) (k : String Global) (v : Datum) → T (is_sorted name_cmp (named es)) → T (is_sorted name_cmp (named es')) → es' ≡ insert_entry name_order es k v
    → columns_of es' ≡ insert (columns_of es) (string_bytes k) v
columns_of-insert es es' k v h h' is = same_entries_map _ _
    (entries-columns_of es' h' ∙ ap named is ∙ sym (put-named k v es) ∙ sym (entries-insert nat_list_cmp_total (columns_of es) (string_bytes k) v ∙ ap (put name_cmp (string_bytes k) v) (entries-columns_of es h)))

pub values-named : (es : List (String Global × Datum)) → map (λ e. e.1) es ≡ map (λ e. e.1) (named es)
values-named [] = refl
values-named (e ∷ es) = ap (λ vs. e.1 ∷ vs) (values-named es)

pub keys-named : (es : List (String Global × Datum)) → map (λ e. string_bytes e.0) es ≡ map (λ e. e.0) (named es)
keys-named [] = refl
keys-named (e ∷ es) = ap (λ ns. string_bytes e.0 ∷ ns) (keys-named es)

-- ---- values at the places of their names

-- the names, each with the value at its place
abbrev pub paired : List (String Global) → List Datum → List (List ℕ × Datum)
paired names values = zip (map string_bytes names) values

pub entries-columns_at : (names : List (List ℕ)) (values : List Datum) → T (is_sorted name_cmp (zip names values)) → entries (columns_at names values) ≡ zip names values
entries-columns_at names values h = entries-from_sorted name_cmp (zip names values) h

-- the first pair has the name that is looked for, or a later pair has it
pub find-paired : (q : List ℕ) (name : String Global) (datum : Datum) (names : List (String Global)) (values : List Datum) (b : Bool) → bytes_eq q (string_bytes name) ≡ b
    → find name_cmp q (paired (name ∷ names) (datum ∷ values)) ≡ cond b (Some datum) (find name_cmp q (paired names values))
find-paired q name datum names values b is = ap (λ t. cond t (Some datum) (find name_cmp q (paired names values))) (is_eq-slice_cmp q (string_bytes name) ∙ is)

-- the pairs of entries are the entries
pub zip-entries : (es : List (List ℕ × Datum)) → zip (map (λ e. e.0) es) (map (λ e. e.1) es) ≡ es
zip-entries [] = refl
zip-entries (e ∷ es) = ap (λ xs. e ∷ xs) (zip-entries es)

-- all pairs are still to come
pub paired-start : (pairs given : Zip (Iter (String Global)) (List Datum)) (iterator : Iter (String Global)) (slice : List (String Global)) (names : List (List ℕ)) (values : List Datum)
    → pairs ≡ given → given.a ≡ iterator → iterator.rest.now ≡ slice → map string_bytes slice ≡ names → given.b ≡ values → paired pairs.a.rest.now pairs.b ≡ zip names values
paired-start pairs given iterator slice names values is first rest are second =
    ap (λ (z : Zip (Iter (String Global)) (List Datum)). paired z.a.rest.now z.b) is
    ∙ (λ i. zip ((ap (λ (it : Iter (String Global)). map string_bytes it.rest.now) first ∙ ap (map string_bytes) rest ∙ are) i) (second i))

-- an iterator over values gives the first of those that are left
abbrev pub gives_first : List Datum → Option (Bor Datum) → List Datum → Type 0
gives_first = YieldsFirstRef (λ values. values)

module _ (s t : Zip (Iter (String Global)) (List Datum)) (r : Option (Bor (String Global) × Bor Datum)) where
  -- the next pair has the first name and the first value that are left
  pub paired-more : (p : Bor (String Global) × Bor Datum) → r ≡ Some p → zips fronts gives_first s r t → (s.a.rest.now ≡ p.0.now ∷ t.a.rest.now) × (s.b ≡ p.1.now ∷ t.b)
  paired-more p is h = subst (λ o. zips fronts gives_first s o t) is h

  -- there is no next pair if no name or no value is left
  pub paired-empty : r ≡ None → zips fronts gives_first s r t → (s.a.rest.now ≡ []) ⊎ (s.b ≡ [])
  paired-empty is h = by (subst (λ o. zips fronts gives_first s o t) is h)
    where
      by : ((u : Iter (String Global)) × fronts s.a None u) ⊎ ((u : List Datum) × gives_first s.b None u) → (s.a.rest.now ≡ []) ⊎ (s.b ≡ [])
      by (inl a) = inl (nil_from_length _ a.1.0)
      by (inr b) = inr b.1.0

-- no pair is left if no name or no value is left
pub paired-end : (names : List (String Global)) (values : List Datum) → (names ≡ []) ⊎ (values ≡ []) → paired names values ≡ []
paired-end names values (inl is) = ap (λ ns. paired ns values) is
paired-end [] values (inr is) = refl
paired-end (name ∷ names) values (inr is) = ap (paired (name ∷ names)) is

-- ---- values with their names apart

as_many : (es : List (List ℕ × Datum)) → length (map (λ e. e.1) es) ≡ length (map (λ e. e.0) es)
as_many [] = refl
as_many (e ∷ es) = ap suc (as_many es)

module _ (m : Columns) (names : List (List ℕ)) (listed : List Datum) (of_keys : names ≡ keys m) (of_values : listed ≡ values m) where
  zip-apart : zip names listed ≡ entries m
  zip-apart = (λ i. zip (of_keys i) (of_values i)) ∙ zip-entries (entries m)

  pub apart-invariant : IsListed names listed
  apart-invariant = (subst (λ es. T (is_sorted name_cmp es)) (sym zip-apart) (entries_sorted m), ap length of_values ∙ as_many (entries m) ∙ ap length (sym of_keys))

  -- they are put together again
  pub columns_at-apart : columns_at names listed ≡ m
  columns_at-apart = same_entries_map _ m (entries-columns_at names listed apart-invariant.0 ∙ zip-apart)

-- no value has no name
pub no_keys : keys (empty {X = Datum} {R = name_cmp}) ≡ []
no_keys = ap (map (λ e. e.0)) (nil_from_length _ (sym (len-entries empty) ∙ len-empty name_cmp Datum))

-- ---- columns that are the same

-- four tests, two by two
shuffled : (a p b q : Bool) → ((a && p) && (b && q)) ≡ ((a && b) && (p && q))
shuffled false p b q = refl
shuffled true true b q = refl
shuffled true false true q = refl
shuffled true false false q = refl

pub same-paired : (xs ys : List (String Global)) (vs ws : List Datum) → length vs ≡ length (map string_bytes xs) → length ws ≡ length (map string_bytes ys)
    → (pointwise (λ x y. bytes_eq (string_bytes x) (string_bytes y)) xs ys && pointwise (eq_by_cmp datum_cmp) vs ws) ≡ same_columns (paired xs vs) (paired ys ws)
same-paired [] [] [] [] h k = refl
same-paired [] [] [] (w ∷ ws) h k = absurd (omega arith)
same-paired [] [] (v ∷ vs) ws h k = absurd (omega arith)
same-paired [] (y ∷ ys) vs [] h k = absurd (omega arith)
same-paired [] (y ∷ ys) vs (w ∷ ws) h k = refl
same-paired (x ∷ xs) ys [] ws h k = absurd (omega arith)
same-paired (x ∷ xs) [] (v ∷ vs) ws h k = refl
same-paired (x ∷ xs) (y ∷ ys) (v ∷ vs) [] h k = absurd (omega arith)
same-paired (x ∷ xs) (y ∷ ys) (v ∷ vs) (w ∷ ws) h k =
    shuffled (bytes_eq (string_bytes x) (string_bytes y)) (pointwise (λ a b. bytes_eq (string_bytes a) (string_bytes b)) xs ys) (eq_by_cmp datum_cmp v w) (pointwise (eq_by_cmp datum_cmp) vs ws)
    ∙ (λ i. (bytes_eq (string_bytes x) (string_bytes y) && sym (datum-tied v w) i) && same-paired xs ys vs ws (omega arith) (omega arith) i)

-- names and values that are those of columns
pub same-apart : (xs ys : List (String Global)) (vs ws : List Datum) (a b : Columns) → map string_bytes xs ≡ keys a → map string_bytes ys ≡ keys b → vs ≡ values a → ws ≡ values b
    → (pointwise (λ x y. bytes_eq (string_bytes x) (string_bytes y)) xs ys && pointwise (eq_by_cmp datum_cmp) vs ws) ≡ same_columns (entries a) (entries b)
same-apart xs ys vs ws a b of_xs of_ys of_vs of_ws =
    let left = zip-apart a (map string_bytes xs) vs of_xs of_vs in
    let right = zip-apart b (map string_bytes ys) ws of_ys of_ws in
    same-paired xs ys vs ws (apart-invariant a (map string_bytes xs) vs of_xs of_vs).1 (apart-invariant b (map string_bytes ys) ws of_ys of_ws).1 ∙ (λ i. same_columns (left i) (right i))

-- ---- members without reals

or_both : (x y : Bool) → x ≡ false → y ≡ false → (x || y) ≡ false
or_both x y h k = rw (h, k) refl

-- a member is put among others
pub put-plain : (k : List ℕ) (d : Data) (ms : Members) → has_real d ≡ false → members_have_real ms ≡ false → members_have_real (put_member k d ms) ≡ false
put-plain k d no_members h p = or_both (has_real d) false h refl
put-plain k d (member l e ms) h p =
    let parts = or_parts (has_real e) (members_have_real ms) p in
    elim (slice_cmp nat_cmp k l) as (λ o. members_have_real (match_ordering o (member k d (member l e ms)) (member l d ms) (member l e (put_member k d ms))) ≡ false) [
      | Less ↦ or_both (has_real d) (members_have_real (member l e ms)) h p
      | Equal ↦ or_both (has_real d) (members_have_real ms) h parts.1
      | Greater ↦ or_both (has_real e) (members_have_real (put_member k d ms)) parts.0 (put-plain k d ms h parts.1)
    ]
