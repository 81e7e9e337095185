-- Sets of identifiers of the code as those of the definitions.
use Rattle.std.proofs.Common.{◌≡◌, ◌<◌, ◌≤◌, ◌+◌, ℕ, zero, suc, length, List, [], ◌∷◌, map, Bool, true, false, cond, T, ◌||◌, Option, Some, None, is_some, refl, sym, ap, subst, ◌∙◌, Ordering, Less, Equal, Greater, arith}
use Rattle.std.specs.Prelude.{slice_index_or, Ok, Err, Result}
use Rattle.std.specs.BTreeMap.{is_at}
use Rattle.std.specs.Cmp.{eq_by_cmp_equiv}
use Rattle.std.specs.FinMap.{put, is_sorted, empty, get, contains_key, insert, remove, keys, len, len-entries, get-from_sorted, entries-from_sorted, entries-insert, get-insert, get-remove, same_map, same_entries_map}
use Rattle.std.specs.FinMap.Entries.{below_all, by_order, is_some-find, is_sorted-put}
use Rattle.std.specs.List as list
use Rattle.std.specs.List.{list_any, AllWithin, HoldsAt}
use Rattle.std.specs.List.Sorted.{IsSortedBy, IsBinarySearchResult, IsSearchInRange}
use Rattle.std.specs.Result.{is_ok}
use Rattle.std.specs.Ordering.{eq_by_cmp, is_lt, is_eq, ordering_reverse}
use Rattle.std.proofs.lemmas.List.Sorted.{searchable_from_sorted}
use Rattle.ov_specs.specs.values.Uuid.{Uuid}
use Rattle.ov_specs.proofs.laws.Names.{name_cmp_total, name_exact}
use Rattle.ov_specs.proofs.laws.Truths.{both_hold, left_holds, right_holds, less_is, equal_is}
use Rattle.ov_rows.specs.Nested.{id_cmp}
use Rattle.ov_rows.proofs.Maps.{from_sorted-nil}
use Rattle.ov_index.specs.Indexing.{Ascend, IdSet, set_of_ids}
use Rattle.ov_specs.specs.values.Value.{marked}

-- the identifier is one of these
abbrev pub among : List Uuid → Uuid → Bool
among ids id = list_any (is_at (id_cmp id)) ids

unmarked : (ids : List Uuid) → map (λ e. e.0) (map marked ids) ≡ ids
unmarked [] = refl
unmarked (k ∷ ks) = ap (λ rest. k ∷ rest) (unmarked ks)

as_many : (ids : List Uuid) → length (map marked ids) ≡ length ids
as_many [] = refl
as_many (k ∷ ks) = ap suc (as_many ks)

-- the set of none
pub set_of-nil : set_of_ids [] ≡ empty
set_of-nil = from_sorted-nil id_cmp

module _ (ids : List Uuid) (h : Ascend ids) where
  pub keys-set_of : keys (set_of_ids ids) ≡ ids
  keys-set_of = ap (map (λ e. e.0)) (entries-from_sorted id_cmp (map marked ids) h) ∙ unmarked ids

  pub contains-set_of : (q : Uuid) → contains_key (set_of_ids ids) q ≡ among ids q
  contains-set_of q =
      ap is_some (get-from_sorted id_cmp (map marked ids) q h) ∙ is_some-find id_cmp q (map marked ids) ∙ ap (list_any (eq_by_cmp id_cmp q)) (unmarked ids)

  pub len-set_of : len (set_of_ids ids) ≡ length ids
  len-set_of = len-entries (set_of_ids ids) ∙ ap length (entries-from_sorted id_cmp (map marked ids) h) ∙ as_many ids

-- an identifier without a value
abbrev kept : Bool → Option (Unit {0})
kept b = cond b (Some tt) None

kept_if : (o : Option (Unit {0})) → o ≡ kept (is_some o)
kept_if None = refl
kept_if (Some tt) = refl

-- ---- what a search finds

turned : (o : Ordering) → o ≡ ordering_reverse (ordering_reverse o)
turned Less = refl
turned Equal = refl
turned Greater = refl

not_less : (a b : Uuid) → id_cmp a b ≡ Less → is_lt (id_cmp b a) ≡ false
not_less a b h = ap is_lt (name_cmp_total.antisymm b a ∙ ap ordering_reverse h)

below_first : (k x : Uuid) (xs : List Uuid) → T (below_all id_cmp k (map marked (x ∷ xs))) → id_cmp k x ≡ Less
below_first k x xs h = less_is _ (left_holds _ _ h)

-- neighbours ascend
pub neighbours : (ids : List Uuid) → Ascend ids → IsSortedBy (λ a b. is_lt (id_cmp a b)) ids
neighbours [] h k d low high = absurd (omega (arith, high))
neighbours (x ∷ []) h k d low high = absurd (omega (arith, high))
neighbours (x ∷ y ∷ rest) h zero d low high = not_less x y (below_first x y rest (left_holds _ _ h))
neighbours (x ∷ y ∷ rest) h (suc k) d low high =
    let step : suc (k + 1) ≡ suc k + 1 = omega arith in
    subst (λ n. is_lt (id_cmp (slice_index_or (x ∷ y ∷ rest) n d) (slice_index_or (y ∷ rest) k d)) ≡ false) step (neighbours (y ∷ rest) (right_holds _ _ h) k d (omega arith) (omega (arith, high)))

-- what is below all of them is not among them, and is below each
none_below : (k : Uuid) (ids : List Uuid) → T (below_all id_cmp k (map marked ids)) → among ids k ≡ false
none_below k [] h = refl
none_below k (x ∷ xs) h = ap (λ o. is_eq o || among xs k) (below_first k x xs h) ∙ none_below k xs (right_holds _ _ h)

below_at : (k : Uuid) (ids : List Uuid) (i : ℕ) (found : Uuid) → T (below_all id_cmp k (map marked ids)) → i < length ids → ((d : Uuid) → slice_index_or ids i d ≡ found) → id_cmp k found ≡ Less
below_at k [] i found h within at = absurd (omega (arith, within))
below_at k (x ∷ xs) zero found h within at = subst (λ y. id_cmp k y ≡ Less) (at x) (below_first k x xs h)
below_at k (x ∷ xs) (suc i) found h within at = below_at k xs i found (right_holds _ _ h) (omega (arith, within)) at

-- the place is that of the identifier, or that between those below it and those above
abbrev pub IsFoundAt : List Uuid → Uuid → ℕ → Type 0
IsFoundAt ids id place = (place < length ids) × ((d : Uuid) → slice_index_or ids place d ≡ id)

abbrev pub IsBetween : List Uuid → Uuid → ℕ → Type 0
IsBetween ids id place =
    (place ≤ length ids) × (AllWithin (λ (y : Uuid). id_cmp y id ≡ Less) ids 0 place × AllWithin (λ (y : Uuid). id_cmp y id ≡ Greater) ids place (length ids))

module _ (ids : List Uuid) (h : Ascend ids) (id : Uuid) (place : ℕ) where
  pub found_at : place < length ids → HoldsAt (λ (y : Uuid). id_cmp y id ≡ Equal) ids place → IsFoundAt ids id place
  found_at within at = (within, λ d. name_exact (slice_index_or ids place d) id (at d))

  pub between : (r : Result ℕ ℕ) → r ≡ Err place → IsSearchInRange r (length ids) → IsBinarySearchResult (λ (y : Uuid). id_cmp y id) ids r → IsBetween ids id place
  between r is range found = by
    where
      at : IsBinarySearchResult (λ (y : Uuid). id_cmp y id) ids (Err place)
      at = subst (IsBinarySearchResult (λ (y : Uuid). id_cmp y id) ids) is found

      by : IsBetween ids id place
      by = (subst (λ s. IsSearchInRange s (length ids)) is range, at (searchable_from_sorted name_cmp_total (λ (y : Uuid). y) ids id (neighbours ids h)))

found_among : (ids : List Uuid) (id : Uuid) (place : ℕ) → IsFoundAt ids id place → among ids id ≡ true
found_among [] id place at = absurd (omega (arith, at.0))
found_among (x ∷ xs) id zero at = ap (λ b. b || among xs id) (ap (eq_by_cmp id_cmp id) (at.1 x) ∙ (eq_by_cmp_equiv name_cmp_total).refl id)
found_among (x ∷ xs) id (suc i) at = by (eq_by_cmp id_cmp id x) (found_among xs id i (omega (arith, at.0), at.1))
  where
    by : (b : Bool) → among xs id ≡ true → (b || among xs id) ≡ true
    by true is = refl
    by false is = is

above : (id x : Uuid) → id_cmp x id ≡ Less → id_cmp id x ≡ Greater
above id x h = name_cmp_total.antisymm id x ∙ ap ordering_reverse h

under : (id x : Uuid) → id_cmp x id ≡ Greater → id_cmp id x ≡ Less
under id x h = name_cmp_total.antisymm id x ∙ ap ordering_reverse h

none_above : (ids : List Uuid) (id : Uuid) → AllWithin (λ (y : Uuid). id_cmp y id ≡ Greater) ids 0 (length ids) → among ids id ≡ false
none_above [] id above_all = refl
none_above (x ∷ xs) id above_all =
    ap (λ o. is_eq o || among xs id) (under id x (above_all 0 x (omega arith) (omega arith))) ∙ none_above xs id (λ k d low high. above_all (suc k) d (omega arith) (omega (arith, high)))

between_none : (ids : List Uuid) (id : Uuid) (place : ℕ) → IsBetween ids id place → among ids id ≡ false
between_none ids id zero at = none_above ids id at.1.1
between_none [] id (suc i) at = refl
between_none (x ∷ xs) id (suc i) at =
    ap (λ o. is_eq o || among xs id) (above id x (at.1.0 0 x (omega arith) (omega arith)))
    ∙ between_none xs id i (omega (arith, at.0), (λ k d low high. at.1.0 (suc k) d (omega arith) (omega (arith, high)), λ k d low high. at.1.1 (suc k) d (omega (arith, low)) (omega (arith, high))))

-- ---- one more

-- an identifier that is put between
put_between : (ids : List Uuid) (id : Uuid) (place : ℕ) → IsBetween ids id place → put id_cmp id tt (map marked ids) ≡ map marked (list.insert ids place id)
put_between [] id zero at = refl
put_between [] id (suc i) at = absurd (omega (arith, at.0))
put_between (x ∷ xs) id zero at =
    ap (λ o. by_order o ((id, tt) ∷ map marked (x ∷ xs)) ((x, tt) ∷ map marked xs) ((x, tt) ∷ put id_cmp id tt (map marked xs))) (under id x (at.1.1 0 x (omega arith) (omega arith)))
put_between (x ∷ xs) id (suc i) at =
    ap (λ o. by_order o ((id, tt) ∷ map marked (x ∷ xs)) ((x, tt) ∷ map marked xs) ((x, tt) ∷ put id_cmp id tt (map marked xs))) (above id x (at.1.0 0 x (omega arith) (omega arith)))
    ∙ ap (λ rest. (x, tt) ∷ rest)
    (put_between xs id i (omega (arith, at.0), (λ k d low high. at.1.0 (suc k) d (omega arith) (omega (arith, high)), λ k d low high. at.1.1 (suc k) d (omega (arith, low)) (omega (arith, high)))))

module _ (ids : List Uuid) (h : Ascend ids) (id : Uuid) (place : ℕ) where
  pub ascend-insert : IsBetween ids id place → Ascend (list.insert ids place id)
  ascend-insert at = subst (λ es. T (is_sorted id_cmp es)) (put_between ids id place at) (is_sorted-put id_cmp name_cmp_total id tt (map marked ids) h)

  pub set_of-insert : IsBetween ids id place → set_of_ids (list.insert ids place id) ≡ insert (set_of_ids ids) id tt
  set_of-insert at = same_entries_map _ _
      (entries-from_sorted id_cmp (map marked (list.insert ids place id)) (ascend-insert at) ∙ sym (put_between ids id place at)
      ∙ sym (entries-insert name_cmp_total (set_of_ids ids) id tt ∙ ap (put id_cmp id tt) (entries-from_sorted id_cmp (map marked ids) h)))

  -- one that is there
  pub set_of-again : IsFoundAt ids id place → set_of_ids ids ≡ insert (set_of_ids ids) id tt
  set_of-again at = same_map name_cmp_total name_exact _ _ (λ q. by q (eq_by_cmp id_cmp q id) refl ∙ sym (get-insert name_cmp_total (set_of_ids ids) id tt q))
    where
      by : (q : Uuid) (b : Bool) → eq_by_cmp id_cmp q id ≡ b → get (set_of_ids ids) q ≡ cond (eq_by_cmp id_cmp q id) (Some tt) (get (set_of_ids ids) q)
      by q true is =
          ap (get (set_of_ids ids)) (name_exact q id (equal_is _ is)) ∙ kept_if (get (set_of_ids ids) id) ∙ ap kept (contains-set_of ids h id ∙ found_among ids id place at)
          ∙ sym (ap (λ b. cond b (Some tt) (get (set_of_ids ids) q)) is)
      by q false is = sym (ap (λ b. cond b (Some tt) (get (set_of_ids ids) q)) is)

  pub contains-found : IsFoundAt ids id place → contains_key (set_of_ids ids) id ≡ true
  contains-found at = contains-set_of ids h id ∙ found_among ids id place at

  pub contains-between : IsBetween ids id place → contains_key (set_of_ids ids) id ≡ false
  contains-between at = contains-set_of ids h id ∙ between_none ids id place at

-- ---- one fewer

below-removed : (k : Uuid) (ids : List Uuid) (place : ℕ) → T (below_all id_cmp k (map marked ids)) → T (below_all id_cmp k (map marked (list.remove ids place)))
below-removed k [] zero h = tt
below-removed k [] (suc i) h = tt
below-removed k (x ∷ xs) zero h = right_holds _ _ h
below-removed k (x ∷ xs) (suc i) h = both_hold _ _ (left_holds _ _ h) (below-removed k xs i (right_holds _ _ h))

pub ascend-remove : (ids : List Uuid) (place : ℕ) → Ascend ids → Ascend (list.remove ids place)
ascend-remove [] zero h = tt
ascend-remove [] (suc i) h = tt
ascend-remove (x ∷ xs) zero h = right_holds _ _ h
ascend-remove (x ∷ xs) (suc i) h = both_hold _ _ (below-removed x xs i (left_holds _ _ h)) (ascend-remove xs i (right_holds _ _ h))

among-remove : (q id : Uuid) (ids : List Uuid) (place : ℕ) → Ascend ids → IsFoundAt ids id place → among (list.remove ids place) q ≡ cond (eq_by_cmp id_cmp id q) false (among ids q)
among-remove q id [] place h at = absurd (omega (arith, at.0))
among-remove q id (x ∷ xs) zero h at = by (eq_by_cmp id_cmp id q) refl
  where
    here : x ≡ id
    here = at.1 x

    by : (b : Bool) → eq_by_cmp id_cmp id q ≡ b → among xs q ≡ cond b false (among (x ∷ xs) q)
    by true is =
        let same : q ≡ x = sym (name_exact id q (equal_is _ is)) ∙ sym here in
        ap (among xs) same ∙ none_below x xs (left_holds _ _ h)
    by false is = sym (ap (λ b. b || among xs q) (ap (eq_by_cmp id_cmp q) here ∙ (eq_by_cmp_equiv name_cmp_total).symm q id ∙ is))
among-remove q id (x ∷ xs) (suc i) h at = ap (λ b. eq_by_cmp id_cmp q x || b) (among-remove q id xs i (right_holds _ _ h) later) ∙ by (eq_by_cmp id_cmp id q) refl
  where
    later : IsFoundAt xs id i
    later = (omega (arith, at.0), at.1)

    by : (b : Bool) → eq_by_cmp id_cmp id q ≡ b → (eq_by_cmp id_cmp q x || cond b false (among xs q)) ≡ cond b false (among (x ∷ xs) q)
    by true is =
        let same : q ≡ id = sym (name_exact id q (equal_is _ is)) in
        ap (λ b. b || false) (ap (λ k. eq_by_cmp id_cmp k x) same ∙ ap is_eq (above id x (below_at x xs i id (left_holds _ _ h) later.0 later.1)))
    by false is = refl

without_it : (b c : Bool) → kept (cond b false c) ≡ cond b None (kept c)
without_it true c = refl
without_it false c = refl

module _ (ids : List Uuid) (h : Ascend ids) (id : Uuid) (place : ℕ) where
  pub set_of-remove : IsFoundAt ids id place → set_of_ids (list.remove ids place) ≡ remove (set_of_ids ids) id
  set_of-remove at = same_map name_cmp_total name_exact _ _ (λ q.
      let less = list.remove ids place in
      kept_if (get (set_of_ids less) q) ∙ ap kept (contains-set_of less (ascend-remove ids place h) q ∙ among-remove q id ids place h at)
      ∙ without_it (eq_by_cmp id_cmp id q) (among ids q)
      ∙ ap (λ b. cond b None (kept (among ids q))) ((eq_by_cmp_equiv name_cmp_total).symm id q)
      ∙ sym (get-remove name_cmp_total (set_of_ids ids) id q ∙ ap (cond (eq_by_cmp id_cmp q id) None) (kept_if (get (set_of_ids ids) q) ∙ ap kept (contains-set_of ids h q))))

  -- one that is not there
  pub set_of-absent : IsBetween ids id place → set_of_ids ids ≡ remove (set_of_ids ids) id
  set_of-absent at = same_map name_cmp_total name_exact _ _ (λ q. by q (eq_by_cmp id_cmp q id) refl ∙ sym (get-remove name_cmp_total (set_of_ids ids) id q))
    where
      by : (q : Uuid) (b : Bool) → eq_by_cmp id_cmp q id ≡ b → get (set_of_ids ids) q ≡ cond (eq_by_cmp id_cmp q id) None (get (set_of_ids ids) q)
      by q true is =
          ap (get (set_of_ids ids)) (name_exact q id (equal_is _ is)) ∙ kept_if (get (set_of_ids ids) id) ∙ ap kept (contains-set_of ids h id ∙ between_none ids id place at)
          ∙ sym (ap (λ b. cond b None (get (set_of_ids ids) q)) is)
      by q false is = sym (ap (λ b. cond b None (get (set_of_ids ids) q)) is)

-- ---- as the code has it

-- the list that was searched is that of the set
pub searched_found : (ids searched : List Uuid) (id : Uuid) (place : ℕ) → Ascend ids → searched ≡ ids → place < length searched → HoldsAt (λ (y : Uuid). id_cmp y id ≡ Equal) searched place → IsFoundAt ids id place
searched_found ids searched id place h same within at = subst (λ xs. IsFoundAt xs id place) same (found_at searched (subst Ascend (sym same) h) id place within at)

pub searched_between : (ids searched : List Uuid) (id : Uuid) (place : ℕ) → Ascend ids → searched ≡ ids → place ≤ length searched → IsBinarySearchResult (λ (y : Uuid). id_cmp y id) searched (Err place)
    → IsBetween ids id place
searched_between ids searched id place h same within at =
    subst (λ xs. IsBetween xs id place) same (between searched (subst Ascend (sym same) h) id place (Err place) refl within at)

-- an insertion that may be refused
pub ascend-try : (b : Bool) (ids new : List Uuid) (id : Uuid) (place : ℕ) → Ascend ids → IsBetween ids id place → new ≡ cond b (list.insert ids place id) ids → Ascend new
ascend-try true ids new id place h at is = subst Ascend (sym is) (ascend-insert ids h id place at)
ascend-try false ids new id place h at is = subst Ascend (sym is) h

-- a search says whether the identifier is one of them
pub contains-searched : (ids searched : List Uuid) (id : Uuid) (r : Result ℕ ℕ) → Ascend ids → searched ≡ ids → IsSearchInRange r (length searched) → IsBinarySearchResult (λ (y : Uuid). id_cmp y id) searched r
    → is_ok r ≡ contains_key (set_of_ids ids) id
contains-searched ids searched id (Ok place) h same within at = sym (contains-found ids h id place (searched_found ids searched id place h same within at))
contains-searched ids searched id (Err place) h same within at = sym (contains-between ids h id place (searched_between ids searched id place h same within at))

-- one alone
pub set_of-one : (id : Uuid) → set_of_ids (id ∷ []) ≡ insert empty id tt
set_of-one id = set_of-insert [] tt id 0 (omega arith, (λ k d low high. absurd (omega (arith, high)), λ k d low high. absurd (omega (arith, high)))) ∙ ap (λ (set : IdSet). insert set id tt) set_of-nil
