-- Two ascending lists, of rows and of changes, merged: a change replaces or removes the row of its key.
use Rattle.std.proofs.Common.{◌≡◌, ℕ, ◌+◌, ◌<◌, ◌≤◌, List, [], ◌∷◌, ◌++◌, length, get_or, drop, map, Bool, true, false, cond, not, T, Option, Some, None, refl, sym, ap, subst, ◌∙◌, append-nil, append_assoc, Less, Equal, Greater}
use Rattle.std.proofs.lemmas.List.{drop_all, nil_from_length}
use Rattle.std.specs.Cmp.{eq_by_cmp_equiv}
use Rattle.std.specs.FinMap.{FinMap, put, is_sorted, from_sorted, remove, get, entries, entries_sorted, entries-insert, len, len-entries, entries-from_sorted, get-from_sorted, get-entries, get-remove, same_map}
use Rattle.std.specs.FinMap.Entries.{below_all, by_order, where_key, is_sorted-where_key, find-where_key}
use Rattle.std.specs.List.{filter, flat_map}
use Rattle.std.specs.Ordering.{is_lt, is_eq, eq_by_cmp, ordering_reverse}
use Rattle.ov_specs.specs.rows.Database.{Database, Row}
use Rattle.ov_specs.specs.rows.Lines.{LineKey, line_cmp}
use Rattle.std.specs.Str.{bytes_eq}
use Rattle.ov_specs.specs.values.Uuid.{Uuid}
use Rattle.ov_specs.proofs.laws.LineKeys.{key_exact, key_total}
use Rattle.ov_specs.proofs.laws.Names.{name_cmp_total, name_exact}
use Rattle.ov_stored.specs.Changing.{Delta, applied, with_row_change, with_row_changes}
use Rattle.ov_stored.specs.DeltaModel.{delta_of}
use Rattle.ov_rows.specs.Nested.{id_cmp}
use Rattle.ov_rows.specs.Resident.{database_of}
use Rattle.ov_rows.proofs.Nesting.{within}
use Rattle.ov_stored.proofs.Places.{Changes, get-applied, or_before}
use Rattle.ov_stage.specs.Asked.{rows_after}
use Rattle.ov_stage.specs.Staging.{row_made, place, place_each}
use Rattle.ov_projection.proofs.Equal.{drop-at, map-push}
use Rattle.ov_specs.proofs.laws.Truths.{both_hold, cond-not, left_holds, less_is, right_holds}

abbrev pub Entries : Type 0
Entries = List (LineKey × Row)

-- ---- changes made in a list

module _ {X : Type 0} (m : FinMap line_cmp X) (p : LineKey → Bool) where
  part_sorted : T (is_sorted line_cmp (where_key line_cmp p (entries m)))
  part_sorted = is_sorted-where_key line_cmp p (entries m) (entries_sorted m)

  -- what is at a key, of the entries that pass a test
  get-part : (q : LineKey) → get (from_sorted {R = line_cmp} (where_key line_cmp p (entries m))) q ≡ cond (p q) (get m q) None
  get-part q =
      get-from_sorted line_cmp (where_key line_cmp p (entries m)) q part_sorted ∙ find-where_key line_cmp p q (λ x e. ap p (sym (key_exact q x e))) (entries m)
      ∙ ap (λ o. cond (p q) o None) (sym (get-entries m q))

entries-remove : (db : Database) (k : LineKey) → entries (remove db k) ≡ where_key line_cmp (λ x. not (eq_by_cmp line_cmp k x)) (entries db)
entries-remove db k =
    ap (λ (d : Database). entries d) (same_map key_total key_exact (remove db k) (database_of (where_key line_cmp (λ x. not (eq_by_cmp line_cmp k x)) (entries db))) (λ q.
    get-remove key_total db k q ∙ ap (λ b. cond b None (get db q)) ((eq_by_cmp_equiv key_total).symm q k) ∙ sym (get-part db (λ x. not (eq_by_cmp line_cmp k x)) q ∙ cond-not (eq_by_cmp line_cmp k q) (get db q) None)))
    ∙ entries-from_sorted line_cmp _ (part_sorted db (λ x. not (eq_by_cmp line_cmp k x)))

entries-with_change : (k : LineKey) (o : Option Row) (db : Database) → entries (with_row_change k o db) ≡ place line_cmp k o (entries db)
entries-with_change k (Some row) db = entries-insert key_total db k row
entries-with_change k None db = entries-remove db k

entries-with_changes : (cs : Changes) (db : Database) → entries (with_row_changes cs db) ≡ place_each line_cmp cs (entries db)
entries-with_changes [] db = refl
entries-with_changes (c ∷ cs) db = entries-with_changes cs (with_row_change c.0 c.1 db) ∙ ap (place_each line_cmp cs) (entries-with_change c.0 c.1 db)

pub placed_is : (cs : Changes) (es : Entries) → T (is_sorted line_cmp es) → place_each line_cmp cs es ≡ entries (with_row_changes cs (database_of es))
placed_is cs es h = sym (entries-with_changes cs (database_of es) ∙ ap (place_each line_cmp cs) (entries-from_sorted line_cmp es h))

abbrev pub Rows : Type 0
Rows = List (Uuid × Row)

abbrev pub Made : Type 0
Made = List (Uuid × Option Row)

-- ---- what comes first

module _ {X : Type 0} where
  pub sorted_rest : (e : Uuid × X) (es : List (Uuid × X)) → T (is_sorted id_cmp (e ∷ es)) → T (is_sorted id_cmp es)
  sorted_rest e es h = right_holds _ _ h

  pub below_rest : (e : Uuid × X) (es : List (Uuid × X)) → T (is_sorted id_cmp (e ∷ es)) → T (below_all id_cmp e.0 es)
  below_rest e es h = left_holds _ _ h

  below_more : (k l : Uuid) (es : List (Uuid × X)) → id_cmp k l ≡ Less → T (below_all id_cmp l es) → T (below_all id_cmp k es)
  below_more k l [] p h = tt
  below_more k l (e ∷ es) p h = both_hold _ _ (subst (λ r. T (is_lt r)) (sym (name_cmp_total.trans k l e.0 p (less_is _ (left_holds _ _ h)))) tt) (below_more k l es p (right_holds _ _ h))

  -- what is below the first is below all
  pub below_sorted : (k : Uuid) (e : Uuid × X) (es : List (Uuid × X)) → id_cmp k e.0 ≡ Less → T (is_sorted id_cmp (e ∷ es)) → T (below_all id_cmp k (e ∷ es))
  below_sorted k e es p h = both_hold _ _ (subst (λ r. T (is_lt r)) (sym p) tt) (below_more k e.0 es p (left_holds _ _ h))

  below_same : (k l : Uuid) (es : List (Uuid × X)) → k ≡ l → T (below_all id_cmp l es) → T (below_all id_cmp k es)
  below_same k l es e h = subst (λ x. T (below_all id_cmp x es)) (sym e) h

after_less : (k l : Uuid) → id_cmp k l ≡ Less → id_cmp l k ≡ Greater
after_less k l p = name_cmp_total.antisymm l k ∙ ap ordering_reverse p

pub before_greater : (k l : Uuid) → id_cmp k l ≡ Greater → id_cmp l k ≡ Less
before_greater k l p = name_cmp_total.antisymm l k ∙ ap ordering_reverse p

-- ---- one turn

place_after : (r : Uuid × Row) (k : Uuid) (o : Option Row) (es : Rows) → id_cmp k r.0 ≡ Greater → place id_cmp k o (r ∷ es) ≡ r ∷ place id_cmp k o es
place_after r k (Some row) es p = ap (λ o. by_order o ((k, row) ∷ r ∷ es) ((r.0, row) ∷ es) (r ∷ put id_cmp k row es)) p
place_after r k None es p = ap (λ o. cond (not (is_eq o)) (r ∷ where_key id_cmp (λ x. not (eq_by_cmp id_cmp k x)) es) (where_key id_cmp (λ x. not (eq_by_cmp id_cmp k x)) es)) p

-- a row below all changes stays where it is
pub placed_after : (r : Uuid × Row) (cs : Made) (es : Rows) → T (below_all id_cmp r.0 cs) → place_each id_cmp cs (r ∷ es) ≡ r ∷ place_each id_cmp cs es
placed_after r [] es h = refl
placed_after r (c ∷ cs) es h =
    ap (place_each id_cmp cs) (place_after r c.0 c.1 es (after_less r.0 c.0 (less_is _ (left_holds _ _ h)))) ∙ placed_after r cs (place id_cmp c.0 c.1 es) (right_holds _ _ h)

put_front : (k : Uuid) (row : Row) (es : Rows) → T (below_all id_cmp k es) → put id_cmp k row es ≡ (k, row) ∷ es
put_front k row [] h = refl
put_front k row (e ∷ es) h = ap (λ o. by_order o ((k, row) ∷ e ∷ es) ((e.0, row) ∷ es) (e ∷ put id_cmp k row es)) (less_is _ (left_holds _ _ h))

all_others : (k : Uuid) (es : Rows) → T (below_all id_cmp k es) → where_key id_cmp (λ x. not (eq_by_cmp id_cmp k x)) es ≡ es
all_others k [] h = refl
all_others k (e ∷ es) h =
    let others = where_key id_cmp (λ x. not (eq_by_cmp id_cmp k x)) es in
    ap (λ o. cond (not (is_eq o)) (e ∷ others) others) (less_is _ (left_holds _ _ h)) ∙ ap (λ rest. e ∷ rest) (all_others k es (right_holds _ _ h))

-- a change below all rows
pub placed_first : (k : Uuid) (o : Option Row) (cs : Made) (es : Rows) → T (below_all id_cmp k cs) → T (below_all id_cmp k es) → place_each id_cmp ((k, o) ∷ cs) es ≡ row_made (k, o) ++ place_each id_cmp cs es
placed_first k (Some row) cs es g h = ap (place_each id_cmp cs) (put_front k row es h) ∙ placed_after (k, row) cs es g
placed_first k None cs es g h = ap (place_each id_cmp cs) (all_others k es h)

-- a change of the first row
pub placed_over : (k : Uuid) (o : Option Row) (cs : Made) (r : Uuid × Row) (es : Rows) → T (below_all id_cmp k cs) → id_cmp r.0 k ≡ Equal → T (is_sorted id_cmp (r ∷ es))
    → place_each id_cmp ((k, o) ∷ cs) (r ∷ es) ≡ row_made (k, o) ++ place_each id_cmp cs es
placed_over k (Some row) cs r es g e h =
    let same_key = name_exact r.0 k e in
    ap (place_each id_cmp cs) (ap (λ q. by_order (id_cmp k q) ((k, row) ∷ r ∷ es) ((q, row) ∷ es) (r ∷ put id_cmp k row es)) same_key
    ∙ ap (λ o. by_order o ((k, row) ∷ r ∷ es) ((k, row) ∷ es) (r ∷ put id_cmp k row es)) (name_cmp_total.antisymm k k ∙ ap ordering_reverse (itself k r.0 same_key e)))
    ∙ placed_after (k, row) cs es g
  where
    itself : (k l : Uuid) → l ≡ k → id_cmp l k ≡ Equal → id_cmp k k ≡ Equal
    itself k l is e = sym (ap (λ q. id_cmp q k) is) ∙ e
placed_over k None cs r es g e h =
    let same_key = name_exact r.0 k e in
    let others = where_key id_cmp (λ x. not (eq_by_cmp id_cmp k x)) es in
    ap (place_each id_cmp cs) (ap (λ o. cond (not (is_eq o)) (r ∷ others) others) (ap (id_cmp k) same_key ∙ sym (ap (λ q. id_cmp q k) same_key) ∙ e)
    ∙ all_others k es (below_same k r.0 es (sym same_key) (left_holds _ _ h)))

-- changes without rows
pub placed_all : (cs : Made) → T (is_sorted id_cmp cs) → place_each id_cmp cs [] ≡ flat_map row_made cs
placed_all [] h = refl
placed_all (c ∷ cs) h = placed_first c.0 c.1 cs [] (left_holds _ _ h) tt ∙ ap (λ rest. row_made (c.0, c.1) ++ rest) (placed_all cs (right_holds _ _ h))

-- ---- two lists that are walked side by side

module _ {A B : Type 0} (f : A → Uuid × Row) (g : B → Uuid × Option Row) (xs : List A) (ys : List B) where
  row_at : (i : ℕ) (x : A) → i < length xs → x ≡ get_or xs i x → map f (drop i xs) ≡ f x ∷ map f (drop (i + 1) xs)
  row_at i x h e = ap (map f) (drop-at xs i x h e)

  change_at : (j : ℕ) (y : B) → j < length ys → y ≡ get_or ys j y → map g (drop j ys) ≡ g y ∷ map g (drop (j + 1) ys)
  change_at j y h e = ap (map g) (drop-at ys j y h e)

  -- what there is, with what the others will make
  abbrev pub with_others : Rows → ℕ → ℕ → Rows
  with_others ms i j = ms ++ place_each id_cmp (map g (drop j ys)) (map f (drop i xs))

  module _ (i j : ℕ) (x : A) (y : B) (p : i < length xs) (at_x : x ≡ get_or xs i x) (q : j < length ys) (at_y : y ≡ get_or ys j y) (h : T (is_sorted id_cmp (map f (drop i xs)))) (k : T (is_sorted id_cmp (map g (drop j ys)))) where
    rows_here : T (is_sorted id_cmp (f x ∷ map f (drop (i + 1) xs)))
    rows_here = subst (λ (es : Rows). T (is_sorted id_cmp es)) (row_at i x p at_x) h

    changes_here : T (is_sorted id_cmp (g y ∷ map g (drop (j + 1) ys)))
    changes_here = subst (λ (cs : Made). T (is_sorted id_cmp cs)) (change_at j y q at_y) k

    pub rows_next : T (is_sorted id_cmp (map f (drop (i + 1) xs)))
    rows_next = sorted_rest (f x) (map f (drop (i + 1) xs)) rows_here

    pub changes_next : T (is_sorted id_cmp (map g (drop (j + 1) ys)))
    changes_next = sorted_rest (g y) (map g (drop (j + 1) ys)) changes_here

    pub row_turn : (ms : Rows) → id_cmp (f x).0 (g y).0 ≡ Less → with_others (ms ++ f x ∷ []) (i + 1) j ≡ with_others ms i j
    row_turn ms e =
        append_assoc ms (f x ∷ []) (place_each id_cmp (map g (drop j ys)) (map f (drop (i + 1) xs)))
        ∙ ap (λ es. ms ++ es) (sym (ap (place_each id_cmp (map g (drop j ys))) (row_at i x p at_x)
        ∙ placed_after (f x) (map g (drop j ys)) (map f (drop (i + 1) xs)) below))
      where
        below : T (below_all id_cmp (f x).0 (map g (drop j ys)))
        below = subst (λ (cs : Made). T (below_all id_cmp (f x).0 cs)) (sym (change_at j y q at_y)) (below_sorted (f x).0 (g y) (map g (drop (j + 1) ys)) e changes_here)

    pub same_turn : (ms : Rows) → id_cmp (f x).0 (g y).0 ≡ Equal → with_others (ms ++ row_made (g y)) (i + 1) (j + 1) ≡ with_others ms i j
    same_turn ms e =
        append_assoc ms (row_made (g y)) (place_each id_cmp (map g (drop (j + 1) ys)) (map f (drop (i + 1) xs)))
        ∙ ap (λ es. ms ++ es) (sym (ap (place_each id_cmp (map g (drop j ys))) (row_at i x p at_x)
        ∙ ap (λ (cs : Made). place_each id_cmp cs (f x ∷ map f (drop (i + 1) xs))) (change_at j y q at_y)
        ∙ placed_over (g y).0 (g y).1 (map g (drop (j + 1) ys)) (f x) (map f (drop (i + 1) xs)) (below_rest (g y) (map g (drop (j + 1) ys)) changes_here) e rows_here))

    pub change_turn : (ms : Rows) → id_cmp (f x).0 (g y).0 ≡ Greater → with_others (ms ++ row_made (g y)) i (j + 1) ≡ with_others ms i j
    change_turn ms e =
        append_assoc ms (row_made (g y)) (place_each id_cmp (map g (drop (j + 1) ys)) (map f (drop i xs)))
        ∙ ap (λ es. ms ++ es) (sym (ap (λ (cs : Made). place_each id_cmp cs (map f (drop i xs))) (change_at j y q at_y)
        ∙ placed_first (g y).0 (g y).1 (map g (drop (j + 1) ys)) (map f (drop i xs)) (below_rest (g y) (map g (drop (j + 1) ys)) changes_here) below))
      where
        below : T (below_all id_cmp (g y).0 (map f (drop i xs)))
        below = subst (λ (es : Rows). T (below_all id_cmp (g y).0 es)) (sym (row_at i x p at_x)) (below_sorted (g y).0 (f x) (map f (drop (i + 1) xs)) (before_greater (f x).0 (g y).0 e) rows_here)

  -- one of the two lists is used up
  pub rows_through : (ms : Rows) (i j : ℕ) → length xs ≤ i → T (is_sorted id_cmp (map g (drop j ys))) → (ms ++ map f (drop i xs)) ++ flat_map row_made (map g (drop j ys)) ≡ with_others ms i j
  rows_through ms i j h k =
      ap (λ zs. (ms ++ map f zs) ++ flat_map row_made (map g (drop j ys))) (drop_all i xs h)
      ∙ append_assoc ms [] (flat_map row_made (map g (drop j ys)))
      ∙ ap (λ es. ms ++ es) (sym (placed_all (map g (drop j ys)) k) ∙ ap (λ zs. place_each id_cmp (map g (drop j ys)) (map f zs)) (sym (drop_all i xs h)))

  pub changes_through : (ms : Rows) (i j : ℕ) → length ys ≤ j → (ms ++ map f (drop i xs)) ++ flat_map row_made (map g (drop j ys)) ≡ with_others ms i j
  changes_through ms i j h =
      ap (λ zs. (ms ++ map f (drop i xs)) ++ flat_map row_made (map g zs)) (drop_all j ys h)
      ∙ append-nil (ms ++ map f (drop i xs))
      ∙ ap (λ zs. ms ++ place_each id_cmp (map g zs) (map f (drop i xs))) (sym (drop_all j ys h))

-- ---- the rows of one table

in_part : (b : Bool) (change : Option (Option Row)) (old : Option Row) → or_before (cond b change None) (cond b old None) ≡ cond b (or_before change old) None
in_part true change old = refl
in_part false change old = refl

module _ (table : List ℕ) (delta : Delta) where
  abbrev of_it : LineKey → Bool
  of_it k = bytes_eq k.0 table

  abbrev its_changes : Changes
  its_changes = where_key line_cmp of_it (entries delta)

  pub its_changes_sorted : T (is_sorted line_cmp its_changes)
  its_changes_sorted = part_sorted delta of_it

  -- what is at a key after the table's changes
  pub get-after : (rows : Database) (q : LineKey) → get (with_row_changes its_changes rows) q ≡ or_before (cond (of_it q) (get delta q) None) (get rows q)
  get-after rows q =
      ap (λ (cs : Changes). get (with_row_changes cs rows) q) (sym (entries-from_sorted line_cmp its_changes its_changes_sorted))
      ∙ get-applied (delta_of its_changes) rows q ∙ ap (λ o. or_before o (get rows q)) (get-part delta of_it q)

  module _ (db : Database) where
    abbrev its_rows : Entries
    its_rows = where_key line_cmp of_it (entries db)

    pub its_rows_sorted : T (is_sorted line_cmp its_rows)
    its_rows_sorted = part_sorted db of_it

    -- the table's rows after its changes are its rows after all changes
    pub of_table_after : entries (with_row_changes its_changes (database_of its_rows)) ≡ filter (λ r. bytes_eq r.0.0 table) (entries (applied delta db))
    of_table_after =
        ap (λ (d : Database). entries d) (same_map key_total key_exact (with_row_changes its_changes (database_of its_rows)) (database_of (where_key line_cmp of_it (entries (applied delta db)))) (λ q.
        get-after (database_of its_rows) q ∙ ap (or_before (cond (of_it q) (get delta q) None)) (get-part db of_it q)
        ∙ in_part (of_it q) (get delta q) (get db q) ∙ ap (λ o. cond (of_it q) o None) (sym (get-applied delta db q))
        ∙ sym (get-part (applied delta db) of_it q)))
        ∙ entries-from_sorted line_cmp _ (part_sorted (applied delta db) of_it)

-- without changes the rows stay as they are
pub after-none : (table : List ℕ) (delta : Delta) (es : Entries) → len delta ≡ 0 → T (is_sorted line_cmp es) → es ≡ rows_after delta table es
after-none table delta es none h =
    sym (entries-from_sorted line_cmp es h)
    ∙ ap (λ (cs : Changes). entries (with_row_changes (filter (λ c. bytes_eq c.0.0 table) cs) (database_of es))) (sym (nil_from_length (entries delta) (sym (len-entries delta) ∙ none)))

-- ---- rows of one table by their identifiers, and by their keys

module _ (table : List ℕ) where
  abbrev pub keyed : {X : Type 0} → List (Uuid × X) → List (LineKey × X)
  keyed = map (λ e. ((table, e.0), e.1))

  module _ {X : Type 0} where
    ids_below : (id : Uuid) (es : List (Uuid × X)) → T (below_all line_cmp (table, id) (keyed es)) → T (below_all id_cmp id es)
    ids_below id [] h = tt
    ids_below id (e ∷ es) h = both_hold _ _ (subst (λ o. T (is_lt o)) (within table id e.0) (left_holds _ _ h)) (ids_below id es (right_holds _ _ h))

    pub ids_sorted : (es : List (Uuid × X)) → T (is_sorted line_cmp (keyed es)) → T (is_sorted id_cmp es)
    ids_sorted [] h = tt
    ids_sorted (e ∷ es) h = both_hold _ _ (ids_below e.0 es (left_holds _ _ h)) (ids_sorted es (right_holds _ _ h))

  put_keyed : (id : Uuid) (row : Row) (es : Rows) → put line_cmp (table, id) row (keyed es) ≡ keyed (put id_cmp id row es)
  put_keyed id row [] = refl
  put_keyed id row (e ∷ es) =
      ap (λ o. by_order o (((table, id), row) ∷ keyed (e ∷ es)) (((table, e.0), row) ∷ keyed es) (((table, e.0), e.1) ∷ put line_cmp (table, id) row (keyed es))) (within table id e.0)
      ∙ ap (λ rest. by_order (id_cmp id e.0) (((table, id), row) ∷ keyed (e ∷ es)) (((table, e.0), row) ∷ keyed es) (((table, e.0), e.1) ∷ rest)) (put_keyed id row es)
      ∙ (elim (id_cmp id e.0) as (λ o. by_order o (((table, id), row) ∷ keyed (e ∷ es)) (((table, e.0), row) ∷ keyed es) (((table, e.0), e.1) ∷ keyed (put id_cmp id row es)) ≡ keyed (by_order o ((id, row) ∷ e ∷ es) ((e.0, row) ∷ es) (e ∷ put id_cmp id row es))) [
        | Less ↦ refl
        | Equal ↦ refl
        | Greater ↦ refl
      ])

  others_keyed : (id : Uuid) (es : Rows) → where_key line_cmp (λ x. not (eq_by_cmp line_cmp (table, id) x)) (keyed es) ≡ keyed (where_key id_cmp (λ x. not (eq_by_cmp id_cmp id x)) es)
  others_keyed id [] = refl
  others_keyed id (e ∷ es) =
      let others = where_key line_cmp (λ x. not (eq_by_cmp line_cmp (table, id) x)) (keyed es) in
      ap (λ o. cond (not (is_eq o)) (((table, e.0), e.1) ∷ others) others) (within table id e.0)
      ∙ ap (λ rest. cond (not (is_eq (id_cmp id e.0))) (((table, e.0), e.1) ∷ rest) rest) (others_keyed id es)
      ∙ (elim (not (is_eq (id_cmp id e.0))) as (λ b. cond b (((table, e.0), e.1) ∷ keyed (where_key id_cmp (λ x. not (eq_by_cmp id_cmp id x)) es)) (keyed (where_key id_cmp (λ x. not (eq_by_cmp id_cmp id x)) es)) ≡ keyed (cond b (e ∷ where_key id_cmp (λ x. not (eq_by_cmp id_cmp id x)) es) (where_key id_cmp (λ x. not (eq_by_cmp id_cmp id x)) es))) [
        | true ↦ refl
        | false ↦ refl
      ])

  place_keyed : (id : Uuid) (o : Option Row) (es : Rows) → place line_cmp (table, id) o (keyed es) ≡ keyed (place id_cmp id o es)
  place_keyed id (Some row) es = put_keyed id row es
  place_keyed id None es = others_keyed id es

  pub placed_keyed : (cs : Made) (es : Rows) → place_each line_cmp (keyed cs) (keyed es) ≡ keyed (place_each id_cmp cs es)
  placed_keyed [] es = refl
  placed_keyed (c ∷ cs) es = ap (place_each line_cmp (keyed cs)) (place_keyed c.0 c.1 es) ∙ placed_keyed cs (place id_cmp c.0 c.1 es)

  -- changes made by identifiers are those made by keys
  pub merged_is : (cs : Made) (es : Rows) → T (is_sorted line_cmp (keyed es)) → keyed (place_each id_cmp cs es) ≡ entries (with_row_changes (keyed cs) (database_of (keyed es)))
  merged_is cs es h = sym (placed_keyed cs es) ∙ placed_is (keyed cs) (keyed es) h

  pub keyed-map : {A X : Type 0} (f : A → Uuid × X) (xs : List A) → keyed (map f xs) ≡ map (λ x. ((table, (f x).0), (f x).1)) xs
  keyed-map f [] = refl
  keyed-map f (x ∷ xs) = ap (λ es. ((table, (f x).0), (f x).1) ∷ es) (keyed-map f xs)

  -- a change of the table is listed
  pub change-listed : {A : Type 0} (f : A → LineKey × Option Row) (items : List A) (x : A) (e : LineKey × Option Row) (rest later all : Changes) → rest ≡ e ∷ later → bytes_eq e.0.0 table ≡ true → f x ≡ e
      → map f items ++ filter (λ c. bytes_eq c.0.0 table) rest ≡ all → map f (items ++ x ∷ []) ++ filter (λ c. bytes_eq c.0.0 table) later ≡ all
  change-listed f items x e rest later all is test same h =
      let others : Changes = filter (λ c. bytes_eq c.0.0 table) later in
      ap (λ ys. ys ++ others) (map-push f items x) ∙ append_assoc (map f items) (f x ∷ []) others ∙ ap (λ y. map f items ++ y ∷ others) same
      ∙ sym (ap (λ (es : Changes). map f items ++ filter (λ c. bytes_eq c.0.0 table) es) is ∙ ap (λ b. map f items ++ cond b (e ∷ others) others) test) ∙ h
