-- Rows, or what belongs to each of them, nested by their tables and by their keys.
use Rattle.std.proofs.Common.{◌≡◌, ℕ, List, [], ◌∷◌, ◌++◌, Bool, true, false, cond, T, Some, None, refl, sym, ap, subst, ◌∙◌, append-nil, Ordering, Less, Equal, Greater}
use Rattle.std.specs.Prelude.{option_and_then}
use Rattle.std.specs.Cmp.{eq_by_cmp_equiv}
use Rattle.std.specs.Cmp.Lexicographic.{texts_ties}
use Rattle.std.specs.FinMap.{find, from_sorted, is_sorted, get, entries, entries_sorted, get-from_sorted, get-entries, entries-from_sorted}
use Rattle.std.specs.FinMap.Entries.{below_all}
use Rattle.std.specs.List.{filter}
use Rattle.std.specs.Option.{option_or}
use Rattle.std.specs.Ordering.{eq_by_cmp, is_eq, is_lt, ordering_then}
use Rattle.std.specs.Str.{bytes_eq}
use Rattle.std.proofs.lemmas.List.Elements.{filter-append}
use Rattle.ov_specs.specs.rows.Lines.{LineKey, line_cmp}
use Rattle.ov_specs.specs.schema.SchemaTypes.{name_cmp}
use Rattle.ov_specs.specs.values.Uuid.{Uuid}
use Rattle.ov_specs.proofs.laws.Names.{name_cmp_total, name_exact}
use Rattle.ov_specs.proofs.laws.PutValues.{option_or-none}
use Rattle.ov_specs.proofs.laws.Truths.{both_hold, left_holds, right_holds, less_is, equal_is, not_tied}
use Rattle.ov_rows.specs.Nested.{OfTable, id_cmp, in_table, rows_in, all_rows}

abbrev Tables : Type 0 → Type 0
Tables V = List (List ℕ × OfTable V)

abbrev Entries : Type 0 → Type 0
Entries V = List (LineKey × V)

-- ---- order

itself : (name : List ℕ) → name_cmp name name ≡ Equal
itself name = equal_is _ ((eq_by_cmp_equiv name_cmp_total).refl name)

test : (name n : List ℕ) (b : Bool) → eq_by_cmp name_cmp name n ≡ b → bytes_eq n name ≡ b
test name n b is = texts_ties n name ∙ (eq_by_cmp_equiv name_cmp_total).symm n name ∙ is

module _ (name : List ℕ) where
  -- keys of one table are ordered by their identifiers
  pub within : (a b : Uuid) → line_cmp (name, a) (name, b) ≡ id_cmp a b
  within a b = ap (λ o. ordering_then o (id_cmp a b)) (itself name)

module _ {V : Type 0} where
  module _ (name : List ℕ) where
    below_within : (a : Uuid) (es : List (Uuid × V)) → T (below_all id_cmp a es) → T (below_all line_cmp (name, a) (in_table name es))
    below_within a [] h = tt
    below_within a (e ∷ es) h = both_hold _ _ (subst (λ o. T (is_lt o)) (sym (within name a e.0)) (left_holds _ _ h)) (below_within a es (right_holds _ _ h))

    -- those of a later table come after
    below_later : (k : LineKey) (es : List (Uuid × V)) → name_cmp k.0 name ≡ Less → T (below_all line_cmp k (in_table name es))
    below_later k [] h = tt
    below_later k (e ∷ es) h = both_hold _ _ (subst (λ o. T (is_lt (ordering_then o (id_cmp k.1 e.0)))) (sym h) tt) (below_later k es h)

  below_both : (k : LineKey) (xs ys : Entries V) → T (below_all line_cmp k xs) → T (below_all line_cmp k ys) → T (below_all line_cmp k (xs ++ ys))
  below_both k [] ys h p = p
  below_both k (x ∷ xs) ys h p = both_hold _ _ (left_holds _ _ h) (below_both k xs ys (right_holds _ _ h) p)

  below_tables : (k : LineKey) (ts : Tables V) → T (below_all name_cmp k.0 ts) → T (below_all line_cmp k (all_rows ts))
  below_tables k [] h = tt
  below_tables k (t ∷ ts) h =
      below_both k (in_table t.0 (entries t.1)) (all_rows ts) (below_later t.0 k (entries t.1) (less_is _ (left_holds _ _ h))) (below_tables k ts (right_holds _ _ h))

  sorted_both : (name : List ℕ) (es : List (Uuid × V)) (ys : Entries V) → T (is_sorted id_cmp es) → ((id : Uuid) → T (below_all line_cmp (name, id) ys)) → T (is_sorted line_cmp ys)
      → T (is_sorted line_cmp (in_table name es ++ ys))
  sorted_both name [] ys h p k = k
  sorted_both name (e ∷ es) ys h p k =
      both_hold _ _ (below_both (name, e.0) (in_table name es) ys (below_within name e.0 es (left_holds _ _ h)) (p e.0)) (sorted_both name es ys (right_holds _ _ h) p k)

  -- the keys of all rows ascend
  pub all_sorted : (ts : Tables V) → T (is_sorted name_cmp ts) → T (is_sorted line_cmp (all_rows ts))
  all_sorted [] h = tt
  all_sorted (t ∷ ts) h =
      sorted_both t.0 (entries t.1) (all_rows ts) (entries_sorted t.1) (λ id. below_tables (t.0, id) ts (left_holds _ _ h)) (all_sorted ts (right_holds _ _ h))

  -- ---- what is at a key

  module _ (name : List ℕ) (q : LineKey) (ys : Entries V) where
    find_apart : (es : List (Uuid × V)) → eq_by_cmp name_cmp q.0 name ≡ false → find line_cmp q (in_table name es ++ ys) ≡ find line_cmp q ys
    find_apart [] h = refl
    find_apart (e ∷ es) h = ap (λ b. cond b (Some e.1) (find line_cmp q (in_table name es ++ ys))) (by (name_cmp q.0 name) h) ∙ find_apart es h
      where
        by : (o : Ordering) → is_eq o ≡ false → is_eq (ordering_then o (id_cmp q.1 e.0)) ≡ false
        by Less p = refl
        by Equal p = cc
        by Greater p = refl

    find_within : (es : List (Uuid × V)) → name_cmp q.0 name ≡ Equal → find line_cmp q (in_table name es ++ ys) ≡ option_or (find id_cmp q.1 es) (find line_cmp q ys)
    find_within [] h = refl
    find_within (e ∷ es) h =
        ap (λ o. cond (is_eq (ordering_then o (id_cmp q.1 e.0))) (Some e.1) (find line_cmp q (in_table name es ++ ys))) h
        ∙ ap (cond (is_eq (id_cmp q.1 e.0)) (Some e.1)) (find_within es h)
        ∙ (elim (is_eq (id_cmp q.1 e.0)) as (λ b. cond b (Some e.1) (option_or (find id_cmp q.1 es) (find line_cmp q ys)) ≡ option_or (cond b (Some e.1) (find id_cmp q.1 es)) (find line_cmp q ys)) [
          | true ↦ refl
          | false ↦ refl
        ])

  -- a key of an earlier table is in none of these
  find_earlier : (q : LineKey) (ts : Tables V) → T (below_all name_cmp q.0 ts) → find line_cmp q (all_rows ts) ≡ None
  find_earlier q [] h = refl
  find_earlier q (t ∷ ts) h = find_apart t.0 q (all_rows ts) (entries t.1) (not_tied _ (left_holds _ _ h)) ∙ find_earlier q ts (right_holds _ _ h)

  pub find_nested : (q : LineKey) (ts : Tables V) → T (is_sorted name_cmp ts) → find line_cmp q (all_rows ts) ≡ option_and_then (λ t. get t q.1) (find name_cmp q.0 ts)
  find_nested q [] h = refl
  find_nested q (t ∷ ts) h = by (find_nested q ts (right_holds _ _ h)) (eq_by_cmp name_cmp q.0 t.0) refl
    where
      by : find line_cmp q (all_rows ts) ≡ option_and_then (λ t. get t q.1) (find name_cmp q.0 ts) → (b : Bool) → eq_by_cmp name_cmp q.0 t.0 ≡ b
          → find line_cmp q (all_rows (t ∷ ts)) ≡ option_and_then (λ t. get t q.1) (cond b (Some t.1) (find name_cmp q.0 ts))
      by others false is = find_apart t.0 q (all_rows ts) (entries t.1) is ∙ others
      by others true is =
          let tied = equal_is _ is in
          find_within t.0 q (all_rows ts) (entries t.1) tied
          ∙ ap (option_or (find id_cmp q.1 (entries t.1))) (find_earlier q ts (subst (λ n. T (below_all name_cmp n ts)) (sym (name_exact q.0 t.0 tied)) (left_holds _ _ h)))
          ∙ option_or-none _ ∙ sym (get-entries t.1 q.1)

  -- what is at a key is what is in its table
  pub get_nested : (ts : Tables V) (q : LineKey) → T (is_sorted name_cmp ts) → get (from_sorted {R = line_cmp} (all_rows ts)) q ≡ option_and_then (λ t. get t q.1) (find name_cmp q.0 ts)
  get_nested ts q h = get-from_sorted line_cmp (all_rows ts) q (all_sorted ts h) ∙ find_nested q ts h

  pub entries_nested : (ts : Tables V) → T (is_sorted name_cmp ts) → entries (from_sorted {R = line_cmp} (all_rows ts)) ≡ all_rows ts
  entries_nested ts h = entries-from_sorted line_cmp (all_rows ts) (all_sorted ts h)

  -- ---- the rows of one table

  module _ (name : List ℕ) where
    abbrev is_of : LineKey × V → Bool
    is_of r = bytes_eq r.0.0 name

    filter_within : (n : List ℕ) (es : List (Uuid × V)) → bytes_eq n name ≡ true → filter is_of (in_table n es) ≡ in_table n es
    filter_within n [] h = refl
    filter_within n (e ∷ es) h = ap (λ b. cond b (((n, e.0), e.1) ∷ filter is_of (in_table n es)) (filter is_of (in_table n es))) h ∙ ap (λ rs. ((n, e.0), e.1) ∷ rs) (filter_within n es h)

    filter_apart : (n : List ℕ) (es : List (Uuid × V)) → bytes_eq n name ≡ false → filter is_of (in_table n es) ≡ []
    filter_apart n [] h = refl
    filter_apart n (e ∷ es) h = ap (λ b. cond b (((n, e.0), e.1) ∷ filter is_of (in_table n es)) (filter is_of (in_table n es))) h ∙ filter_apart n es h

    filter_earlier : (ts : Tables V) → T (below_all name_cmp name ts) → filter is_of (all_rows ts) ≡ []
    filter_earlier [] h = refl
    filter_earlier (t ∷ ts) h =
        filter-append is_of (in_table t.0 (entries t.1)) (all_rows ts)
        ∙ ap (λ es. es ++ filter is_of (all_rows ts)) (filter_apart t.0 (entries t.1) (test name t.0 false (not_tied _ (left_holds _ _ h)))) ∙ filter_earlier ts (right_holds _ _ h)

    -- they are those of its rows
    pub filter_nested : (ts : Tables V) → T (is_sorted name_cmp ts) → filter is_of (all_rows ts) ≡ rows_in name (find name_cmp name ts)
    filter_nested [] h = refl
    filter_nested (t ∷ ts) h = filter-append is_of (in_table t.0 (entries t.1)) (all_rows ts) ∙ by (filter_nested ts (right_holds _ _ h)) (eq_by_cmp name_cmp name t.0) refl
      where
        by : filter is_of (all_rows ts) ≡ rows_in name (find name_cmp name ts) → (b : Bool) → eq_by_cmp name_cmp name t.0 ≡ b → filter is_of (in_table t.0 (entries t.1)) ++ filter is_of (all_rows ts) ≡ rows_in name (cond b (Some t.1) (find name_cmp name ts))
        by others false is = ap (λ es. es ++ filter is_of (all_rows ts)) (filter_apart t.0 (entries t.1) (test name t.0 false is)) ∙ others
        by others true is =
            let same = name_exact name t.0 (equal_is _ is) in
            ap (λ es. es ++ filter is_of (all_rows ts)) (filter_within t.0 (entries t.1) (test name t.0 true is))
            ∙ ap (λ es. in_table t.0 (entries t.1) ++ es) (filter_earlier ts (subst (λ n. T (below_all name_cmp n ts)) (sym same) (left_holds _ _ h)))
            ∙ append-nil _ ∙ ap (λ n. in_table n (entries t.1)) (sym same)
