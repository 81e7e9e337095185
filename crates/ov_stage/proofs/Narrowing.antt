-- Rows of a table by identifiers that include all rows that meet the conditions: they stand for the whole table.
use Rattle.std.proofs.Common.{◌≡◌, ℕ, List, [], ◌∷◌, ◌++◌, Bool, true, false, ◌&&◌, ◌||◌, cond, T, Option, Some, None, filter, map, refl, sym, ap, subst, ◌∙◌}
use Rattle.std.specs.Prelude.{option_to_list}
use Rattle.std.proofs.lemmas.Bool.{and_parts, false≢true}
use Rattle.std.specs.Cmp.Lexicographic.{same_text}
use Rattle.std.specs.FinMap.{find, get, entries, entries_sorted, is_sorted, get-entries, get-from_sorted, entries-from_sorted, same_map}
use Rattle.std.specs.FinMap.Entries.{below_all}
use Rattle.std.specs.List.{flat_map}
use Rattle.std.specs.Ordering.{eq_by_cmp, is_lt, is_eq}
use Rattle.std.specs.Str.{bytes_eq}
use Rattle.ov_specs.specs.operations.Conditions.{Condition}
use Rattle.ov_specs.specs.operations.MatchingRows.{meets_all, is_matching, matching}
use Rattle.ov_specs.specs.rows.Database.{Database, Row}
use Rattle.ov_specs.specs.rows.Lines.{LineKey, line_cmp}
use Rattle.ov_specs.specs.values.Uuid.{Uuid}
use Rattle.ov_specs.proofs.laws.LineKeys.{key_exact, key_total, tied_same}
use Rattle.ov_specs.proofs.laws.Names.{name_exact}
use Rattle.ov_specs.proofs.laws.Truths.{both_hold, left_holds, right_holds, equal_is, not_tied}
use Rattle.ov_stored.proofs.Same.{text-same}
use Rattle.ov_stored.specs.Changing.{Delta, applied, with_row_changes}
use Rattle.ov_stored.proofs.Places.{get-applied, or_before}
use Rattle.ov_specs.specs.values.Value.{marked}
use Rattle.ov_index.specs.Indexing.{Ascend}
use Rattle.ov_rows.specs.Lending.{lent_row_of}
use Rattle.ov_rows.specs.Nested.{TableRows, id_cmp, rows_in}
use Rattle.ov_rows.specs.Resident.{database_of}
use Rattle.ov_rows.specs.declared.row_view.RowView.{RowView}
use Rattle.ov_rows.proofs.Nesting.{within}
use Rattle.ov_stage.specs.Asked.{AreIdsOf, changes_of, has_id, rows_after, rows_of_ids}
use Rattle.ov_stage.specs.Staging.{entry_if_found}
use Rattle.ov_stage.proofs.Lookups.{at_key, get-of_table, get-no_table}
use Rattle.ov_stage.proofs.Merging.{get-after, keyed}

abbrev Entries : Type 0
Entries = List (LineKey × Row)

-- ---- entries that pass a test

find-below : (k : LineKey) (es : Entries) → T (below_all line_cmp k es) → find line_cmp k es ≡ None
find-below k [] h = refl
find-below k (e ∷ es) h = ap (λ b. cond b (Some e.1) (find line_cmp k es)) (not_tied (line_cmp k e.0) (left_holds _ _ h)) ∙ find-below k es (right_holds _ _ h)

module _ (P : LineKey × Row → Bool) where
  -- what is at a key, if it passes
  abbrev passing : LineKey → Option Row → Option Row
  passing q None = None
  passing q (Some row) = cond (P (q, row)) (Some row) None

  below-filter : (k : LineKey) (es : Entries) → T (below_all line_cmp k es) → T (below_all line_cmp k (filter P es))
  below-filter k [] h = tt
  below-filter k (e ∷ es) h =
      elim (P e) as (λ b. T (below_all line_cmp k (cond b (e ∷ filter P es) (filter P es)))) [
        | true ↦ both_hold _ _ (left_holds _ _ h) (below-filter k es (right_holds _ _ h))
        | false ↦ below-filter k es (right_holds _ _ h)
      ]

  sorted-filter : (es : Entries) → T (is_sorted line_cmp es) → T (is_sorted line_cmp (filter P es))
  sorted-filter [] h = tt
  sorted-filter (e ∷ es) h =
      elim (P e) as (λ b. T (is_sorted line_cmp (cond b (e ∷ filter P es) (filter P es)))) [
        | true ↦ both_hold _ _ (below-filter e.0 es (left_holds _ _ h)) (sorted-filter es (right_holds _ _ h))
        | false ↦ sorted-filter es (right_holds _ _ h)
      ]

  find-filter : (q : LineKey) (es : Entries) → T (is_sorted line_cmp es) → find line_cmp q (filter P es) ≡ passing q (find line_cmp q es)
  find-filter q [] h = refl
  find-filter q (e ∷ es) h = by (eq_by_cmp line_cmp q e.0) refl (P e) refl (find-filter q es (right_holds _ _ h))
    where
      by : (t : Bool) → eq_by_cmp line_cmp q e.0 ≡ t → (b : Bool) → P e ≡ b → find line_cmp q (filter P es) ≡ passing q (find line_cmp q es)
          → find line_cmp q (cond b (e ∷ filter P es) (filter P es)) ≡ passing q (cond t (Some e.1) (find line_cmp q es))
      by true tied true passes rest =
          ap (λ t. cond t (Some e.1) (find line_cmp q (filter P es))) tied
          ∙ sym (ap (λ b. cond b (Some e.1) None) (ap (λ (k : LineKey). P (k, e.1)) (tied_same q e.0 tied) ∙ passes))
      by true tied false passes rest =
          rest ∙ ap (passing q) (ap (λ k. find line_cmp k es) (tied_same q e.0 tied) ∙ find-below e.0 es (left_holds _ _ h))
          ∙ sym (ap (λ b. cond b (Some e.1) None) (ap (λ (k : LineKey). P (k, e.1)) (tied_same q e.0 tied) ∙ passes))
      by false tied true passes rest = ap (λ t. cond t (Some e.1) (find line_cmp q (filter P es))) tied ∙ rest
      by false tied false passes rest = rest

  get-filter : (m : Database) (q : LineKey) → get (database_of (filter P (entries m))) q ≡ passing q (get m q)
  get-filter m q =
      get-from_sorted line_cmp (filter P (entries m)) q (sorted-filter (entries m) (entries_sorted m)) ∙ find-filter q (entries m) (entries_sorted m) ∙ ap (passing q) (sym (get-entries m q))

  -- if the same passes at each key, the same entries do
  same-filter : (m n : Database) → ((q : LineKey) → passing q (get m q) ≡ passing q (get n q)) → filter P (entries m) ≡ filter P (entries n)
  same-filter m n same =
      sym (entries-from_sorted line_cmp (filter P (entries m)) (sorted-filter (entries m) (entries_sorted m)))
      ∙ ap (λ (d : Database). entries d) (same_map key_total key_exact (database_of (filter P (entries m))) (database_of (filter P (entries n))) (λ q. get-filter m q ∙ same q ∙ sym (get-filter n q)))
      ∙ entries-from_sorted line_cmp (filter P (entries n)) (sorted-filter (entries n) (entries_sorted n))

-- ---- rows by their identifiers

module _ (db : Database) (table : List ℕ) where
  abbrev rows_at : List Uuid → Entries
  rows_at ids = rows_of_ids db table ids

  below-rows : (k : Uuid) (ids : List Uuid) → T (below_all id_cmp k (map marked ids)) → T (below_all line_cmp (table, k) (rows_at ids))
  below-rows k [] h = tt
  below-rows k (id ∷ ids) h =
      let rest = below-rows k ids (right_holds _ _ h) in
      elim (get db (table, id)) as (λ o. T (below_all line_cmp (table, k) (at_key (table, id) o ++ rows_at ids))) [
        | None ↦ rest
        | Some row ↦ both_hold _ _ (subst (λ o. T (is_lt o)) (sym (within table k id)) (left_holds _ _ h)) rest
      ]

  pub rows-sorted : (ids : List Uuid) → Ascend ids → T (is_sorted line_cmp (rows_at ids))
  rows-sorted [] h = tt
  rows-sorted (id ∷ ids) h =
      let rest = rows-sorted ids (right_holds _ _ h) in
      elim (get db (table, id)) as (λ o. T (is_sorted line_cmp (at_key (table, id) o ++ rows_at ids))) [
        | None ↦ rest
        | Some row ↦ both_hold _ _ (below-rows id ids (left_holds _ _ h)) rest
      ]

  none_either : (b : Bool) (o : Option Row) → o ≡ None → cond b o None ≡ None
  none_either true o none = none
  none_either false o none = refl

  find-rows : (q : Uuid) (ids : List Uuid) → find line_cmp (table, q) (rows_at ids) ≡ cond (has_id ids q) (get db (table, q)) None
  find-rows q [] = refl
  find-rows q (id ∷ ids) = by (eq_by_cmp id_cmp q id) refl (get db (table, id)) refl (find-rows q ids)
    where
      tied : (t : Bool) → eq_by_cmp id_cmp q id ≡ t → eq_by_cmp line_cmp (table, q) (table, id) ≡ t
      tied t is = ap is_eq (within table q id) ∙ is

      at_id : eq_by_cmp id_cmp q id ≡ true → get db (table, q) ≡ get db (table, id)
      at_id is = ap (λ k. get db (table, k)) (name_exact q id (equal_is _ is))

      by : (t : Bool) → eq_by_cmp id_cmp q id ≡ t → (o : Option Row) → get db (table, id) ≡ o → find line_cmp (table, q) (rows_at ids) ≡ cond (has_id ids q) (get db (table, q)) None
          → find line_cmp (table, q) (at_key (table, id) o ++ rows_at ids) ≡ cond (t || has_id ids q) (get db (table, q)) None
      by true is None found rest = rest ∙ none_either (has_id ids q) (get db (table, q)) (at_id is ∙ found) ∙ sym (at_id is ∙ found)
      by true is (Some row) found rest = ap (λ t. cond t (Some row) (find line_cmp (table, q) (rows_at ids))) (tied true is) ∙ sym (at_id is ∙ found)
      by false is None found rest = rest
      by false is (Some row) found rest = ap (λ t. cond t (Some row) (find line_cmp (table, q) (rows_at ids))) (tied false is) ∙ rest

  get-rows : (q : Uuid) (ids : List Uuid) → Ascend ids → get (database_of (rows_at ids)) (table, q) ≡ cond (has_id ids q) (get db (table, q)) None
  get-rows q ids h = get-from_sorted line_cmp (rows_at ids) (table, q) (rows-sorted ids h) ∙ find-rows q ids

  keyed-at : (id : Uuid) (o : Option Row) (es : List (Uuid × Row)) → keyed table (option_to_list (entry_if_found id o) ++ es) ≡ at_key (table, id) o ++ keyed table es
  keyed-at id None es = refl
  keyed-at id (Some row) es = refl

  -- they are those of the table, by their keys
  pub rows-in_table : (rows : TableRows) → rows_in table (Some rows) ≡ filter (λ r. bytes_eq r.0.0 table) (entries db) → (ids : List Uuid)
      → keyed table (flat_map (λ id. option_to_list (entry_if_found id (get rows id))) ids) ≡ rows_at ids
  rows-in_table rows is [] = refl
  rows-in_table rows is (id ∷ ids) =
      let others = flat_map (λ id. option_to_list (entry_if_found id (get rows id))) ids in
      keyed-at id (get rows id) others
      ∙ ap (λ o. at_key (table, id) o ++ keyed table others) (sym (get-of_table table id db rows is)) ∙ ap (λ (es : Entries). at_key (table, id) (get db (table, id)) ++ es) (rows-in_table rows is ids)

  -- there are none if there is no table
  pub rows-no_table : rows_in table None ≡ filter (λ r. bytes_eq r.0.0 table) (entries db) → (ids : List Uuid) → rows_at ids ≡ []
  rows-no_table is [] = refl
  rows-no_table is (id ∷ ids) = ap (λ o. at_key (table, id) o ++ rows_at ids) (get-no_table table id db is) ∙ rows-no_table is ids

-- ---- those that meet conditions

-- each row of the table's meets them, or none does
pub met-of_table : (table : List ℕ) (conditions : List Condition) (rows : List RowView) → filter (meets_all conditions) (map (lent_row_of table) rows) ≡ filter (is_matching table conditions) (map (lent_row_of table) rows)
met-of_table table conditions [] = refl
met-of_table table conditions (r ∷ rows) =
    let met = filter (meets_all conditions) (map (lent_row_of table) rows) in
    ap (λ b. cond (b && meets_all conditions (lent_row_of table r)) (lent_row_of table r ∷ met) met) (sym (text-same table))
    ∙ ap (λ (rest : Entries). cond (bytes_eq table table && meets_all conditions (lent_row_of table r)) (lent_row_of table r ∷ rest) rest) (met-of_table table conditions rows)

module _ (delta : Delta) (db : Database) (table : List ℕ) (conditions : List Condition) (ids : List Uuid) (h : Ascend ids) (all : AreIdsOf conditions db table ids) where
  abbrev P : LineKey × Row → Bool
  P = is_matching table conditions

  abbrev after : Database
  after = database_of (rows_of_ids db table ids)

  -- no row of another table meets them
  passing-apart : (q : LineKey) (o : Option Row) → bytes_eq q.0 table ≡ false → passing P q o ≡ None
  passing-apart q None apart = refl
  passing-apart q (Some row) apart = ap (λ b. cond (b && meets_all conditions (q, row)) (Some row) None) apart

  -- nor one of another identifier
  passing-beside : (id : Uuid) (o : Option Row) → get db (table, id) ≡ o → has_id ids id ≡ false → passing P (table, id) o ≡ None
  passing-beside id None is beside = refl
  passing-beside id (Some row) is beside = by (P ((table, id), row)) refl
    where
      by : (b : Bool) → P ((table, id), row) ≡ b → cond b (Some row) None ≡ None
      by false fails = refl
      by true passes = absurd (false≢true (sym beside ∙ all id row is (and_parts (bytes_eq table table) (meets_all conditions ((table, id), row)) passes).1))

  passing-before : (id : Uuid) → passing P (table, id) (get after (table, id)) ≡ passing P (table, id) (get db (table, id))
  passing-before id = ap (passing P (table, id)) (get-rows db table id ids h) ∙ by (has_id ids id) refl
    where
      by : (b : Bool) → has_id ids id ≡ b → passing P (table, id) (cond b (get db (table, id)) None) ≡ passing P (table, id) (get db (table, id))
      by true among = refl
      by false beside = sym (passing-beside id (get db (table, id)) refl beside)

  passing-after : (id : Uuid) (change : Option (Option Row)) → passing P (table, id) (or_before change (get after (table, id))) ≡ passing P (table, id) (or_before change (get db (table, id)))
  passing-after id (Some new) = refl
  passing-after id None = passing-before id

  passing-here : (id : Uuid) → passing P (table, id) (get (with_row_changes (changes_of delta table) after) (table, id)) ≡ passing P (table, id) (get (applied delta db) (table, id))
  passing-here id =
      ap (passing P (table, id))
      (get-after table delta after (table, id) ∙ ap (λ b. or_before (cond b (get delta (table, id)) None) (get after (table, id))) (text-same table))
      ∙ passing-after id (get delta (table, id)) ∙ ap (passing P (table, id)) (sym (get-applied delta db (table, id)))

  -- rows of the table that meet all conditions after changes are found among these and the changes
  pub narrowed : filter P (rows_after delta table (rows_of_ids db table ids)) ≡ matching (applied delta db) table conditions
  narrowed = same-filter P (with_row_changes (changes_of delta table) after) (applied delta db) (λ q. by q (bytes_eq q.0 table) refl)
    where
      by : (q : LineKey) (b : Bool) → bytes_eq q.0 table ≡ b → passing P q (get (with_row_changes (changes_of delta table) after) q) ≡ passing P q (get (applied delta db) q)
      by q false apart = passing-apart q _ apart ∙ sym (passing-apart q _ apart)
      by q true here =
          subst (λ (k : LineKey). passing P k (get (with_row_changes (changes_of delta table) after) k) ≡ passing P k (get (applied delta db) k)) (λ i. (sym (same_text q.0 table (sym here)) i, q.1)) (passing-here q.1)
