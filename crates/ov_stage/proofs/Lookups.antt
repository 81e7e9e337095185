-- One row of a table, found by its key, and the rows that meet conditions that no other row meets.
use Rattle.std.proofs.Common.{◌≡◌, ℕ, List, [], ◌∷◌, Bool, true, false, ◌&&◌, cond, T, Option, Some, None, filter, option_map, refl, sym, ap, subst, ◌∙◌, Ordering, Equal}
use Rattle.std.specs.Prelude.{option_to_list}
use Rattle.std.proofs.lemmas.Bool.{and_parts, false≢true}
use Rattle.std.proofs.lemmas.Option.{same_Some}
use Rattle.std.specs.BTreeMap.{is_at}
use Rattle.std.specs.Cmp.Lexicographic.{same_text}
use Rattle.std.specs.FinMap.{FinMap, IsAntisymmetric, find, get, get-entries, entries, entries_sorted, is_sorted}
use Rattle.std.specs.FinMap.Entries.{below_all, find-where_key}
use Rattle.std.specs.Map.{lookup}
use Rattle.std.specs.Ordering.{eq_by_cmp, is_eq}
use Rattle.std.specs.Str.{bytes_eq}
use Rattle.ov_specs.specs.operations.Conditions.{Condition}
use Rattle.ov_specs.specs.operations.MatchingRows.{meets_all, is_matching, matching}
use Rattle.ov_specs.specs.rows.Database.{Database, Row}
use Rattle.ov_specs.specs.rows.Lines.{LineKey, line_cmp}
use Rattle.ov_specs.specs.values.Uuid.{Uuid}
use Rattle.ov_specs.proofs.laws.LineKeys.{key_exact, same_tied, tied_same}
use Rattle.ov_specs.proofs.laws.Truths.{left_holds, right_holds, not_tied}
use Rattle.ov_stored.proofs.Same.{text-same}
use Rattle.ov_rows.specs.Nested.{TableRows, id_cmp, in_table, rows_in}
use Rattle.ov_rows.proofs.Nesting.{within}
use Rattle.ov_stored.specs.Changing.{Delta, applied}
use Rattle.ov_stored.proofs.Places.{get-applied, or_before}
use Rattle.ov_rows.specs.Lending.{lent_row, lent_row_of}
use Rattle.ov_rows.specs.declared.row_view.RowView.{RowView}
use Rattle.ov_stage.specs.Staging.{AreOnlyOf, entry_if_found}

abbrev Entries : Type 0
Entries = List (LineKey × Row)

-- what is at a key, with the key
abbrev pub at_key : LineKey → Option Row → Entries
at_key key row = option_to_list (entry_if_found key row)

-- ---- what a map of the code finds, with its key

module _ {K X : Type 0} (R : K → K → Ordering) (exact : IsAntisymmetric R) (m : FinMap R X) where
  find-lookup : (q : K) (es : List (K × X)) → find R q es ≡ lookup (is_at (R q)) es
  find-lookup q [] = refl
  find-lookup q (e ∷ es) = ap (cond (eq_by_cmp R q e.0) (Some e.1)) (find-lookup q es)

  get-lookup : (q : K) (es : List (K × X)) → es ≡ entries m → get m q ≡ lookup (is_at (R q)) es
  get-lookup q es is = get-entries m q ∙ ap (find R q) (sym is) ∙ find-lookup q es

  pub found-none : (q : K) (es : List (K × X)) → es ≡ entries m → None ≡ lookup (is_at (R q)) es → None ≡ entry_if_found q (get m q)
  found-none q es is none = ap (entry_if_found q) (none ∙ sym (get-lookup q es is))

  pub found-some : (q k : K) (x : X) (es : List (K × X)) → es ≡ entries m → R q k ≡ Equal → Some x ≡ lookup (is_at (R q)) es → Some (k, x) ≡ entry_if_found q (get m q)
  found-some q k x es is tied some = (λ i. Some (sym (exact q k tied) i, x)) ∙ ap (entry_if_found q) (some ∙ sym (get-lookup q es is))

-- the same with the identifier alone
pub id-some : {X : Type 0} (key k : LineKey) (x : X) (found : Option X) → Some (k, x) ≡ entry_if_found key found → entry_if_found key.1 found ≡ Some (k.1, x)
id-some key k x None e = cc
id-some {X} key k x (Some y) e = sym (ap (option_map (λ (p : LineKey × X). (p.0.1, p.1))) e)

pub id-none : {X : Type 0} (key : LineKey) (found : Option X) → None ≡ entry_if_found key found → entry_if_found key.1 found ≡ None
id-none key None e = refl
id-none key (Some y) e = cc

-- ---- the row of an identifier in a table

module _ (table : List ℕ) (id : Uuid) where
  find-in_table : (es : List (Uuid × Row)) → find line_cmp (table, id) (in_table table es) ≡ find id_cmp id es
  find-in_table [] = refl
  find-in_table (e ∷ es) =
      ap (λ o. cond (is_eq o) (Some e.1) (find line_cmp (table, id) (in_table table es))) (within table id e.0) ∙ ap (cond (eq_by_cmp id_cmp id e.0) (Some e.1)) (find-in_table es)

  abbrev found_in : Option TableRows → Option Row
  found_in None = None
  found_in (Some rows) = get rows id

  find-rows_in : (rows : Option TableRows) → find line_cmp (table, id) (rows_in table rows) ≡ found_in rows
  find-rows_in None = refl
  find-rows_in (Some rows) = find-in_table (entries rows) ∙ sym (get-entries rows id)

  find-of_table : (es : Entries) → find line_cmp (table, id) (filter (λ r. bytes_eq r.0.0 table) es) ≡ find line_cmp (table, id) es
  find-of_table es =
      find-where_key line_cmp (λ (k : LineKey). bytes_eq k.0 table) (table, id) (λ x e. ap (λ (k : LineKey). bytes_eq k.0 table) (sym (key_exact (table, id) x e))) es
      ∙ ap (λ b. cond b (find line_cmp (table, id) es) None) (text-same table)

  get-rows_in : (db : Database) (rows : Option TableRows) → rows_in table rows ≡ filter (λ r. bytes_eq r.0.0 table) (entries db) → get db (table, id) ≡ found_in rows
  get-rows_in db rows is = get-entries db (table, id) ∙ sym (find-of_table (entries db)) ∙ ap (find line_cmp (table, id)) (sym is) ∙ find-rows_in rows

  pub get-of_table : (db : Database) (rows : TableRows) → rows_in table (Some rows) ≡ filter (λ r. bytes_eq r.0.0 table) (entries db) → get db (table, id) ≡ get rows id
  get-of_table db rows is = get-rows_in db (Some rows) is

  pub get-no_table : (db : Database) → rows_in table None ≡ filter (λ r. bytes_eq r.0.0 table) (entries db) → get db (table, id) ≡ None
  get-no_table db is = get-rows_in db None is

  -- the row, borrowed with its identifier, and with its key
  pub keyed-lent : (row : Option RowView) (is : Option Row) → option_map lent_row row ≡ entry_if_found id is → option_map (lent_row_of table) row ≡ entry_if_found (table, id) is
  keyed-lent None None e = refl
  keyed-lent None (Some r) e = cc
  keyed-lent (Some row) None e = cc
  keyed-lent (Some row) (Some r) e = ap (option_map (λ (p : Uuid × Row). ((table, p.0), p.1))) e

-- ---- the row of a key after changes

module _ (delta : Delta) (db : Database) (key : LineKey) where
  pub after-changed : (id : Uuid) (change : Option Row) → entry_if_found key.1 (get delta key) ≡ Some (id, change) → entry_if_found (key.0, id) change ≡ entry_if_found key (get (applied delta db) key)
  after-changed id change is = by (get delta key) refl is
    where
      by : (o : Option (Option Row)) → get delta key ≡ o → entry_if_found key.1 o ≡ Some (id, change) → entry_if_found (key.0, id) change ≡ entry_if_found key (get (applied delta db) key)
      by None found is = cc
      by (Some c) found is =
          let same = same_Some (id, change) (key.1, c) (sym is) in
          (λ i. entry_if_found (key.0, (same i).0) ((same i).1)) ∙ ap (entry_if_found key) (sym (get-applied delta db key ∙ ap (λ o. or_before o (get db key)) found))

  pub after-unchanged : entry_if_found key.1 (get delta key) ≡ None → get db key ≡ get (applied delta db) key
  after-unchanged is = by (get delta key) refl is
    where
      by : (o : Option (Option Row)) → get delta key ≡ o → entry_if_found key.1 o ≡ None → get db key ≡ get (applied delta db) key
      by None found is = sym (get-applied delta db key ∙ ap (λ o. or_before o (get db key)) found)
      by (Some c) found is = cc

-- ---- conditions that one row alone can meet

module _ (P : LineKey × Row → Bool) (k : LineKey) (only : (r : LineKey × Row) → P r ≡ true → r.0 ≡ k) where
  fails_apart : (e : LineKey × Row) → eq_by_cmp line_cmp k e.0 ≡ false → P e ≡ false
  fails_apart e apart = by (P e) refl
    where
      by : (b : Bool) → P e ≡ b → b ≡ false
      by false is = refl
      by true is = absurd (false≢true (sym apart ∙ same_tied k e.0 (sym (only e is))))

  none_above : (es : Entries) → T (below_all line_cmp k es) → filter P es ≡ []
  none_above [] h = refl
  none_above (e ∷ es) h =
      ap (λ b. cond b (e ∷ filter P es) (filter P es)) (fails_apart e (not_tied (line_cmp k e.0) (left_holds _ _ h))) ∙ none_above es (right_holds _ _ h)

  filter-found : (es : Entries) → T (is_sorted line_cmp es) → filter P es ≡ filter P (at_key k (find line_cmp k es))
  filter-found [] h = refl
  filter-found (e ∷ es) h = first (eq_by_cmp line_cmp k e.0) refl (filter-found es (right_holds _ _ h))
    where
      first : (b : Bool) → eq_by_cmp line_cmp k e.0 ≡ b → filter P es ≡ filter P (at_key k (find line_cmp k es)) → filter P (e ∷ es) ≡ filter P (at_key k (cond b (Some e.1) (find line_cmp k es)))
      first true tied others =
          let above = none_above es (subst (λ (q : LineKey). T (below_all line_cmp q es)) (sym (tied_same k e.0 tied)) (left_holds _ _ h)) in
          ap (cond (P e) (e ∷ filter P es)) above ∙ ap (λ (rest : Entries). cond (P e) (e ∷ rest) []) above ∙ ap (λ (q : LineKey). filter P ((q, e.1) ∷ [])) (sym (tied_same k e.0 tied))
      first false tied others = ap (λ b. cond b (e ∷ filter P es) (filter P es)) (fails_apart e tied) ∙ others

-- if one row alone can meet all conditions, the rows that meet them are found at its key
pub matching-at : (db : Database) (table : List ℕ) (id : Uuid) (conditions : List Condition) → AreOnlyOf id conditions
    → filter (meets_all conditions) (at_key (table, id) (get db (table, id))) ≡ matching db table conditions
matching-at db table id conditions only =
    met (get db (table, id)) ∙ ap (λ o. filter P (at_key (table, id) o)) (get-entries db (table, id)) ∙ sym (filter-found P (table, id) one (entries db) (entries_sorted db))
  where
    P : LineKey × Row → Bool
    P = is_matching table conditions

    one : (r : LineKey × Row) → P r ≡ true → r.0 ≡ (table, id)
    one r h =
        let parts = and_parts (bytes_eq r.0.0 table) (meets_all conditions r) h in
        λ i. (same_text r.0.0 table (sym parts.0) i, only r parts.1 i)

    met : (o : Option Row) → filter (meets_all conditions) (at_key (table, id) o) ≡ filter P (at_key (table, id) o)
    met None = refl
    met (Some row) = ap (λ b. cond (b && meets_all conditions ((table, id), row)) (((table, id), row) ∷ []) []) (sym (text-same table))
