-- Rows without weak references to rows that are not there.
use Rattle.std.proofs.Common.{◌≡◌, ℕ, List, [], ◌∷◌, map, Bool, true, false, cond, T, ◌&&◌, ◌||◌, not, is_some, flat_map, Option, Some, None, option_map, Result, Ok, Err, int_lt, pos, refl, sym, ap, subst, ◌∙◌, Ordering}
use Rattle.std.proofs.lemmas.Bool.{or_parts, or_from, or_left, or_right}
use Rattle.std.proofs.lemmas.List.Folds.{flat_map-map}
use Rattle.std.proofs.lemmas.Option.{same_Some}
use Rattle.std.specs.Ordering.{eq_by_cmp, is_lt}
use Rattle.std.specs.List.{list_any}
use Rattle.std.specs.Cmp.{IsTotalOrder}
use Rattle.std.specs.FinMap.{FinMap, contains_key, IsAntisymmetric, find, is_sorted, get, entries, entries_sorted, get-entries, from_entries, from_sorted, get-from_entries, get-from_sorted, entries-from_sorted, same_map}
use Rattle.std.specs.FinMap.Entries.{below_all}
use Rattle.ov_specs.specs.integrity.Committed.{is_dangling, pruned_datum, pruned_value, pruned_columns, dangles, pruned_row, pruned, within_limits}
use Rattle.ov_specs.specs.integrity.Limits.{has_too_few, is_short, is_over_limits}
use Rattle.ov_specs.specs.operations.Errors.{OpError, ConstraintViolation}
use Rattle.ov_specs.specs.integrity.References.{Target, column_targets, targets_in, row_targets}
use Rattle.ov_specs.specs.rows.Database.{Columns, Row, Database}
use Rattle.ov_specs.specs.rows.Lines.{LineKey, line_cmp}
use Rattle.ov_specs.specs.rows.RowNames.{is_own_column}
use Rattle.ov_specs.specs.rows.Suits.{is_value_for, column_of_row, suits_column, SuitsTable, SuitsRow, Suits}
use Rattle.ov_specs.specs.rows.Version.{row_now}
use Rattle.ov_specs.specs.schema.Schema.{is_some_and}
use Rattle.ov_specs.specs.schema.SchemaTypes.{name_cmp, Column, Table, Schema}
use Rattle.ov_specs.specs.values.Uuid.{Uuid, is_uuid}
use Rattle.ov_specs.specs.values.Value.{Datum, count}
use Rattle.ov_specs.proofs.laws.FoundRows.{row_suits}
use Rattle.ov_specs.proofs.laws.LineKeys.{key_total, key_exact, tied_same}
use Rattle.ov_specs.proofs.laws.Lists.{any-flat_map}
use Rattle.ov_specs.proofs.laws.Names.{name_cmp_total, name_exact, same_name-is}
use Rattle.ov_specs.proofs.laws.PrunedValues.{pruned_value_fits, has_mixed_pairs, left_is_target, none_dangles, strong_stays}

-- ---- entries whose values are made anew

module _ {K X Y : Type 0} (R : K → K → Ordering) (made : K × X → Y) where
  abbrev anew : K × X → K × Y
  anew e = (e.0, made e)

  below_all-anew : (k : K) (es : List (K × X)) → below_all R k (map anew es) ≡ below_all R k es
  below_all-anew k [] = refl
  below_all-anew k (e ∷ es) = ap (λ b. is_lt (R k e.0) && b) (below_all-anew k es)

  is_sorted-anew : (es : List (K × X)) → is_sorted R (map anew es) ≡ is_sorted R es
  is_sorted-anew [] = refl
  is_sorted-anew (e ∷ es) = λ i. below_all-anew e.0 es i && is_sorted-anew es i

  pub find-anew : ((a b : K) → eq_by_cmp R a b ≡ true → a ≡ b) → (key : K) (es : List (K × X)) → find R key (map anew es) ≡ option_map (λ x. made (key, x)) (find R key es)
  find-anew same key [] = refl
  find-anew same key (e ∷ es) = by (eq_by_cmp R key e.0) refl (find-anew same key es)
    where
      by : (b : Bool) → eq_by_cmp R key e.0 ≡ b → find R key (map anew es) ≡ option_map (λ x. made (key, x)) (find R key es)
          → cond b (Some (made e)) (find R key (map anew es)) ≡ option_map (λ x. made (key, x)) (cond b (Some e.1) (find R key es))
      by true is rest = ap (λ k. Some (made (k, e.1))) (sym (same key e.0 is))
      by false is rest = rest

  find-in_anew : ((a b : K) → eq_by_cmp R a b ≡ true → a ≡ b) → (m : FinMap R X) (key : K) → find R key (map anew (entries m)) ≡ option_map (λ x. made (key, x)) (get m key)
  find-in_anew same m key = find-anew same key (entries m) ∙ ap (option_map (λ x. made (key, x))) (sym (get-entries m key))

-- what holds of no entry does not hold of the one that is found
pub find-none : {K X : Type 0} (R : K → K → Ordering) → ((a b : K) → eq_by_cmp R a b ≡ true → a ≡ b) → (test : K × X → Bool) (key : K) (x : X) (es : List (K × X)) → list_any test es ≡ false → find R key es ≡ Some x
    → test (key, x) ≡ false
find-none R same test key x [] none found = cc
find-none {K} {X} R same test key x (e ∷ es) none found = by (eq_by_cmp R key e.0) refl (λ later. find-none R same test key x es parts.1 later) found
  where
    parts : (test e ≡ false) × (list_any test es ≡ false)
    parts = or_parts (test e) (list_any test es) none

    by : (b : Bool) → eq_by_cmp R key e.0 ≡ b → (find R key es ≡ Some x → test (key, x) ≡ false) → cond b (Some e.1) (find R key es) ≡ Some x → test (key, x) ≡ false
    by true is later at = ap test (λ i. (same key e.0 is i, sym (same_Some e.1 x at) i)) ∙ parts.0
    by false is later at = later at

none_at : {K X : Type 0} (R : K → K → Ordering) → ((a b : K) → eq_by_cmp R a b ≡ true → a ≡ b) → (test : K × X → Bool) (m : FinMap R X) (key : K) (x : X) → list_any test (entries m) ≡ false → get m key ≡ Some x
    → test (key, x) ≡ false
none_at R same test m key x none is = find-none R same test key x (entries m) none (sym (get-entries m key) ∙ is)

-- ---- the columns of a row

entries-from_entries : {K X : Type 0} {R : K → K → Ordering} → IsTotalOrder R → IsAntisymmetric R → (es : List (K × X)) → T (is_sorted R es) → entries (from_entries {R = R} es) ≡ es
entries-from_entries {R = R} total exact es h =
    ap entries (same_map total exact (from_entries es) (from_sorted es) (λ q. get-from_entries total es q ∙ sym (get-from_sorted R es q h))) ∙ entries-from_sorted R es h

module _ (rows : Database) (table : Table) (columns : Columns) where
  abbrev left : List ℕ × Datum → Datum
  left c = pruned_value rows (get table.columns c.0) c.1

  -- the columns stay, in their order
  pub entries-pruned_columns : entries (pruned_columns rows (Some table) columns) ≡ map (λ c. (c.0, left c)) (entries columns)
  entries-pruned_columns = entries-from_entries name_cmp_total name_exact _ (subst T (sym (is_sorted-anew name_cmp left (entries columns))) (entries_sorted columns))

  pub get-pruned_columns : (name : List ℕ) → get (pruned_columns rows (Some table) columns) name ≡ option_map (λ datum. left (name, datum)) (get columns name)
  get-pruned_columns name = get-from_entries name_cmp_total _ name ∙ find-in_anew name_cmp left same_name-is columns name

  -- what is left of a row suits its table, if no value is too short
  pub pruned_columns_suit : SuitsTable table columns → list_any (has_too_few table) (entries (pruned_columns rows (Some table) columns)) ≡ false → SuitsTable table (pruned_columns rows (Some table) columns)
  pruned_columns_suit suits enough name =
      ap (suits_column (column_of_row table name)) (get-pruned_columns name) ∙ by (is_own_column name) (get table.columns name) (get columns name) refl refl refl (suits name)
    where
      count_is : (column : Column) (datum : Datum) → get table.columns name ≡ Some column → get columns name ≡ Some datum → int_lt (pos (count (pruned_datum rows column.type_of datum))) column.type_of.min ≡ false
      count_is column datum at is =
          let stands : get (pruned_columns rows (Some table) columns) name ≡ Some (pruned_datum rows column.type_of datum) =
          get-pruned_columns name ∙ ap (option_map (λ d. left (name, d))) is ∙ ap (λ c. Some (pruned_value rows c datum)) at in
          sym (ap (is_some_and (λ c. int_lt (pos (count (pruned_datum rows column.type_of datum))) c.type_of.min)) at)
          ∙ none_at name_cmp same_name-is (has_too_few table) (pruned_columns rows (Some table) columns) name (pruned_datum rows column.type_of datum) enough stands

      by : (own : Bool) (c : Option Column) (d : Option Datum) → is_own_column name ≡ own → get table.columns name ≡ c → get columns name ≡ d
          → suits_column (column_of_row table name) (get columns name) ≡ true → suits_column (column_of_row table name) (option_map (λ datum. left (name, datum)) (get columns name)) ≡ true
      by true c None is at stands h = rw (is, stands) refl
      by true c (Some datum) is at stands h = cc
      by false None None is at stands h = rw (is, at, stands) refl
      by false None (Some datum) is at stands h = cc
      by false (Some column) None is at stands h = cc
      by false (Some column) (Some datum) is at stands h =
          let value : is_value_for column datum ≡ true = sym (λ i. suits_column (cond (is i) None (at i)) (stands i)) ∙ h in
          (λ i. suits_column (cond (is i) None (at i)) (option_map (λ d. pruned_value rows (at i) d) (stands i))) ∙ pruned_value_fits rows column datum value (count_is column datum at stands)

-- ---- what the columns of a row refer to

-- no map of the schema has a strong reference on one side and a weak one on the other
abbrev pub HasNoMixedPairs : Schema → Type 0
HasNoMixedPairs schema = (name other : List ℕ) (table : Table) (column : Column) → get schema.tables name ≡ Some table → get table.columns other ≡ Some column → has_mixed_pairs column.type_of ≡ false

none_of : {A : Type 0} (test : A → Bool) → ((a : A) → test a ≡ false) → (xs : List A) → list_any test xs ≡ false
none_of test none [] = refl
none_of test none (x ∷ xs) = or_from (test x) (list_any test xs) (none x) (none_of test none xs)

some_of : {A : Type 0} (test other : A → Bool) → ((a : A) → test a ≡ true → other a ≡ true) → (xs : List A) → list_any test xs ≡ true → list_any other xs ≡ true
some_of test other next [] h = h
some_of test other next (x ∷ xs) h = by (test x) refl h (λ later. some_of test other next xs later)
  where
    by : (b : Bool) → test x ≡ b → (b || list_any test xs) ≡ true → (list_any test xs ≡ true → list_any other xs ≡ true) → (other x || list_any other xs) ≡ true
    by true is h rest = or_left (other x) (list_any other xs) (next x is)
    by false is h rest = or_right (other x) (list_any other xs) (rest h)

none_in_value : (rows : Database) (o : Option Column) (datum : Datum) → list_any (is_dangling rows) (column_targets o (pruned_value rows o datum)) ≡ false
none_in_value rows None datum = refl
none_in_value rows (Some column) datum = none_dangles rows column.type_of datum

some_in_value : (test : Target → Bool) (rows : Database) (o : Option Column) (datum : Datum) → list_any test (column_targets o (pruned_value rows o datum)) ≡ true → list_any test (column_targets o datum) ≡ true
some_in_value test rows None datum h = h
some_in_value test rows (Some column) datum h = left_is_target test rows column.type_of datum h

-- a target of what is left of the columns passes the test
any_column_left : (test : Target → Bool) (rows : Database) (table : Table) (columns : Columns) → list_any test (targets_in (Some table) (pruned_columns rows (Some table) columns))
    ≡ list_any (λ c. list_any test (column_targets (get table.columns c.0) (pruned_value rows (get table.columns c.0) c.1))) (entries columns)
any_column_left test rows table columns =
    let targets : List ℕ × Datum → List Target = λ c. column_targets (get table.columns c.0) c.1 in
    ap (λ es. list_any test (flat_map targets es)) (entries-pruned_columns rows table columns)
    ∙ ap (list_any test) (flat_map-map targets (λ c. (c.0, left rows table columns c)) (entries columns))
    ∙ any-flat_map test (λ c. column_targets (get table.columns c.0) (pruned_value rows (get table.columns c.0) c.1)) (entries columns)

none_in_columns : (rows : Database) (o : Option Table) (columns : Columns) → list_any (is_dangling rows) (targets_in o (pruned_columns rows o columns)) ≡ false
none_in_columns rows None columns = refl
none_in_columns rows (Some table) columns =
    any_column_left (is_dangling rows) rows table columns
    ∙ none_of (λ c. list_any (is_dangling rows) (column_targets (get table.columns c.0) (pruned_value rows (get table.columns c.0) c.1))) (λ c. none_in_value rows (get table.columns c.0) c.1) (entries columns)

some_in_columns : (test : Target → Bool) (rows : Database) (o : Option Table) (columns : Columns) → list_any test (targets_in o (pruned_columns rows o columns)) ≡ true → list_any test (targets_in o columns) ≡ true
some_in_columns test rows None columns h = h
some_in_columns test rows (Some table) columns h =
    any-flat_map test (λ c. column_targets (get table.columns c.0) c.1) (entries columns)
    ∙ some_of (λ c. list_any test (column_targets (get table.columns c.0) (pruned_value rows (get table.columns c.0) c.1))) (λ c. list_any test (column_targets (get table.columns c.0) c.1))
    (λ c at. some_in_value test rows (get table.columns c.0) c.1 at) (entries columns) (sym (any_column_left test rows table columns) ∙ h)

module _ (test : Target → Bool) (strong_only : (target : Target) → target.is_strong ≡ false → test target ≡ false) (rows : Database) where
  strong_in_value : (o : Option Column) → ((column : Column) → o ≡ Some column → has_mixed_pairs column.type_of ≡ false) → (datum : Datum)
      → list_any test (column_targets o (pruned_value rows o datum)) ≡ list_any test (column_targets o datum)
  strong_in_value None unmixed datum = refl
  strong_in_value (Some column) unmixed datum = strong_stays test strong_only rows column.type_of (unmixed column refl) datum

  strong_in_columns : (o : Option Table) → ((table : Table) (name : List ℕ) (column : Column) → o ≡ Some table → get table.columns name ≡ Some column → has_mixed_pairs column.type_of ≡ false) → (columns : Columns)
      → list_any test (targets_in o (pruned_columns rows o columns)) ≡ list_any test (targets_in o columns)
  strong_in_columns None unmixed columns = refl
  strong_in_columns (Some table) unmixed columns =
      any_column_left test rows table columns
      ∙ (λ i. list_any (λ c. strong_in_value (get table.columns c.0) (λ column is. unmixed table c.0 column refl is) c.1 i) (entries columns))
      ∙ sym (any-flat_map test (λ c. column_targets (get table.columns c.0) c.1) (entries columns))

-- ---- the row at a key

module _ (schema : Schema) (before : Database) (version : Uuid) (rows : Database) where
  -- a row stands there if one stood there, the same row without its dangling references
  pub get-pruned : (key : LineKey) → get (pruned schema before version rows) key ≡ option_map (λ row. pruned_row schema before version rows (key, row)) (get rows key)
  get-pruned key =
      let made : LineKey × Row → Row = pruned_row schema before version rows in
      get-from_sorted line_cmp (map (λ r. (r.0, made r)) (entries rows)) key (subst T (sym (is_sorted-anew line_cmp made (entries rows))) (entries_sorted rows))
      ∙ find-in_anew line_cmp made tied_same rows key

  -- a row without dangling references stays as it is
  pub pruned_row-without : (r : LineKey × Row) → dangles schema rows r ≡ false → pruned_row schema before version rows r ≡ r.1
  pruned_row-without r none = rw none refl

  -- if no row has any, all stay as they are
  pub pruned_without : ((key : LineKey) (row : Row) → get rows key ≡ Some row → dangles schema rows (key, row) ≡ false) → pruned schema before version rows ≡ rows
  pruned_without none = same_map key_total key_exact _ rows (λ key. get-pruned key ∙ by key (get rows key) refl)
    where
      by : (key : LineKey) (o : Option Row) → get rows key ≡ o → option_map (λ row. pruned_row schema before version rows (key, row)) o ≡ o
      by key None is = refl
      by key (Some row) is = ap Some (pruned_row-without (key, row) (none key row is))

  -- the rows are still those of the schema, if no value of them is too short
  pub pruned_suits : Suits schema before → is_uuid version ≡ true → Suits schema rows → list_any (is_short schema) (entries (pruned schema before version rows)) ≡ false → Suits schema (pruned schema before version rows)
  pruned_suits all is_version suits enough key row is = by (get rows key) refl (sym (get-pruned key) ∙ is)
    where
      enough_in : (table : Table) → get schema.tables key.0 ≡ Some table → list_any (has_too_few table) (entries row.columns) ≡ false
      enough_in table named = sym (ap (is_some_and (λ t. list_any (has_too_few t) (entries row.columns))) named) ∙ none_at line_cmp tied_same (is_short schema) (pruned schema before version rows) key row enough is

      -- the columns of a row of the table that are left suit it
      by_table : (old : Row) (one : SuitsRow schema key old) → row_now before version key (pruned_columns rows (get schema.tables key.0) old.columns) ≡ row
          → SuitsRow schema key (row_now before version key (pruned_columns rows (get schema.tables key.0) old.columns))
      by_table old one made =
          let named = one.named in
          let columns_are : pruned_columns rows (get schema.tables key.0) old.columns ≡ pruned_columns rows (Some one.table) old.columns = ap (λ t. pruned_columns rows t old.columns) named in
          let made_of : pruned_columns rows (Some one.table) old.columns ≡ row.columns = sym columns_are ∙ ap (λ r. r.columns) made in
          let suit : SuitsTable one.table (pruned_columns rows (Some one.table) old.columns) =
          pruned_columns_suit rows one.table old.columns one.columns (ap (λ c. list_any (has_too_few one.table) (entries c)) made_of ∙ enough_in one.table named) in
          row_suits schema before version one.table key _ all is_version (record { named = named; id = one.id; suits = subst (SuitsTable one.table) (sym columns_are) suit })

      by_dangling : (old : Row) (one : SuitsRow schema key old) (b : Bool) → cond b (row_now before version key (pruned_columns rows (get schema.tables key.0) old.columns)) old ≡ row → SuitsRow schema key row
      by_dangling old one true made = subst (SuitsRow schema key) made (by_table old one made)
      by_dangling old one false made = subst (SuitsRow schema key) made one

      by : (o : Option Row) → get rows key ≡ o → option_map (λ r. pruned_row schema before version rows (key, r)) o ≡ Some row → SuitsRow schema key row
      by None at made = cc
      by (Some old) at made = by_dangling old (suits key old at) (dangles schema rows (key, old)) (same_Some _ row made)

  -- ---- what the rows refer to

  -- a reference of what is left of a row is one of the row
  pub pruned_targets : (test : Target → Bool) (key : LineKey) (row : Row) → list_any test (row_targets schema (key, pruned_row schema before version rows (key, row))) ≡ true → list_any test (row_targets schema (key, row)) ≡ true
  pruned_targets test key row = by (dangles schema rows (key, row))
    where
      by : (b : Bool) → list_any test (row_targets schema (key, cond b (row_now before version key (pruned_columns rows (get schema.tables key.0) row.columns)) row)) ≡ true → list_any test (row_targets schema (key, row)) ≡ true
      by true h = some_in_columns test rows (get schema.tables key.0) row.columns h
      by false h = h

  -- the strong references of a row stay
  pub pruned_strong : HasNoMixedPairs schema → (test : Target → Bool) → ((target : Target) → target.is_strong ≡ false → test target ≡ false) → (key : LineKey) (row : Row)
      → list_any test (row_targets schema (key, pruned_row schema before version rows (key, row))) ≡ list_any test (row_targets schema (key, row))
  pruned_strong unmixed test strong_only key row = by (dangles schema rows (key, row))
    where
      by : (b : Bool) → list_any test (row_targets schema (key, cond b (row_now before version key (pruned_columns rows (get schema.tables key.0) row.columns)) row)) ≡ list_any test (row_targets schema (key, row))
      by true = strong_in_columns test strong_only rows (get schema.tables key.0) (λ table name column named is. unmixed key.0 name table column named is) row.columns
      by false = refl

  -- no reference of what is left of a row dangles
  pub pruned_row_dangles_not : (key : LineKey) (row : Row) → dangles schema rows (key, pruned_row schema before version rows (key, row)) ≡ false
  pruned_row_dangles_not key row = by (dangles schema rows (key, row)) refl
    where
      by : (b : Bool) → dangles schema rows (key, row) ≡ b → dangles schema rows (key, cond b (row_now before version key (pruned_columns rows (get schema.tables key.0) row.columns)) row) ≡ false
      by true is = none_in_columns rows (get schema.tables key.0) row.columns
      by false is = is

  -- the same rows are there
  pub contains_key-pruned : (key : LineKey) → contains_key (pruned schema before version rows) key ≡ contains_key rows key
  contains_key-pruned key = ap is_some (get-pruned key) ∙ by (get rows key)
    where
      by : (o : Option Row) → is_some (option_map (λ row. pruned_row schema before version rows (key, row)) o) ≡ is_some o
      by None = refl
      by (Some row) = refl

  -- so the same references dangle
  pub dangles-pruned : (r : LineKey × Row) → dangles schema (pruned schema before version rows) r ≡ dangles schema rows r
  dangles-pruned r = λ i. list_any (λ target. not target.is_strong && not (contains_key-pruned target.key i)) (row_targets schema r)

  pub pruned_row_dangles_not_after : (key : LineKey) (row : Row) → dangles schema (pruned schema before version rows) (key, pruned_row schema before version rows (key, row)) ≡ false
  pruned_row_dangles_not_after key row = dangles-pruned (key, pruned_row schema before version rows (key, row)) ∙ pruned_row_dangles_not key row

  -- no reference of a row that is left dangles
  pub pruned_dangles_not : (key : LineKey) (row : Row) → get (pruned schema before version rows) key ≡ Some row → dangles schema (pruned schema before version rows) (key, row) ≡ false
  pruned_dangles_not key row is = by (get rows key) (sym (get-pruned key) ∙ is)
    where
      by : (o : Option Row) → option_map (λ r. pruned_row schema before version rows (key, r)) o ≡ Some row → dangles schema (pruned schema before version rows) (key, row) ≡ false
      by None made = cc
      by (Some old) made = sym (ap (λ r. dangles schema (pruned schema before version rows) (key, r)) (same_Some _ row made)) ∙ pruned_row_dangles_not_after key old

-- pruning twice is pruning once
pub pruned_again : (schema : Schema) (before : Database) (version : Uuid) (rows : Database) → pruned schema before version (pruned schema before version rows) ≡ pruned schema before version rows
pruned_again schema before version rows = pruned_without schema before version (pruned schema before version rows) (pruned_dangles_not schema before version rows)

-- what is within the limits after pruning is of the schema, if it was so before
pub limited_suits : (schema : Schema) (before : Database) (version : Uuid) (rows : Database) (result : Database) → Suits schema before → is_uuid version ≡ true → Suits schema rows
    → within_limits schema (pruned schema before version rows) ≡ Ok result → Suits schema result
limited_suits schema before version rows result all is_version suits = by (list_any (is_short schema) (entries after)) (is_over_limits schema after) refl
  where
    after : Database
    after = pruned schema before version rows

    by : (short over : Bool) → list_any (is_short schema) (entries after) ≡ short → ◌≡◌ {A = Result Database OpError} (cond (short || over) (Err ConstraintViolation) (Ok after)) (Ok result) → Suits schema result
    by true over is h = cc
    by false true is h = cc
    by false false is h =
        let same : after ≡ result = cc in
        subst (Suits schema) same (pruned_suits schema before version rows all is_version suits is)
