-- What is carried over, and what a commit leaves of it, are rows of the new schema.
use Rattle.std.proofs.Common.{◌≡◌, ℕ, List, [], ◌∷◌, map, filter, not, Bool, true, false, cond, ◌&&◌, Option, Some, None, is_some, is_none, option_map, option_and_then, refl, sym, ap, subst, ◌∙◌}
use Rattle.std.proofs.lemmas.Bool.{and_from}
use Rattle.std.proofs.lemmas.Option.{same_Some}
use Rattle.std.proofs.lemmas.Slice.Eq.{bytes_eq-Decides}
use Rattle.std.specs.Prelude.{unwrap_or}
use Rattle.std.specs.FinMap.{empty, get, entries, keys, find, get-empty, get-entries, get-from_entries}
use Rattle.std.specs.FinMap.Entries.{find-where_key}
use Rattle.std.specs.List.{list_any}
use Rattle.std.specs.Option.{option_or}
use Rattle.std.specs.Ordering.{eq_by_cmp}
use Rattle.std.specs.Str.{bytes_eq}
use Rattle.ov_specs.specs.conversion.Carried.{carried_value, carried_columns, carried_row, carried}
use Rattle.ov_specs.specs.conversion.Converted.{is_of_changed_type, has_changed_type, lacks_default, has_row, gets_unfit_default}
use Rattle.ov_specs.specs.integrity.Committed.{pruned_columns, dangles, pruned_row, pruned}
use Rattle.ov_specs.specs.integrity.Kept.{kept}
use Rattle.ov_specs.specs.integrity.Limits.{has_too_few, is_short}
use Rattle.ov_specs.specs.rows.Database.{Columns, Row, Database}
use Rattle.ov_specs.specs.rows.Lines.{LineKey, line_cmp}
use Rattle.ov_specs.specs.rows.RowNames.{is_own_column, row_columns}
use Rattle.ov_specs.specs.rows.Suits.{is_value_for, column_of_row, suits_column, SuitsTable, SuitsRow, Suits}
use Rattle.ov_specs.specs.rows.Version.{row_now}
use Rattle.ov_specs.specs.schema.Fitting.{fits, default_of}
use Rattle.ov_specs.specs.schema.SameType.{same_type}
use Rattle.ov_specs.specs.schema.Schema.{is_empty, is_some_and}
use Rattle.ov_specs.specs.schema.SchemaTypes.{name_cmp, ColumnType, Column, Table, Schema, kinds_of}
use Rattle.ov_specs.specs.values.Uuid.{Uuid, is_uuid}
use Rattle.ov_specs.specs.values.Value.{Datum, is_of}
use Rattle.ov_laws.proofs.SameTypes.{of_types}
use Rattle.ov_specs.proofs.laws.Committing.{kept_suits}
use Rattle.ov_specs.proofs.laws.LineKeys.{tied_same}
use Rattle.ov_specs.proofs.laws.Names.{name_cmp_total, name_exact, same_name-is}
use Rattle.ov_specs.proofs.laws.Pruning.{find-anew, find-none, pruned_columns_suit, get-pruned}
use Rattle.ov_specs.proofs.laws.PutValues.{option_or-none}
use Rattle.ov_specs.proofs.laws.SchemaLaws.{default_is_of}
use Rattle.ov_specs.proofs.laws.Suiting.{version_suits}
use Rattle.ov_carried.specs.Carrying.{carried_at, carried_of}
use Rattle.ov_carried.proofs.Made.{get-with_made, is_among-keys, carried-made}

was_so : (b : Bool) → not b ≡ false → b ≡ true
was_so true h = refl
was_so false h = cc

-- ---- the columns of a row

find-row_columns : (table : Table) (name : List ℕ) → find name_cmp name (row_columns table) ≡ column_of_row table name
find-row_columns table name =
    find-where_key name_cmp (λ n. not (is_own_column n)) name (λ other tied. ap (λ n. not (is_own_column n)) (sym (name_exact name other tied))) (entries table.columns)
    ∙ by (is_own_column name) (sym (get-entries table.columns name))
  where
    by : (b : Bool) → find name_cmp name (entries table.columns) ≡ get table.columns name → cond (not b) (find name_cmp name (entries table.columns)) None ≡ cond b None (get table.columns name)
    by true is = refl
    by false is = is

-- what fits a type fits the same type of another column
value_for_same : (a b : Column) (datum : Datum) → same_type a.type_of b.type_of ≡ true → is_value_for a datum ≡ true → is_value_for b datum ≡ true
value_for_same a b datum same is = subst (λ (t : ColumnType). (is_of (kinds_of t) datum && fits t datum) ≡ true) ((of_types a.type_of b.type_of).0 same) is

module _ (from to : Table) (columns : Columns) (suits : SuitsTable from columns) (same : list_any (is_of_changed_type from) (row_columns to) ≡ false) (fit : list_any (lacks_default from) (row_columns to) ≡ false) where
  get-carried_columns : (name : List ℕ) → get (carried_columns from to columns) name ≡ option_map (λ column. carried_value from columns (name, column)) (column_of_row to name)
  get-carried_columns name =
      get-from_entries name_cmp_total (map (λ c. (c.0, carried_value from columns c)) (row_columns to)) name
      ∙ find-anew name_cmp (carried_value from columns) same_name-is name (row_columns to)
      ∙ ap (option_map (λ column. carried_value from columns (name, column))) (find-row_columns to name)

  value_suits : (name : List ℕ) (column : Column) (f : Option Column) (v : Option Datum) → suits_column f v ≡ true
      → is_some_and (λ c. not (same_type c.type_of column.type_of)) f ≡ false → (is_none f && not (fits column.type_of (default_of column.type_of))) ≡ false
      → is_value_for column (unwrap_or (option_and_then (λ c. v) f) (default_of column.type_of)) ≡ true
  value_suits name column (Some f) (Some v) is typed fitting = value_for_same f column v (was_so (same_type f.type_of column.type_of) typed) is
  value_suits name column (Some f) None is typed fitting = cc
  value_suits name column None v is typed fitting =
      and_from (is_of (kinds_of column.type_of) (default_of column.type_of)) (fits column.type_of (default_of column.type_of)) (default_is_of column.type_of) (was_so (fits column.type_of (default_of column.type_of)) fitting)

  carried_columns_suit : SuitsTable to (carried_columns from to columns)
  carried_columns_suit name = ap (suits_column (column_of_row to name)) (get-carried_columns name) ∙ by (column_of_row to name) refl
    where
      by : (t : Option Column) → column_of_row to name ≡ t → suits_column t (option_map (λ column. carried_value from columns (name, column)) t) ≡ true
      by None is = refl
      by (Some column) is =
          let found : find name_cmp name (row_columns to) ≡ Some column = find-row_columns to name ∙ is in
          value_suits name column (column_of_row from name) (get columns name) (suits name)
          (find-none name_cmp same_name-is (is_of_changed_type from) name column (row_columns to) same found)
          (find-none name_cmp same_name-is (lacks_default from) name column (row_columns to) fit found)

-- ---- the rows that are carried over

has_row-of : (key : LineKey) (row : Row) (rs : List (LineKey × Row)) → find line_cmp key rs ≡ Some row → is_empty (filter (λ r. bytes_eq r.0.0 key.0) rs) ≡ false
has_row-of key row [] found = cc
has_row-of key row (r ∷ rs) found = by (eq_by_cmp line_cmp key r.0) refl found (has_row-of key row rs)
  where
    either : (b : Bool) → is_empty (filter (λ x. bytes_eq x.0.0 key.0) rs) ≡ false → is_empty (cond b (r ∷ filter (λ x. bytes_eq x.0.0 key.0) rs) (filter (λ x. bytes_eq x.0.0 key.0) rs)) ≡ false
    either true rest = refl
    either false rest = rest

    by : (b : Bool) → eq_by_cmp line_cmp key r.0 ≡ b → cond b (Some r.1) (find line_cmp key rs) ≡ Some row
        → (find line_cmp key rs ≡ Some row → is_empty (filter (λ x. bytes_eq x.0.0 key.0) rs) ≡ false)
        → is_empty (cond (bytes_eq r.0.0 key.0) (r ∷ filter (λ x. bytes_eq x.0.0 key.0) rs) (filter (λ x. bytes_eq x.0.0 key.0) rs)) ≡ false
    by true tied at rest =
        ap (λ b. is_empty (cond b (r ∷ filter (λ x. bytes_eq x.0.0 key.0) rs) (filter (λ x. bytes_eq x.0.0 key.0) rs)))
        ((bytes_eq-Decides r.0.0 key.0).1 (ap (λ (k : LineKey). k.0) (sym (tied_same key r.0 tied))))
    by false tied at rest = either (bytes_eq r.0.0 key.0) (rest at)

module _ (old new : Schema) (version : Uuid) (before : Database) where
  -- what stands at a key is what is carried over to it
  get-carried : (key : LineKey) → get (carried old new version before) key ≡ carried_of old new version before key
  get-carried key =
      sym (ap (λ rows. get rows key) (carried-made old new version before)) ∙ get-with_made (carried_of old new version before) (keys before) empty key
      ∙ ap (λ b. cond b (option_or (carried_of old new version before key) (get {R = line_cmp} empty key)) (get {R = line_cmp} empty key)) (is_among-keys before key)
      ∙ ap (λ o. cond (is_some (get before key)) (option_or (carried_of old new version before key) o) o) (get-empty line_cmp key) ∙ by (get before key)
    where
      by : (o : Option Row) → cond (is_some o) (option_or (option_and_then (carried_at old new version before key) o) None) None ≡ option_and_then (carried_at old new version before key) o
      by None = refl
      by (Some row) = option_or-none (carried_at old new version before key row)

  pub carried_suits : is_uuid version ≡ true → Suits old before → has_changed_type old new ≡ false → gets_unfit_default old new before ≡ false → Suits new (carried old new version before)
  carried_suits is_version suits typed fit key row has = by_row (get before key) refl (sym (get-carried key) ∙ has)
    where
      typed_in : (from to : Table) → get old.tables key.0 ≡ Some from → get new.tables key.0 ≡ Some to → list_any (is_of_changed_type from) (row_columns to) ≡ false
      typed_in from to is_old is_new =
          sym (ap (is_some_and (λ table. list_any (is_of_changed_type table) (row_columns to))) is_old)
          ∙ find-none name_cmp same_name-is (λ t. is_some_and (λ table. list_any (is_of_changed_type table) (row_columns t.1)) (get old.tables t.0)) key.0 to (entries new.tables) typed
          (sym (get-entries new.tables key.0) ∙ is_new)

      fit_in : (from to : Table) (former : Row) → get before key ≡ Some former → get old.tables key.0 ≡ Some from → get new.tables key.0 ≡ Some to → list_any (lacks_default from) (row_columns to) ≡ false
      fit_in from to former stands is_old is_new =
          let there : has_row before key.0 ≡ true = ap not (has_row-of key former (entries before) (sym (get-entries before key) ∙ stands)) in
          sym (λ i. there i && is_some_and (λ table. list_any (lacks_default table) (row_columns to)) (is_old i))
          ∙ find-none name_cmp same_name-is (λ t. has_row before t.0 && is_some_and (λ table. list_any (lacks_default table) (row_columns t.1)) (get old.tables t.0)) key.0 to (entries new.tables) fit
          (sym (get-entries new.tables key.0) ∙ is_new)

      by_tables : (former : Row) → get before key ≡ Some former → (a b : Option Table) → get old.tables key.0 ≡ a → get new.tables key.0 ≡ b
          → option_map (λ (kept : LineKey × Row). kept.1) (option_and_then (λ from. option_map (λ to. carried_row from to version before (key, former)) b) a) ≡ Some row → SuitsRow new key row
      by_tables former stands None b is_old is_new made = cc
      by_tables former stands (Some from) None is_old is_new made = cc
      by_tables former stands (Some from) (Some to) is_old is_new made =
          let one : SuitsRow old key former = suits key former stands in
          let same : one.table ≡ from = same_Some one.table from (sym one.named ∙ is_old) in
          let columns : SuitsTable from former.columns = subst (λ (t : Table). SuitsTable t former.columns) same one.columns in
          subst (SuitsRow new key) (same_Some (row_now before version key (carried_columns from to former.columns)) row made) (record {
            table = to;
            named = is_new;
            id = one.id;
            version = version_suits (get before key) version (carried_columns from to former.columns) is_version (λ r is. (suits key r is).version);
            columns = carried_columns_suit from to former.columns columns (typed_in from to is_old is_new) (fit_in from to former stands is_old is_new);
          })

      by_row : (o : Option Row) → get before key ≡ o → option_and_then (carried_at old new version before key) o ≡ Some row → SuitsRow new key row
      by_row None stands made = cc
      by_row (Some former) stands made = by_tables former stands (get old.tables key.0) (get new.tables key.0) refl refl made

-- ---- the rows that are pruned

module _ (schema : Schema) (before : Database) (version : Uuid) (rows : Database) where
  -- the rows are still those of the schema, if no value of them is too short
  pub pruned_suits : ((key : LineKey) (row : Row) → get before key ≡ Some row → is_uuid row.version ≡ true) → is_uuid version ≡ true → Suits schema rows
      → list_any (is_short schema) (entries (pruned schema before version rows)) ≡ false → Suits schema (pruned schema before version rows)
  pruned_suits former is_version suits enough key row has = by (get rows key) refl (sym (get-pruned schema before version rows key) ∙ has)
    where
      enough_in : (table : Table) → get schema.tables key.0 ≡ Some table → list_any (has_too_few table) (entries row.columns) ≡ false
      enough_in table named =
          sym (ap (is_some_and (λ t. list_any (has_too_few t) (entries row.columns))) named)
          ∙ find-none line_cmp tied_same (is_short schema) key row (entries (pruned schema before version rows)) enough (sym (get-entries (pruned schema before version rows) key) ∙ has)

      by_table : (stood : Row) (one : SuitsRow schema key stood) → row_now before version key (pruned_columns rows (get schema.tables key.0) stood.columns) ≡ row → SuitsRow schema key row
      by_table stood one made =
          let are : pruned_columns rows (get schema.tables key.0) stood.columns ≡ pruned_columns rows (Some one.table) stood.columns = ap (λ t. pruned_columns rows t stood.columns) one.named in
          let left : pruned_columns rows (Some one.table) stood.columns ≡ row.columns = sym are ∙ ap (λ (r : Row). r.columns) made in
          let suit : SuitsTable one.table (pruned_columns rows (Some one.table) stood.columns) =
          pruned_columns_suit rows one.table stood.columns one.columns (ap (λ c. list_any (has_too_few one.table) (entries c)) left ∙ enough_in one.table one.named) in
          subst (SuitsRow schema key) made (record {
            table = one.table;
            named = one.named;
            id = one.id;
            version = version_suits (get before key) version (pruned_columns rows (get schema.tables key.0) stood.columns) is_version (former key);
            columns = subst (SuitsTable one.table) (sym are) suit;
          })

      by_dangling : (stood : Row) (one : SuitsRow schema key stood) (b : Bool) → cond b (row_now before version key (pruned_columns rows (get schema.tables key.0) stood.columns)) stood ≡ row → SuitsRow schema key row
      by_dangling stood one true made = by_table stood one made
      by_dangling stood one false made = subst (SuitsRow schema key) made one

      by : (o : Option Row) → get rows key ≡ o → option_map (λ r. pruned_row schema before version rows (key, r)) o ≡ Some row → SuitsRow schema key row
      by None at made = cc
      by (Some stood) at made = by_dangling stood (suits key stood at) (dangles schema rows (key, stood)) (same_Some _ row made)

-- what is left of rows after a commit, if no value is too short
pub left_suits : (schema : Schema) (before : Database) (version : Uuid) (rows left : Database) → left ≡ pruned schema before version (kept schema rows)
    → ((key : LineKey) (row : Row) → get before key ≡ Some row → is_uuid row.version ≡ true) → is_uuid version ≡ true → Suits schema rows
    → list_any (is_short schema) (entries left) ≡ false → Suits schema left
left_suits schema before version rows left are former is_version suits enough =
    subst (Suits schema) (sym are) (pruned_suits schema before version (kept schema rows) former is_version (kept_suits schema rows suits)
    (sym (ap (λ d. list_any (is_short schema) (entries d)) are) ∙ enough))
