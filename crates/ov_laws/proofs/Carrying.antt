-- What a conversion carries over: the values of columns that both tables have, in the rows of tables that both schemas have.
use Rattle.std.proofs.Common.{◌≡◌, ℕ, List, [], ◌∷◌, map, Bool, true, false, cond, not, is_some, option_map, option_and_then, Option, Some, None, refl, sym, ap, ◌∙◌}
use Rattle.std.proofs.lemmas.Map.Lookups.{exact_pairs}
use Rattle.std.specs.Prelude.{unwrap_or}
use Rattle.std.specs.FinMap.{IsAntisymmetric, slice_cmp-IsAntisymmetric, find, get, entries, get-entries, get-from_entries, same_map, same_entries_map}
use Rattle.std.specs.FinMap.Entries.{find-where_key}
use Rattle.std.specs.List.{filter_map, cons_option}
use Rattle.std.specs.Ordering.{eq_by_cmp}
use Rattle.ov_specs.specs.conversion.Carried.{carried_value, carried_columns, carried_row, carried_if_kept, carried}
use Rattle.ov_specs.specs.rows.Database.{Columns, Row, Database, same_columns}
use Rattle.ov_specs.specs.rows.Lines.{LineKey, line_cmp}
use Rattle.ov_specs.specs.rows.RowNames.{is_own_column, row_columns}
use Rattle.ov_specs.specs.rows.Suits.{column_of_row, suits_column, SuitsTable}
use Rattle.ov_specs.specs.rows.Version.{version_over, row_now}
use Rattle.ov_specs.specs.schema.Fitting.{default_of}
use Rattle.ov_specs.specs.schema.SchemaTypes.{name_cmp, Column, Table, Schema}
use Rattle.ov_specs.specs.values.Uuid.{Uuid}
use Rattle.ov_specs.specs.values.Value.{Datum}
use Rattle.ov_specs.proofs.laws.DatumOrder.{datum_cmp-IsAntisymmetric}
use Rattle.ov_specs.proofs.laws.LineKeys.{key_total, tied_same}
use Rattle.ov_specs.proofs.laws.Names.{name_cmp_total, name_exact, same_name-is}
use Rattle.ov_specs.proofs.laws.Pruning.{find-anew}
use Rattle.ov_specs.proofs.laws.Sameness.{column_cmp, columns-tied, row_now-former}
use Rattle.ov_specs.proofs.laws.Truths.{equal_is}

-- ---- columns

column_exact : IsAntisymmetric column_cmp
column_exact = exact_pairs name_cmp _ name_exact datum_cmp-IsAntisymmetric

columns-is : (a b : Columns) → same_columns (entries a) (entries b) ≡ true → a ≡ b
columns-is a b h = same_entries_map a b (slice_cmp-IsAntisymmetric column_exact (entries a) (entries b) (equal_is _ (sym (columns-tied (entries a) (entries b)) ∙ h)))

-- a column that each row has by itself is not found
find-row_columns : (table : Table) (name : List ℕ) → find name_cmp name (row_columns table) ≡ column_of_row table name
find-row_columns table name =
    find-where_key name_cmp (λ n. not (is_own_column n)) name (λ other tied. ap (λ n. not (is_own_column n)) (sym (name_exact name other tied))) (entries table.columns)
    ∙ by (is_own_column name) (sym (get-entries table.columns name))
  where
    by : (b : Bool) → find name_cmp name (entries table.columns) ≡ get table.columns name → cond (not b) (find name_cmp name (entries table.columns)) None ≡ cond b None (get table.columns name)
    by true is = refl
    by false is = is

module _ (from to : Table) (columns : Columns) where
  get-carried_columns : (name : List ℕ) → get (carried_columns from to columns) name ≡ option_map (λ column. carried_value from columns (name, column)) (column_of_row to name)
  get-carried_columns name =
      get-from_entries name_cmp_total (map (λ c. (c.0, carried_value from columns c)) (row_columns to)) name
      ∙ find-anew name_cmp (carried_value from columns) same_name-is name (row_columns to)
      ∙ ap (option_map (λ column. carried_value from columns (name, column))) (find-row_columns to name)

  -- a column of both tables keeps its value
  pub common_value : SuitsTable from columns → (name : List ℕ) → is_some (column_of_row from name) ≡ true → is_some (column_of_row to name) ≡ true
      → get (carried_columns from to columns) name ≡ get columns name
  common_value suits name in_from in_to = get-carried_columns name ∙ by (column_of_row from name) (column_of_row to name) (get columns name) in_from in_to (suits name)
    where
      by : (f t : Option Column) (v : Option Datum) → is_some f ≡ true → is_some t ≡ true → suits_column f v ≡ true
          → option_map (λ column. unwrap_or (option_and_then (λ c. v) f) (default_of column.type_of)) t ≡ v
      by (Some f) (Some t) (Some v) x y z = refl
      by (Some f) (Some t) None x y z = cc
      by (Some f) None v x y z = cc
      by None t v x y z = cc

  -- a row of the same columns is carried over as it is
  pub same_set : SuitsTable from columns → ((name : List ℕ) → is_some (column_of_row from name) ≡ is_some (column_of_row to name)) → carried_columns from to columns ≡ columns
  same_set suits same = same_map name_cmp_total name_exact _ _ (λ name. by name (column_of_row from name) (column_of_row to name) refl refl (get columns name) refl)
    where
      by : (name : List ℕ) (f t : Option Column) → column_of_row from name ≡ f → column_of_row to name ≡ t → (v : Option Datum) → get columns name ≡ v → get (carried_columns from to columns) name ≡ get columns name
      by name (Some f) (Some t) is_f is_t v is_v = common_value suits name (ap is_some is_f) (ap is_some is_t)
      by name None None is_f is_t None is_v = get-carried_columns name ∙ ap (option_map (λ column. carried_value from columns (name, column))) is_t ∙ sym is_v
      by name None None is_f is_t (Some v) is_v =
          let suits_none : suits_column None (Some v) ≡ true = (λ i. suits_column (sym is_f i) (sym is_v i)) ∙ suits name in
          cc
      by name (Some f) None is_f is_t v is_v =
          let differs : true ≡ false = sym (ap is_some is_f) ∙ same name ∙ ap is_some is_t in
          cc
      by name None (Some t) is_f is_t v is_v =
          let differs : false ≡ true = sym (ap is_some is_f) ∙ same name ∙ ap is_some is_t in
          cc

  -- a row that gets or loses a column is another
  pub other_set : SuitsTable from columns → (name : List ℕ) → is_some (column_of_row from name) ≡ not (is_some (column_of_row to name)) → columns ≡ carried_columns from to columns → ⊥
  other_set suits name differ same = by (column_of_row from name) (column_of_row to name) (get columns name) differ (suits name) (ap (λ c. get c name) same ∙ get-carried_columns name)
    where
      by : (f t : Option Column) (v : Option Datum) → is_some f ≡ not (is_some t) → suits_column f v ≡ true → v ≡ option_map (λ column. carried_value from columns (name, column)) t → ⊥
      by (Some f) (Some t) v d s is = cc
      by None None v d s is = cc
      by (Some f) None (Some v) d s is = cc
      by (Some f) None None d s is = cc
      by None (Some t) (Some v) d s is = cc
      by None (Some t) None d s is = cc

-- ---- rows

module _ (old new : Schema) (version : Uuid) (before : Database) where
  abbrev carry_in : Option Table → Option Table → LineKey × Row → Option (LineKey × Row)
  carry_in a b e = option_and_then (λ from. option_map (λ to. carried_row from to version before e) b) a

  -- a row of another key is not found
  passes : (key : LineKey) (e : LineKey × Row) (rest : List (LineKey × Row)) → eq_by_cmp line_cmp key e.0 ≡ false → (a b : Option Table)
      → find line_cmp key (cons_option (carry_in a b e) rest) ≡ find line_cmp key rest
  passes key e rest untied None b = refl
  passes key e rest untied (Some from) None = refl
  passes key e rest untied (Some from) (Some to) = ap (λ b. cond b (Some (carried_row from to version before e).1) (find line_cmp key rest)) untied

  -- a row of a table that both schemas have
  find-carried : (key : LineKey) (from to : Table) → get old.tables key.0 ≡ Some from → get new.tables key.0 ≡ Some to → (es : List (LineKey × Row))
      → find line_cmp key (filter_map (carried_if_kept old new version before) es) ≡ option_map (λ row. row_now before version key (carried_columns from to row.columns)) (find line_cmp key es)
  find-carried key from to is_old is_new [] = refl
  find-carried key from to is_old is_new (e ∷ es) = by (eq_by_cmp line_cmp key e.0) refl (find-carried key from to is_old is_new es)
    where
      rest : List (LineKey × Row)
      rest = filter_map (carried_if_kept old new version before) es

      made : LineKey → Row → Row
      made k row = row_now before version k (carried_columns from to row.columns)

      by : (b : Bool) → eq_by_cmp line_cmp key e.0 ≡ b → find line_cmp key rest ≡ option_map (made key) (find line_cmp key es)
          → find line_cmp key (cons_option (carried_if_kept old new version before e) rest) ≡ option_map (made key) (cond b (Some e.1) (find line_cmp key es))
      by true is later =
          let same : key ≡ e.0 = tied_same key e.0 is in
          let in_old : get old.tables e.0.0 ≡ Some from = ap (λ k. get old.tables k.0) (sym same) ∙ is_old in
          let in_new : get new.tables e.0.0 ≡ Some to = ap (λ k. get new.tables k.0) (sym same) ∙ is_new in
          let kept : carried_if_kept old new version before e ≡ Some (carried_row from to version before e) = rw (in_old, in_new) refl in
          ap (λ o. find line_cmp key (cons_option o rest)) kept
          ∙ ap (λ b. cond b (Some (carried_row from to version before e).1) (find line_cmp key rest)) is
          ∙ ap (λ k. Some (row_now before version k (carried_columns from to e.1.columns))) (sym same)
      by false is later = passes key e rest is (get old.tables e.0.0) (get new.tables e.0.0) ∙ later

  -- a row of a table that the new schema lacks
  find-dropped : (key : LineKey) → get new.tables key.0 ≡ None → (es : List (LineKey × Row)) → find line_cmp key (filter_map (carried_if_kept old new version before) es) ≡ None
  find-dropped key is_new [] = refl
  find-dropped key is_new (e ∷ es) = by (eq_by_cmp line_cmp key e.0) refl (find-dropped key is_new es)
    where
      rest : List (LineKey × Row)
      rest = filter_map (carried_if_kept old new version before) es

      gone : (a : Option Table) → option_and_then (λ from. option_map (λ to. carried_row from to version before e) None) a ≡ None
      gone None = refl
      gone (Some from) = refl

      by : (b : Bool) → eq_by_cmp line_cmp key e.0 ≡ b → find line_cmp key rest ≡ None → find line_cmp key (cons_option (carried_if_kept old new version before e) rest) ≡ None
      by true is later =
          let same : key ≡ e.0 = tied_same key e.0 is in
          let in_new : get new.tables e.0.0 ≡ None = ap (λ k. get new.tables k.0) (sym same) ∙ is_new in
          let dropped : carried_if_kept old new version before e ≡ None = rw in_new (gone (get old.tables e.0.0)) in
          ap (λ o. find line_cmp key (cons_option o rest)) dropped ∙ later
      by false is later = passes key e rest is (get old.tables e.0.0) (get new.tables e.0.0) ∙ later

  pub get-carried : (key : LineKey) (from to : Table) → get old.tables key.0 ≡ Some from → get new.tables key.0 ≡ Some to
      → get (carried old new version before) key ≡ option_map (λ row. row_now before version key (carried_columns from to row.columns)) (get before key)
  get-carried key from to is_old is_new =
      get-from_entries key_total (filter_map (carried_if_kept old new version before) (entries before)) key
      ∙ find-carried key from to is_old is_new (entries before)
      ∙ ap (option_map (λ row. row_now before version key (carried_columns from to row.columns))) (sym (get-entries before key))

  pub get-dropped : (key : LineKey) → get new.tables key.0 ≡ None → get (carried old new version before) key ≡ None
  get-dropped key is_new =
      get-from_entries key_total (filter_map (carried_if_kept old new version before) (entries before)) key ∙ find-dropped key is_new (entries before)

  -- where no row is, none is carried over
  find-none : (key : LineKey) (es : List (LineKey × Row)) → find line_cmp key es ≡ None → find line_cmp key (filter_map (carried_if_kept old new version before) es) ≡ None
  find-none key [] none = refl
  find-none key (e ∷ es) none = by (eq_by_cmp line_cmp key e.0) refl none (find-none key es)
    where
      rest : List (LineKey × Row)
      rest = filter_map (carried_if_kept old new version before) es

      by : (b : Bool) → eq_by_cmp line_cmp key e.0 ≡ b → cond b (Some e.1) (find line_cmp key es) ≡ None → (find line_cmp key es ≡ None → find line_cmp key rest ≡ None)
          → find line_cmp key (cons_option (carried_if_kept old new version before e) rest) ≡ None
      by true is none' later = cc
      by false is none' later = passes key e rest is (get old.tables e.0.0) (get new.tables e.0.0) ∙ later none'

  pub was_there : (key : LineKey) (row : Row) → get (carried old new version before) key ≡ Some row → (former : Row) × (get before key ≡ Some former)
  was_there key row has = by (get before key) refl
    where
      by : (o : Option Row) → get before key ≡ o → (former : Row) × (get before key ≡ Some former)
      by (Some former) is = (former, is)
      by None is =
          let none : None ≡ Some row =
          sym (get-from_entries key_total (filter_map (carried_if_kept old new version before) (entries before)) key ∙ find-none key (entries before) (sym (get-entries before key) ∙ is)) ∙ has in
          cc

  -- a row of a table with the same columns is carried over as it is, with its version
  pub carried_as_it_is : (key : LineKey) (row : Row) (from to : Table) → get before key ≡ Some row → get old.tables key.0 ≡ Some from → get new.tables key.0 ≡ Some to
      → SuitsTable from row.columns → ((name : List ℕ) → is_some (column_of_row from name) ≡ is_some (column_of_row to name)) → get (carried old new version before) key ≡ Some row
  carried_as_it_is key row from to has is_old is_new suits same =
      get-carried key from to is_old is_new
      ∙ ap (option_map (λ r. row_now before version key (carried_columns from to r.columns))) has
      ∙ ap (λ columns. Some (row_now before version key columns)) (same_set from to row.columns suits same)
      ∙ ap Some (row_now-former before version key row has)

  -- a column of both tables keeps its value
  pub carried_common : (key : LineKey) (row : Row) (from to : Table) (name : List ℕ) → get before key ≡ Some row → get old.tables key.0 ≡ Some from → get new.tables key.0 ≡ Some to
      → SuitsTable from row.columns → is_some (column_of_row from name) ≡ true → is_some (column_of_row to name) ≡ true
      → option_and_then (λ r. get r.columns name) (get (carried old new version before) key) ≡ get row.columns name
  carried_common key row from to name has is_old is_new suits in_from in_to =
      ap (option_and_then (λ r. get r.columns name)) (get-carried key from to is_old is_new ∙ ap (option_map (λ r. row_now before version key (carried_columns from to r.columns))) has)
      ∙ common_value from to row.columns suits name in_from in_to

  -- an added column has its default
  pub carried_added : (key : LineKey) (row : Row) (from to : Table) (name : List ℕ) (column : Column) → get before key ≡ Some row → get old.tables key.0 ≡ Some from → get new.tables key.0 ≡ Some to
      → column_of_row from name ≡ None → column_of_row to name ≡ Some column
      → option_and_then (λ r. get r.columns name) (get (carried old new version before) key) ≡ Some (default_of column.type_of)
  carried_added key row from to name column has is_old is_new not_in_from in_to =
      ap (option_and_then (λ r. get r.columns name)) (get-carried key from to is_old is_new ∙ ap (option_map (λ r. row_now before version key (carried_columns from to r.columns))) has)
      ∙ get-carried_columns from to row.columns name
      ∙ ap (option_map (λ c. carried_value from row.columns (name, c))) in_to
      ∙ ap (λ o. Some (unwrap_or (option_and_then (λ c. get row.columns name) o) (default_of column.type_of))) not_in_from

  -- a column that the new table lacks has no value
  pub carried_without : (key : LineKey) (row : Row) (from to : Table) (name : List ℕ) → get before key ≡ Some row → get old.tables key.0 ≡ Some from → get new.tables key.0 ≡ Some to
      → column_of_row to name ≡ None → option_and_then (λ r. get r.columns name) (get (carried old new version before) key) ≡ None
  carried_without key row from to name has is_old is_new not_in_to =
      ap (option_and_then (λ r. get r.columns name)) (get-carried key from to is_old is_new ∙ ap (option_map (λ r. row_now before version key (carried_columns from to r.columns))) has)
      ∙ get-carried_columns from to row.columns name
      ∙ ap (option_map (λ c. carried_value from row.columns (name, c))) not_in_to

  -- a row of a table with another column gets the version of the conversion
  pub carried_anew : (key : LineKey) (row : Row) (from to : Table) (name : List ℕ) → get before key ≡ Some row → get old.tables key.0 ≡ Some from → get new.tables key.0 ≡ Some to
      → SuitsTable from row.columns → is_some (column_of_row from name) ≡ not (is_some (column_of_row to name))
      → option_map (λ r. r.version) (get (carried old new version before) key) ≡ Some version
  carried_anew key row from to name has is_old is_new suits differ =
      ap (option_map (λ r. r.version)) (get-carried key from to is_old is_new ∙ ap (option_map (λ r. row_now before version key (carried_columns from to r.columns))) has)
      ∙ ap (λ o. Some (version_over o version (carried_columns from to row.columns))) has
      ∙ ap (λ b. Some (cond b row.version version)) (others (same_columns (entries row.columns) (entries (carried_columns from to row.columns))) refl)
    where
      others : (b : Bool) → same_columns (entries row.columns) (entries (carried_columns from to row.columns)) ≡ b → b ≡ false
      others true same = absurd (other_set from to row.columns suits name differ (columns-is row.columns (carried_columns from to row.columns) same))
      others false same = refl
