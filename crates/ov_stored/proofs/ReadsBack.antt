-- The cells of a row of the schema read back as the row.
use Rattle.std.proofs.Common.{◌≡◌, ℕ, List, [], ◌∷◌, Bool, true, false, cond, ◌&&◌, Option, Some, None, option_map, option_and_then, is_some, refl, sym, ap, ◌∙◌}
use Rattle.std.specs.Prelude.{not}
use Rattle.std.proofs.lemmas.Bool.{and_parts}
use Rattle.std.specs.FinMap.{empty, get, insert, entries, find, same_map, get-empty, get-insert, get-entries}
use Rattle.ov_specs.specs.rows.RowNames.{is_own_column}
use Rattle.ov_specs.specs.values.Uuid.{Uuid, no_names}
use Rattle.ov_specs.specs.rows.Cells.{cell_body, cells_of}
use Rattle.ov_specs.specs.rows.Database.{Columns, Row}
use Rattle.ov_specs.specs.rows.Held.{Body, OfCells, columns_stored, if_fits, is_stored_as, row_if_stored, row_of_body, tree_stored, value_held}
use Rattle.ov_specs.specs.rows.Lines.{LineKey}
use Rattle.ov_specs.specs.rows.Suits.{is_value_for, column_of_row, suits_column, SuitsTable, SuitsRow}
use Rattle.ov_specs.specs.schema.Fitting.{fits}
use Rattle.ov_specs.specs.schema.SchemaTypes.{Column, Table, Schema, kinds_of, name_cmp}
use Rattle.ov_specs.specs.values.Reading.{reads}
use Rattle.ov_specs.specs.values.Value.{Datum, Kinds, is_of}
use Rattle.ov_specs.specs.values.Writing.{tree}
use Rattle.ov_specs.proofs.laws.Names.{name_cmp_total, name_exact, same_name, same_name-is, EachEntry, each_entry}
use Rattle.ov_specs.proofs.laws.ReadingBack.{reads-tree}
use Rattle.ov_rows.specs.Body.{AreOfKinds}
use Rattle.ov_specs.specs.wire.Message.{tree_of}
use Rattle.ov_stored.specs.Stored.{AreCellsRead, row_cells, row_stored}
use Rattle.ov_stored.proofs.BodyRows.{added_by, columns_added, row_stored-is}
use Rattle.ov_stored.proofs.CellMaps.{are_stored, get-cells_of}

-- ---- one value

-- there is a value, and it is one for the column
given : (column : Column) (o : Option Datum) → suits_column (Some column) o ≡ true → (datum : Datum) × (o ≡ Some datum) × (is_value_for column datum ≡ true)
given column None h = cc
given column (Some datum) h = (datum, refl, h)

fits_it : (column : Column) (datum : Datum) → is_value_for column datum ≡ true → if_fits column (reads no_names (kinds_of column.type_of) (tree datum)) ≡ Some datum
fits_it column datum h =
    let parts = and_parts (is_of (kinds_of column.type_of) datum) (fits column.type_of datum) h in
    ap (if_fits column) (reads-tree no_names (kinds_of column.type_of) datum parts.0) ∙ ap (λ b. cond b (Some datum) None) parts.1

module _ (table : Table) (columns : Columns) (suits : SuitsTable table columns) (body : Body) (holds : (name : List ℕ) (datum : Datum) → get columns name ≡ Some datum → tree_stored body name ≡ Some (tree datum)) where
  -- the body has the row's value for the column
  value_is_stored : (name : List ℕ) (column : Column) → is_own_column name ≡ false → get table.columns name ≡ Some column → (datum : Datum) × (get columns name ≡ Some datum) × (value_held body (name, column) ≡ Some (name, datum))
  value_is_stored name column own is =
      let at : column_of_row table name ≡ Some column = ap (λ b. cond b None (get table.columns name)) own ∙ is in
      let value = given column (get columns name) (sym (ap (λ c. suits_column c (get columns name)) at) ∙ suits name) in
      let member : tree_stored body name ≡ Some (tree value.0) = holds name value.0 value.1 in
      let fits : option_and_then (λ d. if_fits column (reads no_names (kinds_of column.type_of) d)) (tree_stored body name) ≡ Some value.0 =
      ap (option_and_then (λ d. if_fits column (reads no_names (kinds_of column.type_of) d))) member ∙ fits_it column value.0 value.2 in
      (value.0, value.1, ap (option_map (λ datum. (name, datum))) fits)

  -- ---- all columns

  -- the name is that of one of these columns, but of no own one
  abbrev taken : List ℕ → List (List ℕ × Column) → Bool
  taken name cs = not (is_own_column name) && is_some (find name_cmp name cs)

  -- the row's values at these columns, and those from before at others
  abbrev Adds : List (List ℕ × Column) → Columns → Columns → Type 0
  Adds cs before after = (name : List ℕ) → get after name ≡ cond (taken name cs) (get columns name) (get before name)

  passed_over : (c : List ℕ × Column) (cs : List (List ℕ × Column)) (before after : Columns) → is_own_column c.0 ≡ true → Adds cs before after → Adds (c ∷ cs) before after
  passed_over c cs before after own adds name = adds name ∙ ap (λ b. cond b (get columns name) (get before name)) (by (same_name name c.0) refl)
    where
      none_taken : (b d : Bool) → b ≡ true → (not b && d) ≡ false
      none_taken true d h = refl
      none_taken false d h = cc

      by : (b : Bool) → same_name name c.0 ≡ b → taken name cs ≡ (not (is_own_column name) && is_some (cond b (Some c.1) (find name_cmp name cs)))
      by true is =
          let own' : is_own_column name ≡ true = ap is_own_column (same_name-is name c.0 is) ∙ own in
          none_taken (is_own_column name) _ own' ∙ sym (none_taken (is_own_column name) _ own')
      by false is = refl

  added : (c : List ℕ × Column) (cs : List (List ℕ × Column)) (before after : Columns) (datum : Datum) → is_own_column c.0 ≡ false → get columns c.0 ≡ Some datum → Adds cs (insert before c.0 datum) after → Adds (c ∷ cs) before after
  added c cs before after datum own value adds name =
      adds name ∙ ap (cond (taken name cs) (get columns name)) (get-insert name_cmp_total before c.0 datum name) ∙ by (same_name name c.0) refl
    where
      either : (b : Bool) (x y : Option Datum) → x ≡ y → cond b x y ≡ x
      either true x y h = refl
      either false x y h = sym h

      is_taken : (b : Bool) → b ≡ false → (not b && true) ≡ true
      is_taken true h = cc
      is_taken false h = refl

      by : (b : Bool) → same_name name c.0 ≡ b → cond (taken name cs) (get columns name) (cond b (Some datum) (get before name))
          ≡ cond (not (is_own_column name) && is_some (cond b (Some c.1) (find name_cmp name cs))) (get columns name) (get before name)
      by true is =
          let at : name ≡ c.0 = same_name-is name c.0 is in
          either (taken name cs) (get columns name) (Some datum) (ap (get columns) at ∙ value)
          ∙ sym (ap (λ b. cond b (get columns name) (get before name)) (is_taken (is_own_column name) (ap is_own_column at ∙ own)))
      by false is = refl

  abbrev Stored : List (List ℕ × Column) → Columns → Type 0
  Stored cs before = (after : Columns) × (added_by body cs before ≡ Some after) × Adds cs before after

  one_stored : (c : List ℕ × Column) (cs : List (List ℕ × Column)) (before : Columns) → get table.columns c.0 ≡ Some c.1 → ((more : Columns) → Stored cs more) → Stored (c ∷ cs) before
  one_stored c cs before stands next = by (is_own_column c.0) refl
    where
      by : (b : Bool) → is_own_column c.0 ≡ b
          → (after : Columns) × (cond b (added_by body cs before) (option_and_then (λ v. added_by body cs (insert before v.0 v.1)) (value_held body c)) ≡ Some after) × Adds (c ∷ cs) before after
      by true own = let rest = next before in (rest.0, rest.1, passed_over c cs before rest.0 own rest.2)
      by false own =
          let value = value_is_stored c.0 c.1 own stands in
          let rest = next (insert before c.0 value.0) in
          (rest.0, ap (option_and_then (λ v. added_by body cs (insert before v.0 v.1))) value.2 ∙ rest.1, added c cs before rest.0 value.0 own value.1 rest.2)

  stored : (cs : List (List ℕ × Column)) (before : Columns) → EachEntry (λ name column. get table.columns name ≡ Some column) cs → Stored cs before
  stored [] before stand = (before, refl, λ name. others name (is_own_column name))
    where
      others : (name : List ℕ) (own : Bool) → get before name ≡ cond (not own && false) (get columns name) (get before name)
      others name true = refl
      others name false = refl
  stored (c ∷ cs) before stand = one_stored c cs before stand.0 (λ more. stored cs more stand.1)

  nothing_else : (o : Option Column) (d : Option Datum) → suits_column o d ≡ true → o ≡ None → d ≡ None
  nothing_else None None h e = refl
  nothing_else None (Some datum) h e = cc
  nothing_else (Some column) d h e = cc

  -- the columns that the body gives are the row's
  pub columns_are_stored : columns_stored body table ≡ Some columns
  columns_are_stored =
      let all = stored (entries table.columns) empty (each_entry table.columns) in
      columns_added body table ∙ all.1 ∙ ap Some (same_map name_cmp_total name_exact all.0 columns (λ name.
      all.2 name ∙ ap (λ o. cond (not (is_own_column name) && is_some o) (get columns name) (get (empty {K = List ℕ} {X = Datum} {R = name_cmp}) name)) (sym (get-entries table.columns name))
      ∙ ap (cond (not (is_own_column name) && is_some (get table.columns name)) (get columns name)) (get-empty name_cmp name)
      ∙ by name (is_own_column name) (get table.columns name) refl refl))
    where
      by : (name : List ℕ) (own : Bool) (o : Option Column) → is_own_column name ≡ own → get table.columns name ≡ o → cond (not own && is_some o) (get columns name) None ≡ get columns name
      by name false (Some column) own is = refl
      by name true o own is = sym (nothing_else (column_of_row table name) (get columns name) (suits name) (ap (λ b. cond b None (get table.columns name)) own))
      by name false None own is = sym (nothing_else (column_of_row table name) (get columns name) (suits name) (ap (λ b. cond b None (get table.columns name)) own ∙ is))

-- ---- a row

pub values_of_kinds : (table : Table) (columns : Columns) → SuitsTable table columns → AreOfKinds columns
values_of_kinds table columns suits name datum is = by (column_of_row table name) (sym (ap (suits_column (column_of_row table name)) is) ∙ suits name)
  where
    by : (o : Option Column) → suits_column o (Some datum) ≡ true → (kinds : Kinds) × (is_of kinds datum ≡ true)
    by None h = cc
    by (Some column) h = (kinds_of column.type_of, (and_parts (is_of (kinds_of column.type_of) datum) (fits column.type_of datum) h).0)

-- a row of a table, stored as its columns are
pub row_is_stored : (table : Table) (version : Uuid) (columns : Columns) (body : Body) → SuitsTable table columns → ((name : List ℕ) (datum : Datum) → get columns name ≡ Some datum → tree_stored body name ≡ Some (tree datum))
    → is_stored_as columns body ≡ true → row_of_body table version body ≡ Some (record { version = version; columns = columns })
row_is_stored table version columns body suits holds exact =
    ap (option_and_then (row_if_stored version body)) (columns_are_stored table columns suits body holds) ∙ ap (λ b. cond b (Some row) None) exact
  where
    row : Row
    row = record { version = version; columns = columns }

-- a row of a table, stored as its cells, if these read back as written
pub cells_are_stored : (table : Table) (version : Uuid) (columns : Columns) → SuitsTable table columns → AreCellsRead columns
    → row_of_body table version (OfCells (cells_of columns)) ≡ Some (record { version = version; columns = columns })
cells_are_stored table version columns suits read = row_is_stored table version columns body suits holds (are_stored columns)
  where
    body : Body
    body = OfCells (cells_of columns)

    holds : (name : List ℕ) (datum : Datum) → get columns name ≡ Some datum → tree_stored body name ≡ Some (tree datum)
    holds name datum is =
        let of = values_of_kinds table columns suits name datum is in
        ap (option_and_then tree_of) (get-cells_of columns name ∙ ap (option_map cell_body) is) ∙ (read name datum is).reads of.0 of.1

-- if its cells read back as written, they read back as the row
pub reads_back : (schema : Schema) (key : LineKey) (row : Row) → SuitsRow schema key row → AreCellsRead row.columns → row_stored schema key (row_cells row) ≡ Some row
reads_back schema key row suits read =
    row_stored-is schema key (row_cells row) ∙ ap (option_and_then (λ (table : Table). row_of_body table row.version (OfCells (cells_of row.columns)))) suits.named
    ∙ cells_are_stored suits.table row.version row.columns suits.columns read
