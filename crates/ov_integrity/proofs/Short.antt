-- The rows that are too short after pruning are among those that lost something.
use Rattle.std.proofs.Common.{◌≡◌, ℕ, List, [], ◌∷◌, Bool, true, false, cond, ◌||◌, not, Option, Some, None, option_map, int_lt, pos, refl, sym, ap, ◌∙◌}
use Rattle.std.proofs.lemmas.Bool.{and_parts, or_from}
use Rattle.std.proofs.lemmas.Option.{same_Some}
use Rattle.std.specs.FinMap.{get, entries}
use Rattle.std.specs.List.{list_any}
use Rattle.ov_specs.specs.integrity.Committed.{dangles, pruned_row, pruned}
use Rattle.ov_specs.specs.integrity.Limits.{has_too_few, is_short}
use Rattle.ov_specs.specs.rows.Database.{Columns, Row, Database, same_key}
use Rattle.ov_specs.specs.rows.Lines.{LineKey}
use Rattle.ov_specs.specs.rows.RowNames.{is_own_column}
use Rattle.ov_specs.specs.rows.Suits.{column_of_row, suits_column, SuitsTable, SuitsRow, Suits}
use Rattle.ov_specs.specs.schema.Fitting.{is_between, fits}
use Rattle.ov_specs.specs.schema.Schema.{is_some_and}
use Rattle.ov_specs.specs.schema.SchemaTypes.{ColumnType, Column, Table, Schema, kinds_of}
use Rattle.ov_specs.specs.values.Uuid.{Uuid}
use Rattle.ov_specs.specs.values.Value.{Datum, Atoms, Pairs, is_of, count}
use Rattle.ov_specs.proofs.laws.Names.{EachEntry, each_entry}
use Rattle.ov_specs.proofs.laws.Pruning.{get-pruned, pruned_row-without}
use Rattle.ov_specs.proofs.laws.References.{any_row_is, row_is_any}
use Rattle.ov_integrity.specs.Pruning.{is_short_at, MayDangle}
use Rattle.ov_refs.proofs.SetKeys.{any_at_key}
use Rattle.ov_support.proofs.Keys.{contradicts, same_truth}

-- ---- a row that suits its table is not short

was_not : (b : Bool) → not b ≡ true → b ≡ false
was_not true h = cc
was_not false h = refl

-- what fits a column is not below its minimum
fits-enough : (t : ColumnType) (datum : Datum) → fits t datum ≡ true → int_lt (pos (count datum)) t.min ≡ false
fits-enough t (Atoms s) h = was_not _ (and_parts (not (int_lt (pos (count (Atoms s))) t.min)) _ (and_parts (is_between (Some t.min) t.max (pos (count (Atoms s)))) _ h).0).0
fits-enough t (Pairs m) h = was_not _ (and_parts (not (int_lt (pos (count (Pairs m))) t.min)) _ (and_parts (is_between (Some t.min) t.max (pos (count (Pairs m)))) _ h).0).0

module _ (table : Table) (columns : Columns) (suits : SuitsTable table columns) where
  not_too_few : (name : List ℕ) (datum : Datum) → get columns name ≡ Some datum → has_too_few table (name, datum) ≡ false
  not_too_few name datum has = by (is_own_column name) (get table.columns name) (ap (suits_column (column_of_row table name)) (sym has) ∙ suits name)
    where
      by : (own : Bool) (o : Option Column) → suits_column (cond own None o) (Some datum) ≡ true → is_some_and (λ column. int_lt (pos (count datum)) column.type_of.min) o ≡ false
      by own None h = refl
      by true (Some column) h = cc
      by false (Some column) h = fits-enough column.type_of datum (and_parts (is_of (kinds_of column.type_of) datum) (fits column.type_of datum) h).1

  none_too_few : (es : List (List ℕ × Datum)) → EachEntry (λ name datum. get columns name ≡ Some datum) es → list_any (has_too_few table) es ≡ false
  none_too_few [] each = refl
  none_too_few (e ∷ es) each = or_from (has_too_few table e) (list_any (has_too_few table) es) (not_too_few e.0 e.1 each.0) (none_too_few es each.1)

pub suiting_not_short : (schema : Schema) (key : LineKey) (row : Row) → SuitsRow schema key row → is_short schema (key, row) ≡ false
suiting_not_short schema key row suits =
    ap (is_some_and (λ table. list_any (has_too_few table) (entries row.columns))) suits.named
    ∙ none_too_few suits.table row.columns suits.columns (entries row.columns) (each_entry row.columns)

-- ---- rows that are pruned

-- there is a short row if a row is short at a key of a list
module _ (schema : Schema) (rows : Database) where
  pub short_there : (keys : List LineKey) → list_any (λ key. is_short_at schema key rows) keys ≡ true → list_any (is_short schema) (entries rows) ≡ true
  short_there [] any = cc
  short_there (key ∷ keys) any = by (get rows key) refl any (short_there keys)
    where
      at : (row : Row) → get rows key ≡ Some row → (b : Bool) → is_short schema (key, row) ≡ b → (b || list_any (λ k. is_short_at schema k rows) keys) ≡ true
          → (list_any (λ k. is_short_at schema k rows) keys ≡ true → list_any (is_short schema) (entries rows) ≡ true) → list_any (is_short schema) (entries rows) ≡ true
      at row has true is any later = row_is_any (is_short schema) rows key row has is
      at row has false is any later = later any

      by : (o : Option Row) → get rows key ≡ o → (is_some_and (λ row. is_short schema (key, row)) o || list_any (λ k. is_short_at schema k rows) keys) ≡ true
          → (list_any (λ k. is_short_at schema k rows) keys ≡ true → list_any (is_short schema) (entries rows) ≡ true) → list_any (is_short schema) (entries rows) ≡ true
      by None none any later = later any
      by (Some row) has any later = at row has (is_short schema (key, row)) refl any later

module _ (schema : Schema) (before : Database) (version : Uuid) (rows : Database) (keys : List LineKey) (suits : Suits schema rows) (may : MayDangle schema rows keys) where
  abbrev left : Database
  left = pruned schema before version rows

  -- a short row is one that lost something
  short_was_dangling : (key : LineKey) (row : Row) → get left key ≡ Some row → is_short schema (key, row) ≡ true → list_any (same_key key) keys ≡ true
  short_was_dangling key row has short = by (get rows key) refl (sym (get-pruned schema before version rows key) ∙ has)
    where
      at : (old : Row) → get rows key ≡ Some old → pruned_row schema before version rows (key, old) ≡ row → (b : Bool) → dangles schema rows (key, old) ≡ b → list_any (same_key key) keys ≡ true
      at old was made true is = may key old was is
      at old was made false is =
          let same : old ≡ row = sym (pruned_row-without schema before version rows (key, old) is) ∙ made in
          absurd (contradicts (is_short schema (key, row)) short (ap (λ r. is_short schema (key, r)) (sym same) ∙ suiting_not_short schema key old (suits key old was)))

      by : (o : Option Row) → get rows key ≡ o → option_map (λ r. pruned_row schema before version rows (key, r)) o ≡ Some row → list_any (same_key key) keys ≡ true
      by None was made = cc
      by (Some old) was made = at old was (same_Some _ row made) (dangles schema rows (key, old)) refl

  -- so only those rows need to be asked
  pub short_follows : list_any (is_short schema) (entries left) ≡ list_any (λ key. is_short_at schema key left) keys
  short_follows = same_truth (list_any (is_short schema) (entries left)) (list_any (λ key. is_short_at schema key left) keys) here (short_there schema left keys)
    where
      here : list_any (is_short schema) (entries left) ≡ true → list_any (λ key. is_short_at schema key left) keys ≡ true
      here any =
          let found = any_row_is (is_short schema) left any in
          any_at_key (λ key. is_short_at schema key left) found.0 keys (short_was_dangling found.0 found.1 found.2 found.3)
          (ap (is_some_and (λ row. is_short schema (found.0, row))) found.2 ∙ found.3)
