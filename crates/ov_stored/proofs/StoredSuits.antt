-- The row that a body is, is a row of the schema.
use Rattle.std.proofs.Common.{◌≡◌, ℕ, List, [], ◌∷◌, Bool, true, false, cond, ◌||◌, Option, Some, None, option_map, option_and_then, refl, sym, ap, subst, ◌∙◌}
use Rattle.std.specs.Prelude.{Ok}
use Rattle.std.proofs.lemmas.Bool.{and_from}
use Rattle.std.proofs.lemmas.Option.{same_Some}
use Rattle.std.specs.FinMap.{empty, get, insert, entries, contains_key}
use Rattle.serde_json.specs.Data.{Data}
use Rattle.ov_specs.specs.rows.RowNames.{is_own_column}
use Rattle.ov_specs.specs.rows.Database.{Columns, Row}
use Rattle.ov_specs.specs.rows.Held.{Body, columns_stored, if_fits, is_stored_as, row_if_stored, row_of_body, tree_stored, value_held}
use Rattle.ov_specs.specs.rows.Lines.{LineKey}
use Rattle.ov_specs.specs.rows.Suits.{is_value_for, SuitsTable, SuitsRow}
use Rattle.ov_specs.specs.schema.Fitting.{fits}
use Rattle.ov_specs.specs.schema.SchemaTypes.{Column, Table, Schema, kinds_of}
use Rattle.ov_specs.specs.values.Reading.{Reading, Reads, Unreadable, Clashing, reads}
use Rattle.ov_specs.specs.values.Uuid.{is_uuid, no_names}
use Rattle.ov_specs.specs.values.Value.{Datum, is_of}
use Rattle.ov_specs.proofs.laws.Names.{each_entry}
use Rattle.ov_specs.proofs.laws.OfKinds.{reads_is_of}
use Rattle.ov_specs.proofs.laws.SuitingColumns.{no_uuids, IsGiven, column_is, SuitsSoFar, none_suits, one_more_suits, Completes, passed, added, StandIn, complete_suits}
use Rattle.ov_stored.specs.Stored.{RowBody, named_datum, row_stored}
use Rattle.ov_stored.proofs.BodyRows.{added_by, columns_added, row_stored-is}

-- ---- one value

fitting_suits : (column : Column) (v datum : Datum) (b : Bool) → is_of (kinds_of column.type_of) v ≡ true → fits column.type_of v ≡ b → cond b (Some v) None ≡ Some datum → is_value_for column datum ≡ true
fitting_suits column v datum true of is h = subst (λ (d : Datum). is_value_for column d ≡ true) (same_Some v datum h) (and_from (is_of (kinds_of column.type_of) v) (fits column.type_of v) of is)
fitting_suits column v datum false of is h = cc

stored_value_suits : (body : Body) (c : List ℕ × Column) (datum : Datum) → value_held body c ≡ Some (c.0, datum) → is_value_for c.1 datum ≡ true
stored_value_suits body c datum h = by_member (tree_stored body c.0) (without_name _ h)
  where
    without_name : (o : Option Datum) → option_map (named_datum c.0) o ≡ Some (c.0, datum) → o ≡ Some datum
    without_name None k = cc
    without_name (Some v) k = ap (λ (value : List ℕ × Datum). Some value.1) (same_Some (c.0, v) (c.0, datum) k)

    by_reading : (d : Data) (r : Reading Datum) → reads no_names (kinds_of c.1.type_of) d ≡ r → if_fits c.1 r ≡ Some datum → is_value_for c.1 datum ≡ true
    by_reading d Unreadable is k = cc
    by_reading d Clashing is k = cc
    by_reading d (Reads v) is k = fitting_suits c.1 v datum (fits c.1.type_of v) (reads_is_of no_names no_uuids (kinds_of c.1.type_of) d v is) refl k

    by_member : (o : Option Data) → option_and_then (λ d. if_fits c.1 (reads no_names (kinds_of c.1.type_of) d)) o ≡ Some datum → is_value_for c.1 datum ≡ true
    by_member None k = cc
    by_member (Some d) k = by_reading d (reads no_names (kinds_of c.1.type_of) d) refl k

-- ---- all columns

module _ (table : Table) (body : Body) where
  one_column : (c : List ℕ × Column) (cs : List (List ℕ × Column)) (before after : Columns) → get table.columns c.0 ≡ Some c.1 → SuitsSoFar table before → added_by body (c ∷ cs) before ≡ Some after
      → ((more : Columns) → SuitsSoFar table more → added_by body cs more ≡ Some after → Completes table cs more after) → Completes table (c ∷ cs) before after
  one_column c cs before after stands suits h next = by (is_own_column c.0) refl h
    where
      by_value : (o : Option Datum) → is_own_column c.0 ≡ false → value_held body c ≡ option_map (named_datum c.0) o
          → option_and_then (λ v. added_by body cs (insert before v.0 v.1)) (option_map (named_datum c.0) o) ≡ Some after → Completes table (c ∷ cs) before after
      by_value None own is k = cc
      by_value (Some datum) own is k =
          let given : IsGiven table c.0 datum = (c.1, column_is table c.0 c.1 own stands, stored_value_suits body c datum is) in
          added table c cs before datum (Ok after) (next (insert before c.0 datum) (one_more_suits table before c.0 datum given suits) k)

      by : (b : Bool) → is_own_column c.0 ≡ b → cond b (added_by body cs before) (option_and_then (λ v. added_by body cs (insert before v.0 v.1)) (value_held body c)) ≡ Some after
          → Completes table (c ∷ cs) before after
      by true own k = passed table c cs before (Ok after) (ap (λ b. b || contains_key before c.0) own) (next before suits k)
      by false own k = by_value _ own refl k

  columns_complete : (cs : List (List ℕ × Column)) (before after : Columns) → StandIn table cs → SuitsSoFar table before → added_by body cs before ≡ Some after → Completes table cs before after
  columns_complete [] before after stand suits h =
      subst (λ (columns : Columns). Completes table [] before columns) (same_Some before after h) (record { suits = suits; stays = λ name there. there; has = λ name column own found. cc })
  columns_complete (c ∷ cs) before after stand suits h = one_column c cs before after stand.0 suits h (λ more suits' k. columns_complete cs more after stand.1 suits' k)

  pub stored_columns_suit : (columns : Columns) → columns_stored body table ≡ Some columns → SuitsTable table columns
  stored_columns_suit columns h = complete_suits table empty columns (columns_complete (entries table.columns) empty columns (each_entry table.columns) (none_suits table) (sym (columns_added body table) ∙ h))

-- ---- a row

-- a row of the table under the version that is stored
abbrev IsOfTable : Table → RowBody → Row → Type 0
IsOfTable table stored row = (row.version ≡ stored.0) × SuitsTable table row.columns

row_of_body_suits : (table : Table) (stored : RowBody) (row : Row) → row_of_body table stored.0 stored.1 ≡ Some row → IsOfTable table stored row
row_of_body_suits table stored row h = by_columns (columns_stored stored.1 table) refl h
  where
    by_test : (columns : Columns) (b : Bool) → SuitsTable table columns → cond b (Some (record { version = stored.0; columns = columns })) None ≡ Some row → IsOfTable table stored row
    by_test columns true suits k =
        let same = same_Some (record { version = stored.0; columns = columns }) row k in
        subst (IsOfTable table stored) same (refl, suits)
    by_test columns false suits k = cc

    by_columns : (o : Option Columns) → columns_stored stored.1 table ≡ o → option_and_then (row_if_stored stored.0 stored.1) o ≡ Some row → IsOfTable table stored row
    by_columns None is k = cc
    by_columns (Some columns) is k = by_test columns (is_stored_as columns stored.1) (stored_columns_suit table stored.1 columns is) k

-- what is stored under identifiers is a row of the schema
pub stored_row_suits : (schema : Schema) (key : LineKey) (stored : RowBody) (row : Row) → is_uuid key.1 ≡ true → is_uuid stored.0 ≡ true → row_stored schema key stored ≡ Some row → SuitsRow schema key row
stored_row_suits schema key stored row id version h = by (get schema.tables key.0) refl (sym (row_stored-is schema key stored) ∙ h)
  where
    by : (o : Option Table) → get schema.tables key.0 ≡ o → option_and_then (λ table. row_of_body table stored.0 stored.1) o ≡ Some row → SuitsRow schema key row
    by None is k = cc
    by (Some table) is k =
        let of = row_of_body_suits table stored row k in
        record { table = table; named = is; id = id; version = ap is_uuid of.0 ∙ version; columns = of.1 }
