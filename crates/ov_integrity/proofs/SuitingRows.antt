-- A row that is pruned is still one of the schema, unless a value of it is too short.
use Rattle.std.proofs.Common.{◌≡◌, true, false, Some, sym, subst, ◌∙◌}
use Rattle.std.proofs.lemmas.Option.{same_Some}
use Rattle.std.specs.FinMap.{get, insert, entries}
use Rattle.std.specs.List.{list_any}
use Rattle.ov_specs.specs.integrity.Committed.{pruned_columns}
use Rattle.ov_specs.specs.integrity.Limits.{has_too_few}
use Rattle.ov_specs.specs.rows.Database.{Row, Database}
use Rattle.ov_specs.specs.rows.Lines.{LineKey}
use Rattle.ov_specs.specs.rows.Suits.{SuitsTable, SuitsRow, Suits}
use Rattle.ov_specs.specs.rows.Version.{row_now}
use Rattle.ov_specs.specs.schema.SchemaTypes.{Table, Schema}
use Rattle.ov_specs.specs.values.Uuid.{Uuid, is_uuid}
use Rattle.ov_specs.proofs.laws.Pruning.{pruned_columns_suit}
use Rattle.ov_specs.proofs.laws.Suiting.{one_row_suits, version_suits}

module _ (schema : Schema) (before rows : Database) (version : Uuid) (key : LineKey) (table : Table) (row : Row) where
  pub pruned_row_suits : get schema.tables key.0 ≡ Some table → get rows key ≡ Some row → is_uuid version ≡ true → ((former : Row) → get before key ≡ Some former → is_uuid former.version ≡ true)
      → list_any (has_too_few table) (entries (pruned_columns rows (Some table) row.columns)) ≡ false → Suits schema rows
      → Suits schema (insert rows key (row_now before version key (pruned_columns rows (Some table) row.columns)))
  pruned_row_suits named has is_version is_former enough suits =
      let one : SuitsRow schema key row = suits key row has in
      let same : one.table ≡ table = same_Some one.table table (sym one.named ∙ named) in
      let columns : SuitsTable table row.columns = subst (λ (t : Table). SuitsTable t row.columns) same one.columns in
      one_row_suits schema rows key (row_now before version key (pruned_columns rows (Some table) row.columns)) (record {
        table = table;
        named = named;
        id = one.id;
        version = version_suits (get before key) version (pruned_columns rows (Some table) row.columns) is_version is_former;
        columns = pruned_columns_suit rows table row.columns columns enough;
      }) suits
