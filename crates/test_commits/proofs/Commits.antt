-- What a commit makes of changed rows, as a database takes it.
use Rattle.std.proofs.Common.{◌≡◌, true, Ok, Some, ap, ◌∙◌}
use Rattle.std.specs.FinMap.{get, insert}
use Rattle.ov_specs.specs.integrity.Committed.{committed, is_whole}
use Rattle.ov_specs.specs.rows.Database.{Database, Row}
use Rattle.ov_specs.specs.rows.Lines.{LineKey}
use Rattle.ov_specs.specs.rows.Suits.{Suits}
use Rattle.ov_specs.specs.rows.Version.{row_now}
use Rattle.ov_specs.specs.schema.Schema.{IsAccepted}
use Rattle.ov_specs.specs.schema.SchemaTypes.{Schema}
use Rattle.ov_specs.specs.values.Uuid.{Uuid, is_uuid}
use Rattle.ov_specs.proofs.laws.Committing.{committed_suits, committed_whole}
use Rattle.ov_specs.proofs.laws.FoundRows.{row_suits}
use Rattle.ov_specs.proofs.laws.MixedPairs.{accepted_is_not_mixed}
use Rattle.ov_specs.proofs.laws.Suiting.{one_row_suits}
use Rattle.ov_stored.specs.Changing.{Delta, applied, SuitsChanges}
use Rattle.ov_stored.specs.Stored.{RowBody, row_stored}
use Rattle.ov_stored.proofs.Places.{or_before, get-applied}
use Rattle.ov_stored.proofs.StoredSuits.{stored_row_suits}

-- a row that is stored is put
pub put_suits : (schema : Schema) (before : Database) (key : LineKey) (stored : RowBody) (row : Row) → Suits schema before → is_uuid key.1 ≡ true → is_uuid stored.0 ≡ true → row_stored schema key stored ≡ Some row
    → Suits schema (insert before key (row_now before stored.0 key row.columns))
put_suits schema before key stored row all id version is =
    let suits = stored_row_suits schema key stored row id version is in
    one_row_suits schema before key (row_now before stored.0 key row.columns)
    (row_suits schema before stored.0 suits.table key row.columns all version (record { named = suits.named; id = suits.id; suits = suits.columns })) all

-- the changes lead to what is committed
module _ (schema : Schema) (before : Database) (version : Uuid) (rows : Database) (delta : Delta) (is : committed schema before version rows ≡ Ok (applied delta before)) where
  pub finished_suits : Suits schema before → is_uuid version ≡ true → Suits schema rows → SuitsChanges schema delta
  finished_suits all is_version suits key row h =
      committed_suits schema before version rows (applied delta before) all is_version suits is key row (get-applied delta before key ∙ ap (λ o. or_before o (get before key)) h)

  pub finished_whole : IsAccepted schema → is_whole schema (applied delta before) ≡ true
  finished_whole accepted = committed_whole schema before version rows (applied delta before) (accepted_is_not_mixed schema.tree schema accepted.is) is
