-- Rows that a commit leaves as they are, and read back, are opened as they are.
use Rattle.std.proofs.Common.{◌≡◌, true, cond, Option, Some, None, option_map, refl, sym, ap, subst, ◌∙◌}
use mathlib.Core.Logic.{◌⊎◌, inl, inr}
use Rattle.std.specs.Prelude.{Ok, Err}
use Rattle.std.proofs.lemmas.Option.{same_Some}
use Rattle.std.specs.FinMap.{get}
use Rattle.ov_specs.specs.conversion.Converted.{Broken, if_held, opened, stored_of}
use Rattle.ov_specs.specs.integrity.Committed.{is_whole}
use Rattle.ov_specs.specs.rows.Cells.{CellLine, InCells, Stored, cell_line_of, cell_lines_of}
use Rattle.ov_specs.specs.rows.Database.{Database, Row}
use Rattle.ov_specs.specs.rows.Held.{OfCells}
use Rattle.ov_specs.specs.rows.Lines.{LineKey}
use Rattle.ov_specs.specs.schema.SchemaTypes.{Schema}
use Rattle.ov_stored.specs.Stored.{KeepsRows, row_stored}
use Rattle.ov_stored.proofs.CellMaps.{get-cell_lines_of}
use Rattle.ov_stored.proofs.Loads.{rows_held, stored_under}
use Rattle.ov_db.specs.Committing.{AreKept, IsHeld, MayBeHeld, MayFindRows}
use Rattle.ov_db.specs.Opening.{open_of}
use Rattle.ov_db.proofs.Answers.{own_opens}

-- ---- what an open may find

-- rows that read back and are whole are opened from what is stored of them
pub kept_opens : (schema : Schema) (database : Database) → KeepsRows schema database → is_whole schema database ≡ true → open_of schema (stored_of schema database) ≡ Ok database
kept_opens schema database kept whole =
    own_opens schema None (stored_of schema database) refl ∙ ap (λ o. if_held o (opened schema)) (rows_held schema (InCells (cell_lines_of database)) database are)
    ∙ ap (λ b. cond b (Ok database) (Err Broken)) whole
  where
    by : (key : LineKey) (o : Option Row) → get database key ≡ o → option_map Some o ≡ option_map (row_stored schema key) (option_map (λ l. (l.0, OfCells l.1)) (option_map cell_line_of o))
    by key None is = refl
    by key (Some row) is = ap Some (sym (kept.read_back key row is))

    are : (key : LineKey) → option_map Some (get database key) ≡ option_map (row_stored schema key) (stored_under (InCells (cell_lines_of database)) key)
    are key = by key (get database key) refl ∙ ap (λ (o : Option CellLine). option_map (row_stored schema key) (option_map (λ l. (l.0, OfCells l.1)) o)) (sym (get-cell_lines_of database key))

pub found_rows : (leaves : Stored → Type 0) (schema : Schema) (committed : Database) (sealed : Option Database) → MayBeHeld leaves schema committed sealed → AreKept schema committed sealed → MayFindRows leaves schema committed sealed
found_rows leaves schema committed sealed may kept held left = by (may held left)
  where
    by : IsHeld schema committed sealed held → (open_of schema held ≡ Ok committed) ⊎ ((database : Database) × (sealed ≡ Some database) × (open_of schema held ≡ Ok database))
    by (inl is) = inl (ap (open_of schema) is ∙ kept_opens schema committed kept.committed_kept kept.committed_whole)
    by (inr (database, failed, is)) = inr (database, failed, ap (open_of schema) is ∙ kept_opens schema database (kept.sealed_kept database failed) (kept.sealed_whole database failed))

-- ---- what a step of a function shows

pub sealed_none : (schema : Schema) (committed : Database) → KeepsRows schema committed → is_whole schema committed ≡ true → AreKept schema committed None
sealed_none schema committed kept whole = record {
  committed_kept = kept;
  committed_whole = whole;
  sealed_kept = λ database is. absurd (no database is);
  sealed_whole = λ database is. absurd (no database is);
}
  where
    no : (database : Database) → None ≡ Some database → ⊥
    no database e = cc

pub sealed_some : (schema : Schema) (committed failed : Database) → KeepsRows schema committed → is_whole schema committed ≡ true → KeepsRows schema failed → is_whole schema failed ≡ true
    → AreKept schema committed (Some failed)
sealed_some schema committed failed kept whole left left_whole = record {
  committed_kept = kept;
  committed_whole = whole;
  sealed_kept = λ database is. subst (KeepsRows schema) (same_Some failed database is) left;
  sealed_whole = λ database is. subst (λ (d : Database). is_whole schema d ≡ true) (same_Some failed database is) left_whole;
}
