-- Rows of the schema that read back stay so, row by row and change by change.
use Rattle.std.proofs.Common.{◌≡◌, [], ◌∷◌, Bool, true, false, cond, Option, Some, None, refl, sym, ap, subst, ◌∙◌}
use Rattle.std.proofs.lemmas.Option.{same_Some}
use Rattle.std.specs.FinMap.{empty, get, insert, get-empty, get-insert, get-entries, entries, find}
use Rattle.ov_specs.specs.rows.Cells.{CellLine}
use Rattle.ov_specs.specs.rows.Database.{Database, Row}
use Rattle.ov_specs.specs.rows.Held.{OfCells}
use Rattle.ov_specs.specs.rows.Lines.{LineKey, line_cmp}
use Rattle.ov_specs.specs.rows.Suits.{SuitsRow}
use Rattle.ov_specs.specs.schema.SchemaTypes.{Schema}
use Rattle.ov_specs.specs.values.Uuid.{is_uuid}
use Rattle.ov_specs.proofs.laws.LineKeys.{key_total, tied_same}
use Rattle.ov_specs.proofs.laws.Suiting.{no_row_suits, one_row_suits}
use Rattle.ov_stored.specs.Changing.{Delta, applied, SuitsChanges}
use Rattle.ov_stored.specs.Stored.{AreCellsRead, ArePutRead, IsPutRead, KeepsRows, row_cells, row_stored}
use Rattle.ov_stored.proofs.Added.{same}
use Rattle.ov_stored.proofs.Loads.{cells_of_stored}
use Rattle.ov_stored.proofs.Places.{Changes, or_before, get-applied}
use Rattle.ov_stored.proofs.ReadsBack.{reads_back}
use Rattle.ov_stored.proofs.StoredSuits.{stored_row_suits}

-- ---- rows that are loaded

pub no_row_kept : (schema : Schema) → KeepsRows schema empty
no_row_kept schema = record { suits = no_row_suits schema; read_back = λ key row h. absurd (no key row h) }
  where
    none : (row : Row) → None ≡ Some row → ⊥
    none row e = cc

    no : (key : LineKey) (row : Row) → get (empty {K = LineKey} {X = Row} {R = line_cmp}) key ≡ Some row → ⊥
    no key row h = none row (sym (get-empty line_cmp key) ∙ h)

-- one row more, as its cells are read
pub one_row_kept : (schema : Schema) (rows : Database) (key : LineKey) (line : CellLine) (row : Row) → is_uuid key.1 ≡ true → is_uuid line.0 ≡ true → row_stored schema key (line.0, OfCells line.1) ≡ Some row
    → KeepsRows schema rows → KeepsRows schema (insert rows key row)
one_row_kept schema rows key line row id version is kept = record {
  suits = one_row_suits schema rows key row (stored_row_suits schema key (line.0, OfCells line.1) row id version is) kept.suits;
  read_back = λ q r h. by q r (same q key) refl (sym (get-insert key_total rows key row q) ∙ h);
}
  where
    here : row_stored schema key (row_cells row) ≡ Some row
    here = ap (λ (l : CellLine). row_stored schema key (l.0, OfCells l.1)) (cells_of_stored schema key line row is) ∙ is

    by : (q : LineKey) (r : Row) (b : Bool) → same q key ≡ b → cond b (Some row) (get rows q) ≡ Some r → row_stored schema q (row_cells r) ≡ Some r
    by q r true tied k = subst (λ (p : LineKey × Row). row_stored schema p.0 (row_cells p.1) ≡ Some p.1) (λ i. (sym (tied_same q key tied) i, same_Some row r k i)) here
    by q r false tied k = kept.read_back q r k

-- ---- rows that are changed

-- what is put at a key is one of what is put
pub put_read : (changes : Changes) (key : LineKey) (row : Row) → ArePutRead changes → find line_cmp key changes ≡ Some (Some row) → AreCellsRead row.columns
put_read [] key row read h = cc
put_read (c ∷ changes) key row read h = by (same key c.0) c.1 read.0 (λ k. put_read changes key row read.1 k) h
  where
    by : (b : Bool) (o : Option Row) → IsPutRead o → (find line_cmp key changes ≡ Some (Some row) → AreCellsRead row.columns) → cond b (Some o) (find line_cmp key changes) ≡ Some (Some row) → AreCellsRead row.columns
    by true None is rest k = cc
    by true (Some r) is rest k = subst (λ (x : Row). AreCellsRead x.columns) (same_Some r row (same_Some (Some r) (Some row) k)) is
    by false o is rest k = rest k

pub changes_kept : (schema : Schema) (delta : Delta) (rows : Database) → SuitsChanges schema delta → ArePutRead (entries delta) → KeepsRows schema rows → KeepsRows schema (applied delta rows)
changes_kept schema delta rows suit read kept = record {
  suits = λ key row h. by_suits key row (get delta key) refl (sym (get-applied delta rows key) ∙ h);
  read_back = λ key row h. by_read key row (get delta key) refl (sym (get-applied delta rows key) ∙ h);
}
  where
    at : (key : LineKey) (row r : Row) → get delta key ≡ Some (Some r) → Some r ≡ Some row → get delta key ≡ Some (Some row)
    at key row r is k = is ∙ ap Some k

    by_suits : (key : LineKey) (row : Row) (o : Option (Option Row)) → get delta key ≡ o → or_before o (get rows key) ≡ Some row → SuitsRow schema key row
    by_suits key row None is k = kept.suits key row k
    by_suits key row (Some None) is k = cc
    by_suits key row (Some (Some r)) is k = suit key row (at key row r is k)

    by_read : (key : LineKey) (row : Row) (o : Option (Option Row)) → get delta key ≡ o → or_before o (get rows key) ≡ Some row → row_stored schema key (row_cells row) ≡ Some row
    by_read key row None is k = kept.read_back key row k
    by_read key row (Some None) is k = cc
    by_read key row (Some (Some r)) is k =
        let here : get delta key ≡ Some (Some row) = at key row r is k in
        reads_back schema key row (suit key row here) (put_read (entries delta) key row read (sym (get-entries delta key) ∙ here))
