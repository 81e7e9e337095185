-- Rows that are put where there was nothing are the whole database, as it is stored.
use Rattle.std.proofs.Common.{◌≡◌, ℕ, List, [], ◌∷◌, ◌++◌, map, Bool, true, false, cond, T, Option, Some, None, option_map, refl, sym, ap, ◌∙◌}
use Rattle.std.proofs.lemmas.List.{map-append}
use Rattle.std.specs.FinMap.{empty, find, is_sorted, get, entries, entries_sorted, get-empty, get-entries, same_map}
use Rattle.std.specs.FinMap.Entries.{below_all}
use Rattle.serde_json.specs.Written.{compact_text}
use Rattle.ov_specs.specs.conversion.Converted.{stored_of}
use Rattle.ov_specs.specs.rows.Cells.{CellChange, InCells, after_cell_changes, cell_lines_of, rewritten}
use Rattle.ov_specs.specs.rows.Database.{Database, Row}
use Rattle.ov_specs.specs.rows.Lines.{LineKey, line_cmp}
use Rattle.ov_specs.specs.rows.Suits.{Suits}
use Rattle.ov_specs.specs.schema.SchemaTypes.{Schema}
use Rattle.ov_specs.proofs.laws.LineKeys.{key_exact, key_total}
use Rattle.ov_specs.proofs.laws.Truths.{both_hold, left_holds, right_holds}
use Rattle.ov_stored.specs.Changing.{as_puts, change_of, with_row_changes}
use Rattle.ov_stored.specs.Stored.{ArePutRead, KeepsRows}
use Rattle.ov_stored.proofs.Added.{same}
use Rattle.ov_stored.proofs.CellMaps.{cell_lines-empty}
use Rattle.ov_stored.proofs.Keeping.{put_read}
use Rattle.ov_stored.proofs.Places.{or_before, get-with_changes}
use Rattle.ov_stored.proofs.ReadsBack.{reads_back}
use Rattle.ov_stored.proofs.Stored.{stores}

abbrev Rows : Type 0
Rows = List (LineKey × Row)

-- ---- the rows of several tables

pub puts_together : (rows more : Rows) → map change_of (as_puts (rows ++ more)) ≡ map change_of (as_puts rows) ++ map change_of (as_puts more)
puts_together rows more = ap (map change_of) (map-append (λ (r : LineKey × Row). (r.0, Some r.1)) rows more) ∙ map-append change_of (as_puts rows) (as_puts more)

pub read_together : (rows more : Rows) → ArePutRead (as_puts rows) → ArePutRead (as_puts more) → ArePutRead (as_puts (rows ++ more))
read_together [] more read also = also
read_together (r ∷ rows) more read also = (read.0, read_together rows more read.1 also)

-- ---- the rows of a database

below_puts : (key : LineKey) (rows : Rows) → T (below_all line_cmp key rows) → T (below_all line_cmp key (as_puts rows))
below_puts key [] h = tt
below_puts key (r ∷ rows) h = both_hold _ _ (left_holds _ _ h) (below_puts key rows (right_holds _ _ h))

sorted_puts : (rows : Rows) → T (is_sorted line_cmp rows) → T (is_sorted line_cmp (as_puts rows))
sorted_puts [] h = tt
sorted_puts (r ∷ rows) h = both_hold _ _ (below_puts r.0 rows (left_holds _ _ h)) (sorted_puts rows (right_holds _ _ h))

found_puts : (key : LineKey) (rows : Rows) → find line_cmp key (as_puts rows) ≡ option_map Some (find line_cmp key rows)
found_puts key [] = refl
found_puts key (r ∷ rows) = by (same key r.0) (found_puts key rows)
  where
    by : (b : Bool) → find line_cmp key (as_puts rows) ≡ option_map Some (find line_cmp key rows)
        → cond b (Some (Some r.1)) (find line_cmp key (as_puts rows)) ≡ option_map Some (cond b (Some r.1) (find line_cmp key rows))
    by true rest = refl
    by false rest = rest

put_at : (database : Database) (key : LineKey) → find line_cmp key (as_puts (entries database)) ≡ option_map Some (get database key)
put_at database key = found_puts key (entries database) ∙ ap (option_map Some) (sym (get-entries database key))

put_all : (database : Database) → with_row_changes (as_puts (entries database)) empty ≡ database
put_all database = same_map key_total key_exact _ _ (λ key.
    get-with_changes (as_puts (entries database)) empty key (sorted_puts (entries database) (entries_sorted database))
    ∙ ap (λ o. or_before o (get (empty {K = LineKey} {X = Row} {R = line_cmp}) key)) (put_at database key) ∙ by key (get database key))
  where
    by : (key : LineKey) (o : Option Row) → or_before (option_map Some o) (get (empty {K = LineKey} {X = Row} {R = line_cmp}) key) ≡ o
    by key None = get-empty line_cmp key
    by key (Some row) = refl

-- rows of the schema whose cells read back are kept
pub puts_kept : (schema : Schema) (database : Database) → Suits schema database → ArePutRead (as_puts (entries database)) → KeepsRows schema database
puts_kept schema database suits read = record {
  suits = suits;
  read_back = λ key row h. reads_back schema key row (suits key row h) (put_read (as_puts (entries database)) key row read (put_at database key ∙ ap (option_map Some) h));
}

-- the schema's text, and these rows put where there was nothing, are what is stored of the database
pub puts_stored : (schema : Schema) (database : Database) (text : List ℕ) (changes : List CellChange) → text ≡ compact_text schema.tree → changes ≡ map change_of (as_puts (entries database)) → rewritten text changes ≡ stored_of schema database
puts_stored schema database text changes text_is changes_are =
    (λ i. rewritten (text_is i) (changes_are i)) ∙ (λ i. record { schema = compact_text schema.tree; lines = InCells (lines_are i) })
  where
    lines_are : after_cell_changes (map change_of (as_puts (entries database))) empty ≡ cell_lines_of database
    lines_are =
        ap (after_cell_changes (map change_of (as_puts (entries database)))) (sym cell_lines-empty) ∙ stores (as_puts (entries database)) empty ∙ ap (λ (d : Database). cell_lines_of d) (put_all database)
