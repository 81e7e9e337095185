-- The rows that are stored, taken one by one, are the database that all of them stand for.
use Rattle.std.proofs.Common.{◌≡◌, List, [], ◌∷◌, map, Bool, true, false, cond, T, Option, Some, None, option_map, option_and_then, is_some, refl, sym, ap, subst, ◌∙◌}
use Rattle.std.specs.FinMap.{contains_key, empty, entries, entries_sorted, find, from_entries, get, get-empty, get-entries, get-from_entries, get-insert, insert, is_sorted, same_map}
use Rattle.std.specs.FinMap.Entries.{below_all}
use Rattle.std.proofs.lemmas.Option.{same_Some}
use Rattle.ov_specs.specs.rows.Cells.{CellLine, CellLines, StoredLines, Whole, InCells, cell_line_of, cell_lines_of}
use Rattle.ov_specs.specs.rows.Database.{Columns, Database, Row}
use Rattle.ov_specs.specs.rows.Held as stored
use Rattle.ov_specs.specs.rows.Held.{OneText, OfCells, columns_stored, held, is_stored_as, lines_held, row_held, row_of_body}
use Rattle.ov_specs.specs.rows.Lines.{LineBody, LineKey, line_cmp}
use Rattle.ov_specs.specs.schema.SchemaTypes.{Schema, Table}
use Rattle.ov_specs.specs.values.Results.{all_results, in_front}
use Rattle.ov_specs.proofs.laws.LineKeys.{key_exact, key_total, same_tied, tied_same}
use Rattle.ov_specs.proofs.laws.Truths.{both_hold, left_holds, right_holds, not_tied}
use Rattle.ov_keeper.specs.declared.cell_line.CellLine as code
use Rattle.ov_keeper.specs.declared.line.Line as code_line
use Rattle.ov_keeper.specs.Views.{cell_line_entry, line_entry}
use Rattle.ov_stored.specs.declared.fault.OpenFault.{OpenFault}
use Rattle.ov_stored.specs.declared.fault.OpenFault.TheVariants.{SchemaDiffers, BadBody, Broken, TypeChanged, NotConvertible, Keeping}
use Rattle.ov_stored.specs.Loading.{IsNotLoaded, cells_entry, whole_entry, with_line, with_lines}
use Rattle.ov_stored.specs.Stored.{RowBody, row_stored}
use Rattle.ov_stored.proofs.Added.{same}
use Rattle.ov_stored.proofs.BodyRows.{row_held-is, row_stored-is}
use Rattle.ov_stored.proofs.CellMaps.{find-map, found-map, get-cell_lines_of, stored_cells}

-- ---- a list in ascending order

module _ {V : Type 0} where
  find-below : (k : LineKey) (es : List (LineKey × V)) → T (below_all line_cmp k es) → find line_cmp k es ≡ None
  find-below k [] h = refl
  find-below k (e ∷ es) h = ap (λ b. cond b (Some e.1) (find line_cmp k es)) (not_tied (line_cmp k e.0) (left_holds _ _ h)) ∙ find-below k es (right_holds _ _ h)

  -- what is found after the first entry is found in the whole
  find-later : (e : LineKey × V) (es : List (LineKey × V)) (q : LineKey) (v : V) → T (is_sorted line_cmp (e ∷ es)) → find line_cmp q es ≡ Some v → find line_cmp q (e ∷ es) ≡ Some v
  find-later e es q v h found = by (same q e.0) refl
    where
      no : find line_cmp e.0 es ≡ None → find line_cmp e.0 es ≡ Some v → ⊥
      no n s = cc

      by : (b : Bool) → same q e.0 ≡ b → cond b (Some e.1) (find line_cmp q es) ≡ Some v
      by false is = found
      by true is = absurd (no (find-below e.0 es (left_holds _ _ h)) (sym (ap (λ k. find line_cmp k es) (tied_same q e.0 is)) ∙ found))

  find-first : (e : LineKey × V) (es : List (LineKey × V)) → find line_cmp e.0 (e ∷ es) ≡ Some e.1
  find-first e es = ap (λ b. cond b (Some e.1) (find line_cmp e.0 es)) (same_tied e.0 e.0 refl)

module _ {V W : Type 0} (f : V → W) where
  below-map : (k : LineKey) (es : List (LineKey × V)) → T (below_all line_cmp k es) → T (below_all line_cmp k (map (λ e. (e.0, f e.1)) es))
  below-map k [] h = tt
  below-map k (e ∷ es) h = both_hold _ _ (left_holds _ _ h) (below-map k es (right_holds _ _ h))

  sorted-map : (es : List (LineKey × V)) → T (is_sorted line_cmp es) → T (is_sorted line_cmp (map (λ e. (e.0, f e.1)) es))
  sorted-map [] h = tt
  sorted-map (e ∷ es) h = both_hold _ _ (below-map e.0 es (left_holds _ _ h)) (sorted-map es (right_holds _ _ h))

-- ---- what stands under a key

-- a line by its key
abbrev entry_of : stored.Line → LineKey × RowBody
entry_of line = (line.key, (line.version, line.body))

abbrev in_text : LineBody → RowBody
in_text b = (b.0, OneText b.1)

abbrev in_cells : CellLine → RowBody
in_cells b = (b.0, OfCells b.1)

-- what is stored under a key
abbrev pub stored_under : StoredLines → LineKey → Option RowBody
stored_under (Whole lines) key = option_map in_text (get lines key)
stored_under (InCells lines) key = option_map in_cells (get lines key)

text_lines : (es : List (LineKey × LineBody)) → map entry_of (map (λ l. record { key = l.0; version = l.1.0; body = OneText l.1.1 }) es) ≡ map (λ e. (e.0, in_text e.1)) es
text_lines [] = refl
text_lines (e ∷ es) = ap (λ xs. (e.0, in_text e.1) ∷ xs) (text_lines es)

cell_lines : (es : List (LineKey × CellLine)) → map entry_of (map (λ l. record { key = l.0; version = l.1.0; body = OfCells l.1.1 }) es) ≡ map (λ e. (e.0, in_cells e.1)) es
cell_lines [] = refl
cell_lines (e ∷ es) = ap (λ xs. (e.0, in_cells e.1) ∷ xs) (cell_lines es)

found_under : (lines : StoredLines) (key : LineKey) → find line_cmp key (map entry_of (lines_held lines)) ≡ stored_under lines key
found_under (Whole lines) key = ap (find line_cmp key) (text_lines (entries lines)) ∙ find-map line_cmp in_text key (entries lines) ∙ ap (option_map in_text) (sym (get-entries lines key))
found_under (InCells lines) key = ap (find line_cmp key) (cell_lines (entries lines)) ∙ find-map line_cmp in_cells key (entries lines) ∙ ap (option_map in_cells) (sym (get-entries lines key))

lines_sorted : (lines : StoredLines) → T (is_sorted line_cmp (map entry_of (lines_held lines)))
lines_sorted (Whole lines) = subst (λ (es : List (LineKey × RowBody)). T (is_sorted line_cmp es)) (sym (text_lines (entries lines))) (sorted-map in_text (entries lines) (entries_sorted lines))
lines_sorted (InCells lines) = subst (λ (es : List (LineKey × RowBody)). T (is_sorted line_cmp es)) (sym (cell_lines (entries lines))) (sorted-map in_cells (entries lines) (entries_sorted lines))

module _ (schema : Schema) where
  -- the row at a key: the one that is there, or else what the line is
  abbrev first : Option Row → Option RowBody → LineKey → Option (Option Row)
  first None line key = option_map (row_stored schema key) line
  first (Some row) line key = Some (Some row)

  abbrev at : LineKey → List (LineKey × RowBody) → Option RowBody
  at key entries = find line_cmp key entries

  -- after the entries there are the rows from before, and those that the lines store
  abbrev Extends : Database → List (LineKey × RowBody) → Database → Type 0
  Extends before entries after = (key : LineKey) → option_map Some (get after key) ≡ first (get before key) (at key entries) key

  passed_over : (b : Bool) (row : Row) (o : Option Row) (new : RowBody) (old : Option RowBody) (key : LineKey) → (b ≡ true → o ≡ Some row) → first o old key ≡ first o (cond b (Some new) old) key
  passed_over true row o new old key h = rw (h refl) refl
  passed_over false row o new old key h = refl

  taken : (b : Bool) (row : Row) (o : Option Row) (new : RowBody) (old : Option RowBody) (key : LineKey) → (b ≡ true → o ≡ None) → (b ≡ true → row_stored schema key new ≡ Some row)
      → first (cond b (Some row) o) old key ≡ first o (cond b (Some new) old) key
  taken true row o new old key none is = rw (none refl, is refl) refl
  taken false row o new old key none is = refl

  no_more : (o : Option Row) (key : LineKey) → option_map Some o ≡ first o None key
  no_more None key = refl
  no_more (Some row) key = refl

  get_at : (db : Database) (key k : LineKey) (o : Option Row) → get db k ≡ o → same key k ≡ true → get db key ≡ o
  get_at db key k o is tied = ap (get db) (tied_same key k tied) ∙ is

  stored_at : (line : RowBody) (key k : LineKey) (o : Option Row) → row_stored schema k line ≡ o → same key k ≡ true → row_stored schema key line ≡ o
  stored_at line key k o is tied = ap (λ q. row_stored schema q line) (tied_same key k tied) ∙ is

  -- by whether there is a row of the line's key, and by what the line is
  abbrev next : List (LineKey × RowBody) → LineKey × RowBody → Database → Option Row → Option Row → Option Database
  next es e before o n = option_and_then (with_lines schema es) (cond (is_some o) (Some before) (option_map (insert before e.0) n))

  extends : (es : List (LineKey × RowBody)) (before after : Database) → with_lines schema es before ≡ Some after → Extends before es after
  extends [] before after h key = ap (λ (db : Database). option_map Some (get db key)) (sym (same_Some before after h)) ∙ no_more (get before key) key
  extends (e ∷ es) before after h key =
      elim (get before e.0) as (λ o. get before e.0 ≡ o → next es e before o (row_stored schema e.0 e.1) ≡ Some after → option_map Some (get after key) ≡ first (get before key) (at key (e ∷ es)) key) [
        | None ↦ λ none.
            elim (row_stored schema e.0 e.1) as (λ n. row_stored schema e.0 e.1 ≡ n → next es e before None n ≡ Some after → option_map Some (get after key) ≡ first (get before key) (at key (e ∷ es)) key) [
              | None ↦ λ is k. cc
              | Some row ↦ λ is k.
                  extends es (insert before e.0 row) after k key ∙ ap (λ o. first o (at key es) key) (get-insert key_total before e.0 row key)
                  ∙ taken (same key e.0) row (get before key) e.1 (at key es) key (get_at before key e.0 None none) (stored_at e.1 key e.0 (Some row) is)
            ] refl
        | Some row ↦ λ some k. extends es before after k key ∙ passed_over (same key e.0) row (get before key) e.1 (at key es) key (get_at before key e.0 (Some row) some)
      ] refl h

  -- a line that is not a row, if there is none with its key before it
  abbrev Fails : Database → List (LineKey × RowBody) → Type 0
  Fails before entries = (key : LineKey) × (line : RowBody) × (get before key ≡ None) × (at key entries ≡ Some line) × (row_stored schema key line ≡ None)

  found_first : (k : LineKey) (line : RowBody) (es : List (LineKey × RowBody)) → at k ((k, line) ∷ es) ≡ Some line
  found_first k line es = rw (same_itself k) refl
    where
      same_itself : (q : LineKey) → same q q ≡ true
      same_itself q = same_tied q q refl

  apart : (b : Bool) (row : Row) (o : Option Row) (new : RowBody) (old : Option RowBody) (line : RowBody) → (b ≡ true → o ≡ Some row) → o ≡ None → old ≡ Some line → cond b (Some new) old ≡ Some line
  apart true row o new old line h none is = absurd (no (h refl) none)
    where
      no : o ≡ Some row → o ≡ None → ⊥
      no p q = cc
  apart false row o new old line h none is = is

  unread : (b : Bool) (row : Row) (o : Option Row) → cond b (Some row) o ≡ None → (b ≡ false) × (o ≡ None)
  unread true row o h = cc
  unread false row o h = (refl, h)

  fails : (es : List (LineKey × RowBody)) (before : Database) → with_lines schema es before ≡ None → Fails before es
  fails [] before h = cc
  fails (e ∷ es) before h =
      elim (get before e.0) as (λ o. get before e.0 ≡ o → next es e before o (row_stored schema e.0 e.1) ≡ None → Fails before (e ∷ es)) [
        | None ↦ λ none.
            elim (row_stored schema e.0 e.1) as (λ n. row_stored schema e.0 e.1 ≡ n → next es e before None n ≡ None → Fails before (e ∷ es)) [
              | None ↦ λ is k. (e.0, e.1, none, found_first e.0 e.1 es, is)
              | Some row ↦ λ is k.
                  let later = fails es (insert before e.0 row) k in
                  let parts = unread (same later.0 e.0) row (get before later.0) (sym (get-insert key_total before e.0 row later.0) ∙ later.2) in
                  (later.0, later.1, parts.1, ap (λ b. cond b (Some e.1) (at later.0 es)) parts.0 ∙ later.3, later.4)
            ] refl
        | Some row ↦ λ some k.
            let later = fails es before k in
            (later.0, later.1, later.2, apart (same later.0 e.0) row (get before later.0) e.1 (at later.0 es) later.1 (get_at before later.0 e.0 (Some row) some) later.2 later.3, later.4)
      ] refl h

  -- the database has the row that is stored under each key, and no other
  abbrev AreRowsAt : (LineKey → Option RowBody) → Database → Type 0
  AreRowsAt under database = (key : LineKey) → option_map Some (get database key) ≡ option_map (row_stored schema key) (under key)

  -- something that is stored is not a row
  abbrev HasBad : (LineKey → Option RowBody) → Type 0
  HasBad under = (key : LineKey) × (body : RowBody) × (under key ≡ Some body) × (row_stored schema key body ≡ None)

  are_rows : (es : List (LineKey × RowBody)) (database : Database) → with_lines schema es empty ≡ Some database → AreRowsAt (λ key. at key es) database
  are_rows es database h key = extends es empty database h key ∙ ap (λ o. first o (at key es) key) (get-empty line_cmp key)

  has_bad : (es : List (LineKey × RowBody)) → with_lines schema es empty ≡ None → HasBad (λ key. at key es)
  has_bad es h = let failed = fails es empty h in (failed.0, failed.1, failed.3, failed.4)

  -- ---- the database that lines stand for

  rows_found : (ls : List stored.Line) (rs : List (LineKey × Row)) → all_results (row_held schema) ls ≡ Some rs → (key : LineKey)
      → option_map Some (find line_cmp key rs) ≡ option_map (row_stored schema key) (find line_cmp key (map entry_of ls))
  rows_found [] [] h key = refl
  rows_found [] (r ∷ rs) h key = cc
  rows_found (l ∷ ls) rs h key =
      by (row_stored schema l.key (l.version, l.body)) refl (λ ws is. rows_found ls ws is key) (ap (λ o. in_front o (all_results (row_held schema) ls)) (sym (row_held-is schema l)) ∙ h)
    where
      one : (row : Row) (ws : List (LineKey × Row)) (b : Bool) → same key l.key ≡ b → row_stored schema l.key (l.version, l.body) ≡ Some row
          → option_map Some (find line_cmp key ws) ≡ option_map (row_stored schema key) (find line_cmp key (map entry_of ls))
          → option_map Some (cond b (Some row) (find line_cmp key ws)) ≡ option_map (row_stored schema key) (cond b (Some (l.version, l.body)) (find line_cmp key (map entry_of ls)))
      one row ws true tied is rest = ap Some (sym (stored_at (l.version, l.body) key l.key (Some row) is tied))
      one row ws false tied is rest = rest

      by_rest : (row : Row) (o : Option (List (LineKey × Row))) → row_stored schema l.key (l.version, l.body) ≡ Some row
          → ((ws : List (LineKey × Row)) → all_results (row_held schema) ls ≡ Some ws → option_map Some (find line_cmp key ws) ≡ option_map (row_stored schema key) (find line_cmp key (map entry_of ls)))
          → all_results (row_held schema) ls ≡ o → in_front (Some (l.key, row)) o ≡ Some rs
          → option_map Some (find line_cmp key rs) ≡ option_map (row_stored schema key) (find line_cmp key (map entry_of (l ∷ ls)))
      by_rest row None is next all k = cc
      by_rest row (Some ws) is next all k =
          let whole : (l.key, row) ∷ ws ≡ rs = cc in
          ap (λ (xs : List (LineKey × Row)). option_map Some (find line_cmp key xs)) (sym whole) ∙ one row ws (same key l.key) refl is (next ws all)

      by : (o : Option Row) → row_stored schema l.key (l.version, l.body) ≡ o
          → ((ws : List (LineKey × Row)) → all_results (row_held schema) ls ≡ Some ws → option_map Some (find line_cmp key ws) ≡ option_map (row_stored schema key) (find line_cmp key (map entry_of ls)))
          → in_front (option_map (λ row. (l.key, row)) o) (all_results (row_held schema) ls) ≡ Some rs
          → option_map Some (find line_cmp key rs) ≡ option_map (row_stored schema key) (find line_cmp key (map entry_of (l ∷ ls)))
      by None is next k = cc
      by (Some row) is next k = by_rest row (all_results (row_held schema) ls) is next refl k

  bad_found : (ls : List stored.Line) → T (is_sorted line_cmp (map entry_of ls)) → all_results (row_held schema) ls ≡ None → HasBad (λ key. find line_cmp key (map entry_of ls))
  bad_found [] sorted h = cc
  bad_found (l ∷ ls) sorted h =
      by (row_stored schema l.key (l.version, l.body)) refl (λ k. bad_found ls (right_holds _ _ sorted) k) (ap (λ o. in_front o (all_results (row_held schema) ls)) (sym (row_held-is schema l)) ∙ h)
    where
      no_rest : (row : Row) (o : Option (List (LineKey × Row))) → in_front (Some (l.key, row)) o ≡ None → o ≡ None
      no_rest row None k = refl
      no_rest row (Some rs) k = cc

      by : (o : Option Row) → row_stored schema l.key (l.version, l.body) ≡ o → (all_results (row_held schema) ls ≡ None → HasBad (λ key. find line_cmp key (map entry_of ls)))
          → in_front (option_map (λ row. (l.key, row)) o) (all_results (row_held schema) ls) ≡ None → HasBad (λ key. find line_cmp key (map entry_of (l ∷ ls)))
      by None is next k = (l.key, (l.version, l.body), find-first (entry_of l) (map entry_of ls), is)
      by (Some row) is next k =
          let later = next (no_rest row (all_results (row_held schema) ls) k) in
          (later.0, later.1, find-later (entry_of l) (map entry_of ls) later.0 later.1 sorted later.2, later.3)

  module _ (lines : StoredLines) where
    -- each of them is a row of the database
    pub held_rows : (database : Database) → held schema lines ≡ Some database → AreRowsAt (stored_under lines) database
    held_rows database h key = by (all_results (row_held schema) (lines_held lines)) refl h
      where
        by : (o : Option (List (LineKey × Row))) → all_results (row_held schema) (lines_held lines) ≡ o → option_map from_entries o ≡ Some database → option_map Some (get database key) ≡ option_map (row_stored schema key) (stored_under lines key)
        by None all k = cc
        by (Some rs) all k =
            ap (λ (d : Database). option_map Some (get d key)) (sym (same_Some (from_entries rs) database k)) ∙ ap (option_map Some) (get-from_entries key_total rs key)
            ∙ rows_found (lines_held lines) rs all key ∙ ap (option_map (row_stored schema key)) (found_under lines key)

    not_held : held schema lines ≡ None → HasBad (stored_under lines)
    not_held h = by (all_results (row_held schema) (lines_held lines)) refl h
      where
        by : (o : Option (List (LineKey × Row))) → all_results (row_held schema) (lines_held lines) ≡ o → option_map (from_entries {R = line_cmp}) o ≡ None → HasBad (stored_under lines)
        by None all k = let bad = bad_found (lines_held lines) (lines_sorted lines) all in (bad.0, bad.1, sym (found_under lines bad.0) ∙ bad.2, bad.3)
        by (Some rs) all k = cc

    none_bad : (database : Database) → AreRowsAt (stored_under lines) database → HasBad (stored_under lines) → ⊥
    none_bad database are (key, body, is, none) = no (get database key) (are key ∙ ap (option_map (row_stored schema key)) is ∙ ap Some none)
      where
        no : (o : Option Row) → option_map Some o ≡ Some None → ⊥
        no None k = cc
        no (Some row) k = cc

    one_database : (a b : Database) → AreRowsAt (stored_under lines) a → AreRowsAt (stored_under lines) b → a ≡ b
    one_database a b is_a is_b = same_map key_total key_exact _ _ (λ key. alike (get a key) (get b key) (is_a key ∙ sym (is_b key)))
      where
        alike : (o p : Option Row) → option_map Some o ≡ option_map Some p → o ≡ p
        alike None None k = refl
        alike None (Some row) k = cc
        alike (Some row) None k = cc
        alike (Some row) (Some other) k = same_Some (Some row) (Some other) k

    -- a database of which each of them is a row is the one that they stand for
    pub rows_held : (database : Database) → AreRowsAt (stored_under lines) database → held schema lines ≡ Some database
    rows_held database are = by (held schema lines) refl
      where
        by : (o : Option Database) → held schema lines ≡ o → o ≡ Some database
        by None is = absurd (none_bad database are (not_held is))
        by (Some other) is = ap Some (one_database other database (held_rows other is) are)

    bad_held : HasBad (stored_under lines) → held schema lines ≡ None
    bad_held bad = by (held schema lines) refl
      where
        by : (o : Option Database) → held schema lines ≡ o → o ≡ None
        by None is = refl
        by (Some database) is = absurd (none_bad database (held_rows database is) bad)

    -- the rows of a list in which the same is found are those that they stand for
    with_lines_held : (es : List (LineKey × RowBody)) → ((key : LineKey) → at key es ≡ stored_under lines key) → with_lines schema es empty ≡ held schema lines
    with_lines_held es alike = by (with_lines schema es empty) refl
      where
        by : (o : Option Database) → with_lines schema es empty ≡ o → o ≡ held schema lines
        by None is = let bad = has_bad es is in sym (bad_held (bad.0, bad.1, sym (alike bad.0) ∙ bad.2, bad.3))
        by (Some database) is = sym (rows_held database (λ key. are_rows es database is key ∙ ap (option_map (row_stored schema key)) (alike key)))

-- ---- the rows of a list, in either format

text_at : (lines : List code_line.Line) (key : LineKey) → find line_cmp key (map whole_entry lines) ≡ option_map in_text (find line_cmp key (map line_entry lines))
text_at [] key = refl
text_at (l ∷ lines) key =
    ap (cond (same key (line_entry l).0) (Some (in_text (line_entry l).1))) (text_at lines key) ∙ found-map line_cmp in_text (same key (line_entry l).0) (line_entry l).1 (find line_cmp key (map line_entry lines))

cells_at : (lines : List code.CellLine) (key : LineKey) → find line_cmp key (map cells_entry lines) ≡ option_map in_cells (find line_cmp key (map cell_line_entry lines))
cells_at [] key = refl
cells_at (l ∷ lines) key =
    ap (cond (same key (cell_line_entry l).0) (Some (in_cells (cell_line_entry l).1))) (cells_at lines key)
    ∙ found-map line_cmp in_cells (same key (cell_line_entry l).0) (cell_line_entry l).1 (find line_cmp key (map cell_line_entry lines))

pub lines_loaded : (schema : Schema) (lines : List code_line.Line) → with_lines schema (map whole_entry lines) empty ≡ held schema (Whole (from_entries (map line_entry lines)))
lines_loaded schema lines = with_lines_held schema (Whole (from_entries (map line_entry lines))) (map whole_entry lines) (λ key. text_at lines key ∙ ap (option_map in_text) (sym (get-from_entries key_total (map line_entry lines) key)))

pub cells_loaded : (schema : Schema) (lines : List code.CellLine) → with_lines schema (map cells_entry lines) empty ≡ held schema (InCells (from_entries (map cell_line_entry lines)))
cells_loaded schema lines = with_lines_held schema (InCells (from_entries (map cell_line_entry lines))) (map cells_entry lines) (λ key. cells_at lines key ∙ ap (option_map in_cells) (sym (get-from_entries key_total (map cell_line_entry lines) key)))

-- ---- a row is stored as the cells that it was read from

pub cells_of_stored : (schema : Schema) (key : LineKey) (line : CellLine) (row : Row) → row_stored schema key (line.0, OfCells line.1) ≡ Some row → cell_line_of row ≡ line
cells_of_stored schema key line row h = by_table (get schema.tables key.0) (sym (row_stored-is schema key (line.0, OfCells line.1)) ∙ h)
  where
    by_test : (columns : Columns) (b : Bool) → is_stored_as columns (OfCells line.1) ≡ b → cond b (Some (record { version = line.0; columns = columns })) None ≡ Some row → cell_line_of row ≡ line
    by_test columns true is k = ap cell_line_of (sym (same_Some (record { version = line.0; columns = columns }) row k)) ∙ ap (λ cells. (line.0, cells)) (stored_cells columns line.1 is)
    by_test columns false is k = cc

    by_columns : (o : Option Columns) → option_and_then (stored.row_if_stored line.0 (OfCells line.1)) o ≡ Some row → cell_line_of row ≡ line
    by_columns None k = cc
    by_columns (Some columns) k = by_test columns (is_stored_as columns (OfCells line.1)) refl k

    by_table : (o : Option Table) → option_and_then (λ table. row_of_body table line.0 (OfCells line.1)) o ≡ Some row → cell_line_of row ≡ line
    by_table None k = cc
    by_table (Some table) k = by_columns (columns_stored (OfCells line.1) table) k

-- rows in cells are the database that they stand for, as it is stored
pub cells_held : (schema : Schema) (lines : CellLines) (database : Database) → held schema (InCells lines) ≡ Some database → lines ≡ cell_lines_of database
cells_held schema lines database h = same_map key_total key_exact _ _ (λ key. by key (get database key) (get lines key) (held_rows schema (InCells lines) database h key) ∙ sym (get-cell_lines_of database key))
  where
    by : (key : LineKey) (o : Option Row) (l : Option CellLine) → option_map Some o ≡ option_map (row_stored schema key) (option_map in_cells l) → l ≡ option_map cell_line_of o
    by key None None k = refl
    by key None (Some line) k = cc
    by key (Some row) None k = cc
    by key (Some row) (Some line) k = ap Some (sym (cells_of_stored schema key line row (sym (same_Some (Some row) (row_stored schema key (in_cells line)) k))))

-- ---- one row more

module _ (schema : Schema) (entry : LineKey × RowBody) (database : Database) where
  pub line_there : contains_key database entry.0 ≡ true → with_line schema entry database ≡ Some database
  line_there h = rw h refl

  pub line_refused : (fault : OpenFault) → contains_key database entry.0 ≡ false → IsNotLoaded (row_stored schema entry.0 entry.1) fault → IsNotLoaded (with_line schema entry database) fault
  line_refused BadBody h is = rw (h, is) refl
  line_refused (Keeping fault) h is = is
  line_refused SchemaDiffers h is = is
  line_refused Broken h is = is
  line_refused TypeChanged h is = is
  line_refused NotConvertible h is = is
