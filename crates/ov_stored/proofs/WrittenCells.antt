-- Cells in a list, and cells that are written.
use Rattle.std.proofs.Common.{◌≡◌, ℕ, ◌+◌, ◌<◌, ◌≤◌, List, [], ◌∷◌, ◌++◌, map, length, drop, get_or, Bool, true, false, cond, Some, None, sym, ap, subst, ◌∙◌, append_assoc}
use Rattle.std.proofs.lemmas.List.{at_drop_more, at_drop_all, map-append}
use Rattle.std.proofs.lemmas.Map.Text.{is_eq-slice_cmp}
use Rattle.std.specs.FinMap.{find, from_entries, get-entries, entries}
use Rattle.std.specs.Str.{bytes_eq}
use Rattle.ov_specs.specs.rows.Cells.{cell_body, cells_of}
use Rattle.ov_specs.specs.rows.Database.{Columns}
use Rattle.ov_specs.specs.schema.SchemaTypes.{name_cmp}
use Rattle.ov_specs.specs.values.Value.{Datum}
use Rattle.ov_specs.proofs.laws.Names.{EachEntry, same_name}
use Rattle.ov_keeper.specs.declared.cell_line.Cell.{Cell}
use Rattle.ov_keeper.specs.Views.{cell_entry, cells_view}
use Rattle.ov_stored.specs.Stored.{AreCellsRead, IsCellRead}

-- ---- a cell by its place

at_cell : (q : List ℕ) (cells : List Cell) (i : ℕ) (cell : Cell) (b : Bool) → i < length cells → cell ≡ get_or cells i cell → bytes_eq q cell.column ≡ b
    → find name_cmp q (map cell_entry (drop i cells)) ≡ cond b (Some cell.body) (find name_cmp q (map cell_entry (drop (i + 1) cells)))
at_cell q cells i cell b h at is =
    let rest = find name_cmp q (map cell_entry (drop (i + 1) cells)) in
    at_drop_more (λ (cs : List Cell). find name_cmp q (map cell_entry cs)) cells i cell h ∙ ap (λ (x : Cell). cond (same_name q x.column) (Some x.body) rest) (sym at)
    ∙ ap (λ t. cond t (Some cell.body) rest) (is_eq-slice_cmp q cell.column ∙ is)

pub cell_here : (q : List ℕ) (cells : List Cell) (i : ℕ) (cell : Cell) → i < length cells → cell ≡ get_or cells i cell → bytes_eq q cell.column ≡ true → find name_cmp q (map cell_entry (drop i cells)) ≡ Some cell.body
cell_here q cells i cell h at same = at_cell q cells i cell true h at same

pub cell_later : (q : List ℕ) (cells : List Cell) (i : ℕ) (cell : Cell) → i < length cells → cell ≡ get_or cells i cell → bytes_eq q cell.column ≡ false
    → find name_cmp q (map cell_entry (drop i cells)) ≡ find name_cmp q (map cell_entry (drop (i + 1) cells))
cell_later q cells i cell h at other = at_cell q cells i cell false h at other

pub no_cell : (q : List ℕ) (cells : List Cell) (i : ℕ) → length cells ≤ i → find name_cmp q (map cell_entry (drop i cells)) ≡ None
no_cell q cells i h = at_drop_all (λ (cs : List Cell). find name_cmp q (map cell_entry cs)) cells i h

-- ---- the cells of a row, one by one

abbrev pub written : List ℕ × Datum → List ℕ × List ℕ
written c = (c.0, cell_body c.1)

abbrev pub EachRead : List (List ℕ × Datum) → Type 0
EachRead = EachEntry (λ name datum. IsCellRead datum)

pub one_written : (cells : List Cell) (column body name : List ℕ) (datum : Datum) (rest : List (List ℕ × Datum)) → column ≡ name → body ≡ cell_body datum
    → map cell_entry (cells ++ record { column = column; body = body } ∷ []) ++ map written rest ≡ map cell_entry cells ++ map written ((name, datum) ∷ rest)
one_written cells column body name datum rest is_column is_body =
    ap (λ es. es ++ map written rest) (map-append cell_entry cells (record { column = column; body = body } ∷ [])) ∙ append_assoc (map cell_entry cells) ((column, body) ∷ []) (map written rest)
    ∙ (λ i. map cell_entry cells ++ ((is_column i, is_body i) ∷ map written rest))

each_at : (es : List (List ℕ × Datum)) (name : List ℕ) (datum : Datum) → EachRead es → find name_cmp name es ≡ Some datum → IsCellRead datum
each_at [] name datum each h = cc
each_at (e ∷ es) name datum each h = by (same_name name e.0) (λ k. each_at es name datum each.1 k) h
  where
    by : (b : Bool) → (find name_cmp name es ≡ Some datum → IsCellRead datum) → cond b (Some e.1) (find name_cmp name es) ≡ Some datum → IsCellRead datum
    by true rest k = let same : e.1 ≡ datum = cc in subst IsCellRead same each.0
    by false rest k = rest k

pub all_read : (columns : Columns) → EachRead (entries columns) → AreCellsRead columns
all_read columns each name datum h = each_at (entries columns) name datum each (sym (get-entries columns name) ∙ h)

pub all_written : (columns : Columns) (cells : List Cell) → map cell_entry cells ≡ map written (entries columns) → cells_view cells ≡ cells_of columns
all_written columns cells is = ap (λ (es : List (List ℕ × List ℕ)). from_entries {R = name_cmp} es) is
