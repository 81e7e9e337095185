-- From the format of the tables to the format of what an open finds.
use Rattle.std.proofs.Common.{◌≡◌, ◌⊎◌, ◌≤◌, inl, inr, ℕ, List, [], refl, sym, ap, subst, ◌∙◌, arith, false, Option, None}
use Rattle.sqlite.specs.Store.{Ghosts}
use Rattle.sqlite.specs.Effect.{Database}
use Rattle.sqlite.specs.State.{HasCleanDisk}
use Rattle.sqlite.specs.Held.{Held as Connected, state}
use Rattle.ov_specs.specs.rows.Cells.{Stored, StoredLines, Whole, InCells, format_of}
use Rattle.ov_keeper.specs.Keeping.{LeavesNoMore, LeavesMade, MayLeaveMade, changed}
use Rattle.ov_keeper.specs.declared.keeper.Loaded.{Loaded}
use Rattle.ov_tables.specs.Tables.{HasOurTables}
use Rattle.ov_tables.specs.Format.{IsFormat, stored_in, rows_of_meta}
use Rattle.ov_tables.specs.Holding.{HoldsLines, HoldsCells, IsStored, IsStoredAs}
use Rattle.ov_tables.specs.Querying.{IsAsBefore}
use Rattle.ov_sqlite.proofs.HeldLemmas.{schema_is, held_lines, held_cells}
use Rattle.ov_store.specs.StoreState.{MayFind, IsAtRest, text_in}

-- ---- the tables of a format

-- what is stored in a format is held in that format
pub stored_format : (n : ℕ) (text : List ℕ) (db : Database) → IsStoredAs n text db → format_of (stored_in db.trees).lines ≡ n
stored_format n text db (inl (is, lines)) = ap (λ (s : Stored). format_of s.lines) (held_lines text db lines) ∙ sym is
stored_format n text db (inr (is, cells)) = ap (λ (s : Stored). format_of s.lines) (held_cells text db cells) ∙ sym is

-- the text is the one that `meta` has
pub text_stored : (n : ℕ) (text : List ℕ) (db : Database) → IsStoredAs n text db → IsStoredAs n (text_in db) db
text_stored n text db (inl (is, lines)) = inl (is, subst (λ t. HoldsLines t db) (sym (schema_is 1 text (rows_of_meta db.trees) lines.format.meta)) lines)
text_stored n text db (inr (is, cells)) = inr (is, subst (λ t. HoldsCells t db) (sym (schema_is 2 text (rows_of_meta db.trees) cells.format.meta)) cells)

pub format_found : (n : ℕ) (text : List ℕ) (db : Database) → IsStoredAs n text db → IsFormat text db
format_found n text db (inl (is, lines)) = inl lines.format
format_found n text db (inr (is, cells)) = inr cells.format

pub any_stored : (n : ℕ) (text : List ℕ) (db : Database) → IsStoredAs n text db → IsStored text db
any_stored n text db (inl (is, lines)) = inl lines
any_stored n text db (inr (is, cells)) = inr cells

pub tables_stored : (n : ℕ) (text : List ℕ) (db : Database) → IsStoredAs n text db → HasOurTables db.schema
tables_stored n text db (inl (is, lines)) = inl lines.format.schema
tables_stored n text db (inr (is, cells)) = inr cells.format.schema

pub cells_stored : (n : ℕ) (text : List ℕ) (db : Database) → n ≡ 2 → IsStoredAs n text db → HoldsCells text db
cells_stored n text db two (inl (one, lines)) = absurd (omega (arith, one, two))
cells_stored n text db two (inr (is, cells)) = cells

-- ---- what is found

at_most_two : (n : ℕ) → (n ≡ 1) ⊎ (n ≡ 2) → n ≤ 2
at_most_two n (inl one) = omega (arith, one)
at_most_two n (inr two) = omega (arith, two)

-- no change changes nothing in format 2
pub changed_none : (s : Stored) → 2 ≤ format_of s.lines → s ≡ changed [] s
changed_none s two = go s.schema s.lines two
  where
    go : (schema : List ℕ) (lines : StoredLines) → 2 ≤ format_of lines → record { schema = schema; lines = lines } ≡ changed [] (record { schema = schema; lines = lines })
    go schema (Whole lines) two = absurd (omega (arith, two))
    go schema (InCells lines) two = refl

-- nothing more is found
pub found_same : (n : ℕ) (A B : Stored → Type 0) → LeavesNoMore A B → ((s : Stored) → A s → n ≤ format_of s.lines) → (s : Stored) → B s → n ≤ format_of s.lines
found_same n A B same found s here = found s (same s here)

-- or what was made so, in format 2
pub found_made : (n : ℕ) (made : Stored → Stored) (A B : Stored → Type 0) → (n ≡ 1) ⊎ (n ≡ 2) → ((s : Stored) → format_of (made s).lines ≡ 2) → MayLeaveMade made A B
    → ((s : Stored) → A s → n ≤ format_of s.lines) → (s : Stored) → B s → n ≤ format_of s.lines
found_made n made A B known two may found s here = elim (may s here) [
  | inl before ↦ found s before
  | inr it ↦ subst (λ (m : ℕ). n ≤ m) (sym (ap (λ (t : Stored). format_of t.lines) it.2 ∙ two it.0)) (at_most_two n known)
]

-- all that is found was made so
pub all_made : (made : Stored → Stored) (A B : Stored → Type 0) → ((s : Stored) → format_of (made s).lines ≡ 2) → LeavesMade made A B → (s : Stored) → B s → 2 ≤ format_of s.lines
all_made made A B two leaves s here = let it = leaves s here in subst (λ (m : ℕ). 2 ≤ m) (sym (ap (λ (t : Stored). format_of t.lines) it.2 ∙ two it.0)) (omega arith)

module _ {S : Type 0} (g : Ghosts S) where
  -- between calls a connection that holds what it held is of the format that it was
  pub still_at_rest : (n : ℕ) (read : Option Loaded) (old new : Connected S) → IsAtRest g old n read → new.in_transaction ≡ false → (HasCleanDisk (state g new) → HasCleanDisk (state g old))
      → (HasCleanDisk (state g new) → IsAsBefore (state g old) (state g new)) → (HasCleanDisk (state g new) → (s : Stored) → MayFind g new s → n ≤ format_of s.lines) → IsAtRest g new n None
  still_at_rest n read old new rest mode honest same found = record {
    mode = mode;
    known = rest.known;
    stored = λ clean up. let it = same clean in
        subst (λ (db : Database). IsStoredAs n (text_in db) db) (sym (it.now up)) (rest.stored (honest clean) (it.was_open up));
    found = found;
    read_is = tt;
  }

  -- what one call leaves as it was, and then another
  pub as_before_then : (a b c : Connected S) → IsAsBefore (state g a) (state g b) → IsAsBefore (state g b) (state g c) → IsAsBefore (state g a) (state g c)
  as_before_then a b c one two = record { was_open = λ up. one.was_open (two.was_open up); now = λ up. two.now up ∙ one.now (two.was_open up) }
