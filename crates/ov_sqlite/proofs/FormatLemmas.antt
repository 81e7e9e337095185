-- What the tables hold, by what was read of them.
use Rattle.std.proofs.Common.{◌≡◌, ◌⊎◌, ◌==◌, ◌↔◌, inl, inr, ℕ, List, Bool, true, false, not, IsTrue, MatchBool, refl, ap, subst, ◌∙◌, codes}
use mathlib.Core.Bool.{beq}
use Rattle.sqlite.specs.Schema.{Schema}
use Rattle.sqlite.specs.Order.{Row}
use Rattle.sqlite.specs.Effect.{Database, IsDatabase}
use Rattle.ov_specs.specs.rows.Cells.{Whole as WholeLines, InCells as LinesInCells, format_of}
use Rattle.ov_keeper.specs.declared.keeper.Lines.{Lines}
use Rattle.ov_keeper.specs.declared.keeper.Lines.TheVariants.{Whole, InCells}
use Rattle.ov_keeper.specs.Views.{lines_view}
use Rattle.ov_tables.specs.Tables.{meta_table, tree_number, HasTable, HasLineTables, HasCellTables, HasOurTables}
use Rattle.ov_tables.specs.Format.{IsMeta, IsFormatRow, IsSchemaRow, NamesOther, stored_in, rows_of_meta}
use Rattle.ov_tables.specs.Holding.{IsStoredAs}
use Rattle.ov_sqlite.specs.Reading.{ReadsLines, are_cells}
use Rattle.ov_sqlite.proofs.HeldLemmas.{schema_is, names_lines, held_cells_meta}

-- ---- the number of the format

known_number : (n : ℕ) (text : List ℕ) (rows : List Row) → IsMeta n text rows → (n ≡ 1) ⊎ (n ≡ 2)
known_number n text rows m = go m.are
  where
    go : (IsFormatRow n m.first × IsSchemaRow text m.second) ⊎ (IsSchemaRow text m.first × IsFormatRow n m.second) → (n ≡ 1) ⊎ (n ≡ 2)
    go (inl p) = p.0.known
    go (inr p) = p.1.known

two_by : (n : ℕ) → (n ≡ 1) ⊎ (n ≡ 2) → true ≡ (n == 2) → n ≡ 2
two_by n (inl e) is = absurd (let clash : true ≡ false = is ∙ ap (λ k. k == 2) e in cc)
two_by n (inr e) is = e

one_by : (n : ℕ) → (n ≡ 1) ⊎ (n ≡ 2) → false ≡ (n == 2) → n ≡ 1
one_by n (inl e) is = e
one_by n (inr e) is = absurd (let clash : false ≡ true = is ∙ ap (λ k. k == 2) e in cc)

-- what a comparison of two truths says
pub told_same : (a b : Bool) → not (beq a b) ≡ false → b ≡ a
told_same true true h = refl
told_same true false h = absurd (let clash : true ≡ false = h in cc)
told_same false true h = absurd (let clash : true ≡ false = h in cc)
told_same false false h = refl

pub told_apart : (a b : Bool) → not (beq a b) ≡ true → a ≡ b → ⊥
told_apart true true h e = let clash : false ≡ true = h in absurd cc
told_apart true false h e = absurd cc
told_apart false true h e = absurd cc
told_apart false false h e = let clash : false ≡ true = h in absurd cc

-- ---- the tables

-- either format has `meta`
pub meta_there : (schema : Schema) → HasOurTables schema → HasTable schema (meta_table (tree_number schema (codes "meta")))
meta_there schema (inl lines) = lines.meta
meta_there schema (inr cells) = cells.meta

-- the tables of the format that a test finds
pub tables_by : (schema : Schema) (b : Bool) → (IsTrue b ↔ HasCellTables schema) → HasOurTables schema → MatchBool b (HasCellTables schema) (HasLineTables schema)
tables_by schema true test ours = test.0 refl
tables_by schema false test (inl lines) = lines
tables_by schema false test (inr cells) = absurd (let clash : false ≡ true = test.1 cells in cc)

-- `meta` names the other format
pub other_named : (db : Database) (n : ℕ) (t : List ℕ) (b : Bool) → MatchBool b (HasCellTables db.schema) (HasLineTables db.schema) → IsMeta n t (rows_of_meta db.trees) → ((n == 2) ≡ b → ⊥) → NamesOther db
other_named db n t b tables m apart = go b tables apart (known_number n t (rows_of_meta db.trees) m)
  where
    go : (b : Bool) → MatchBool b (HasCellTables db.schema) (HasLineTables db.schema) → ((n == 2) ≡ b → ⊥) → (n ≡ 1) ⊎ (n ≡ 2) → NamesOther db
    go true cells apart (inl e) = (t, inr (cells, subst (λ k. IsMeta k t (rows_of_meta db.trees)) e m))
    go true cells apart (inr e) = absurd (apart (ap (λ k. k == 2) e))
    go false lines apart (inl e) = absurd (apart (ap (λ k. k == 2) e))
    go false lines apart (inr e) = (t, inl (lines, subst (λ k. IsMeta k t (rows_of_meta db.trees)) e m))

-- ---- the rows

-- what was read is what is held
pub read_held : (db : Database) (n : ℕ) (t : List ℕ) (lines : Lines) → IsMeta n t (rows_of_meta db.trees) → are_cells lines ≡ (n == 2) → ReadsLines db lines → stored_in db.trees ≡ record { schema = t; lines = lines_view lines }
read_held db n t (InCells lines) m is reads =
    let two = two_by n (known_number n t (rows_of_meta db.trees) m) is in
    held_cells_meta t db.trees (subst (λ k. IsMeta k t (rows_of_meta db.trees)) two m) ∙ ap (λ l. record { schema = t; lines = LinesInCells l }) reads.joined
read_held db n t (Whole lines) m is reads =
    let one = one_by n (known_number n t (rows_of_meta db.trees) m) is in
    let meta : IsMeta 1 t (rows_of_meta db.trees) = subst (λ k. IsMeta k t (rows_of_meta db.trees)) one m in
    rw (schema_is 1 t (rows_of_meta db.trees) meta, names_lines t (rows_of_meta db.trees) meta) (ap (λ l. record { schema = t; lines = WholeLines l }) reads.2)

-- what was read is stored in the format of its lines
pub read_stored : (db : Database) (n : ℕ) (t : List ℕ) (lines : Lines) → IsMeta n t (rows_of_meta db.trees) → are_cells lines ≡ (n == 2) → MatchBool (are_cells lines) (HasCellTables db.schema) (HasLineTables db.schema)
    → ReadsLines db lines → IsDatabase db → IsStoredAs (format_of (lines_view lines)) t db
read_stored db n t (InCells lines) m is tables reads sound =
    let two = two_by n (known_number n t (rows_of_meta db.trees) m) is in
    let meta : IsMeta 2 t (rows_of_meta db.trees) = subst (λ k. IsMeta k t (rows_of_meta db.trees)) two m in
    inr (
      refl,
      record {
        format = record { schema = tables; meta = meta; heads = reads.heads; cells = reads.cells; owned = reads.owned };
        heads_numbered = reads.heads_numbered;
        cells_numbered = reads.cells_numbered;
        sound = sound;
      },
    )
read_stored db n t (Whole lines) m is tables reads sound =
    let one = one_by n (known_number n t (rows_of_meta db.trees) m) is in
    let meta : IsMeta 1 t (rows_of_meta db.trees) = subst (λ k. IsMeta k t (rows_of_meta db.trees)) one m in
    inl (refl, record { format = record { schema = tables; meta = meta; lines = reads.0 }; numbered = reads.1; sound = sound })
