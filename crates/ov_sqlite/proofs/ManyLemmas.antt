-- Several rows that one statement adds, and several cells of one row.
use Rattle.std.proofs.Common.{◌≡◌, ℕ, ◌/◌, ℤ, List, [], ◌∷◌, ◌++◌, ◌+◌, ◌≤◌, ◌<◌, take, get_or, map, length, true, Ok, Some, refl, sym, ap, subst, ◌∙◌, arith}
use Rattle.std.specs.List.{AllByRecursion}
use Rattle.std.specs.FinMap.{get, insert, from_entries, get-from_entries, from_entries_push}
use Rattle.std.proofs.lemmas.Bool.{and_parts, and_from}
use Rattle.std.proofs.lemmas.List.{append_assoc, append-nil}
use Rattle.sqlite.specs.Order.{Row, column}
use Rattle.sqlite_value.specs.Order.{bytes}
use Rattle.sqlite.specs.Term.{Term}
use Rattle.sqlite.specs.Table.{Table}
use Rattle.sqlite.specs.Source.TheVariants.{Values}
use Rattle.sqlite.specs.Command.TheVariants.{Insert}
use Rattle.sqlite.specs.Edit.{edit_of}
use Rattle.sqlite.specs.Effect.{Database, IsDatabase, value_rows}
use Rattle.sqlite.specs.Does.{Tally}
use Rattle.sqlite.specs.Rows.{Written, stamped}
use Rattle.sqlite.specs.State.{State, Executes}
use Rattle.sqlite.specs.Listing.{understood}
use Rattle.sqlite.proofs.Callers.{IsPlain, command_of, runs_as}
use Rattle.sqlite_trees.specs.Tree.{Trees, put_row}
use Rattle.sqlite_trees.proofs.TreeLemmas.{all-put_row}
use Rattle.sqlite_rules.specs.Lists.{Has}
use Rattle.sqlite_rules.specs.Edit.{next_rowid, are_fresh, put_all, Applies}
use Rattle.sqlite_rules.specs.declared.error.Rowids.TheVariants.{Chosen}
use Rattle.sqlite_rules.proofs.ListLemmas.{all_has, all_from}
use Rattle.sqlite_rules.proofs.TableLemmas.{put_all_keeps}
use Rattle.sqlite_syntax.specs.declared.statement.Parsed.{Parsed}
use Rattle.sqlite_schema.specs.declared.schema.Column.{Column}
use Rattle.ov_specs.specs.rows.Lines.{LineKey}
use Rattle.ov_specs.specs.rows.Cells.{CellLine, CellLines, Cells, cell_lines}
use Rattle.ov_tables.specs.Tables.{HasTable, plain_table}
use Rattle.ov_tables.specs.Format.{IsCell, row_key, head_of, cell_of, rows_listed, stored_cells}
use Rattle.ov_tables.specs.Holding.{IsNumbered}
use Rattle.ov_tables.proofs.TableLemmas.{our_step, Stands}
use Rattle.ov_tables.proofs.ListingLemmas.{Touches, stands_in, rows_are, rows_after, touches}
use Rattle.ov_tables.proofs.Statements.{does}
use Rattle.ov_tables.proofs.DeleteLemmas.{went, same_value, at_placed}
use Rattle.ov_sqlite.specs.Changing.{IsCellAdded, AreCellsAdded, IsRefilled, MayHave, MakesRows}
use Rattle.ov_sqlite.specs.Joining.{CellEntry, entry_in}
use Rattle.ov_sqlite.proofs.PutLemmas.{not_taken, put_numbered}
use Rattle.ov_sqlite.proofs.CellLemmas.{names_total, names_exact, celled}
use Rattle.ov_sqlite.proofs.KeyLemmas.{AreApart, new_cell}
use Rattle.ov_sqlite.proofs.RefillLemmas.{put_found, put_over, put_back}
use Rattle.ov_sqlite.proofs.NumberLemmas.{taken_more}

-- ---- rows that one statement adds

-- rows, each with the number above those of the rows before it
abbrev pub next_rows : List (ℤ → Row) → List Row → List Row
next_rows [] rows = []
next_rows (f ∷ fs) rows = f (next_rowid rows) ∷ next_rows fs (put_row (f (next_rowid rows)) rows)

-- rows with new numbers are added
pub record InsertsAll (table : Table) (fs : List (ℤ → Row)) (old new : State) : Type 0 where
  pub only : Touches table old.now new.now
  pub rows : rows_listed table.name new.now.trees ≡ put_all (rows_listed table.name old.now.trees) (next_rows fs (rows_listed table.name old.now.trees))
  pub fresh : are_fresh (rows_listed table.name old.now.trees) (next_rows fs (rows_listed table.name old.now.trees)) ≡ true

-- the rows that a statement of these terms adds
abbrev pub AddsAll : Table → List Term → ℕ → Row → List (ℤ → Row) → Type 0
AddsAll table terms width params fs =
    (db : Trees) → (edit_of db table [] Chosen 0 (value_rows (stamped table params) width (length terms / width) terms)).news ≡ next_rows fs (db table.tree)

module _ (old new : State) (name : List ℕ) (tree : ℕ) (columns : List Column) (key : List ℕ) (sql : List ℕ) (terms : List Term) (width : ℕ) (params : Row) (fs : List (ℤ → Row)) (parsed : Parsed)
    (has : HasTable old.now.schema (plain_table name tree columns key)) (sound : IsDatabase old.now)
    (known : (at : ℕ) → Stands old.now.schema (plain_table name tree columns key) at → understood old.now.schema sql ≡ Ok (does parsed (Insert at (Values terms width))))
    (adds : AddsAll (plain_table name tree columns key) terms width params fs) where
  pub inserts_all : (count : ℕ) → Executes sql params old new (Ok count) → InsertsAll (plain_table name tree columns key) fs old new
  inserts_all count h =
      let table = plain_table name tree columns key in
      let schema = old.now.schema in
      let stood = stands_in old.now table has sound in
      let at = stood.0 in
      let it = stood.1 in
      let db = old.now.trees in
      let command = Insert at (Values terms width) in
      let is = known at it in
      let w = runs_as sql params old new schema refl command (ap command_of is) (subst IsPlain (sym is) (refl, refl)) count h in
      let done = went (at_placed old params command at table (Ok (w.tally, new.now)) it.placed w.changed) in
      let now = ap (λ (p : Tally × Database). p.1) (same_value (went (went done.2).2).2) in
      let given = went done.1 in
      let written = went (went given.2).2 in
      let counted = went written.2 in
      let trees : done.0.trees ≡ written.0 = ap (λ (it : Written). it.trees) (same_value counted.2) ∙ same_value counted.1 in
      let path : new.now.trees ≡ written.0 = ap (λ (d : Database). d.trees) now ∙ trees in
      let edit = edit_of db table [] Chosen 0 given.0 in
      let step = subst (Applies schema _ db edit) (sym path) (our_step schema edit has _ db written.0 written.1) in
      let only = touches old.now new.now table has sound _ edit refl step (ap (λ (d : Database). d.schema) now) w.sound in
      let news : edit.news ≡ next_rows fs (db table.tree) = ap (λ all. (edit_of db table [] Chosen 0 all).news) given.1.1 ∙ adds db in
      let was : db table.tree ≡ rows_listed table.name db = sym (rows_are old.now table has sound) in
      record {
        only = only;
        rows = rows_after old.now new.now table only has sound ∙ step.rows ∙ ap (λ all. put_all (db table.tree) all) news ∙ ap (λ rows. put_all rows (next_rows fs rows)) was;
        fresh = ap (λ rows. are_fresh rows (next_rows fs rows)) (sym was) ∙ ap (are_fresh (db table.tree)) (sym news) ∙ step.fresh;
      }

-- what is so of the rows of a table and of those that are added is so of all
pub all_put : (P : Row → Type 0) (xs rows : List Row) → AllByRecursion P xs → AllByRecursion P rows → AllByRecursion P (put_all rows xs)
all_put P [] rows news all = all
all_put P (x ∷ xs) rows news all = all_put P xs (put_row x rows) news.1 (all-put_row P x rows news.0 all)

-- the first of several new numbers is new, and the others after it
fresh_first : (rows : List Row) (x : Row) (xs : List Row) → are_fresh rows (x ∷ xs) ≡ true → are_fresh rows (x ∷ []) ≡ true
fresh_first rows x xs fresh = and_from _ _ (and_parts _ _ fresh).0 refl

pub all_numbered : {X : Type 0} (is : Row → X) (xs rows : List Row) → are_fresh rows xs ≡ true → IsNumbered is rows → IsNumbered is (put_all rows xs)
all_numbered is [] rows fresh numbered = numbered
all_numbered is (x ∷ xs) rows fresh numbered =
    all_numbered is xs (put_row x rows) (and_parts _ _ fresh).1 (put_numbered is x rows (not_taken rows x (fresh_first rows x xs fresh)) numbered)

-- ---- cells of one row

apart_part : (places : List ℕ) (few all : List Row) → ((r : Row) → Has few r → Has all r) → AreApart places all → AreApart places few
apart_part places few all within apart =
    all_from _ few (λ r h. all_from _ few (λ s g. all_has _ all s (all_has _ all r apart (within r h)) (within s g)))

-- cells that were added to the row of a key, where the table has each cell once
pub cells_added : (H : List Row) (k : LineKey) (xs C : List Row) (l : CellLine) → are_fresh C xs ≡ true → AllByRecursion IsCell C → AllByRecursion (λ x. IsCell x × (row_key x ≡ k)) xs → AreApart (1 ∷ 2 ∷ 3 ∷ []) (put_all C xs)
    → get (cell_lines (map head_of H) (map cell_of C)) k ≡ Some l → AreCellsAdded k (map entry_in xs) (cell_lines (map head_of H) (map cell_of C)) (cell_lines (map head_of H) (map cell_of (put_all C xs)))
cells_added H k [] C l fresh cells are apart there = refl
cells_added H k (x ∷ xs) C l fresh cells are apart there =
    let one = fresh_first C x xs fresh in
    let more = (and_parts _ _ fresh).1 in
    let here = apart_part (1 ∷ 2 ∷ 3 ∷ []) (put_row x C) (put_all C (x ∷ xs)) (λ r h. put_all_keeps xs (put_row x C) r more h) apart in
    let free = new_cell x C one cells are.0.0 here in
    let added : IsCellAdded k (bytes (column x 3)) (bytes (column x 4)) (cell_lines (map head_of H) (map cell_of C)) (cell_lines (map head_of H) (map cell_of (put_row x C))) =
    subst (λ q. IsCellAdded q (bytes (column x 3)) (bytes (column x 4)) (cell_lines (map head_of H) (map cell_of C)) (cell_lines (map head_of H) (map cell_of (put_row x C)))) are.0.1
    (λ l e. celled x C (not_taken C x one) free H l e) in
    let next = ap (λ (m : CellLines). get m k) (added l there).1 ∙ put_found _ k _ in
    (cell_lines (map head_of H) (map cell_of (put_row x C)), added, cells_added H k xs (put_row x C) _ more (all-put_row IsCell x C are.0.0 cells) are.1 apart next)

-- cells and then more
pub added_then : (k : LineKey) (xs ys : List CellEntry) (a b c : CellLines) → AreCellsAdded k xs a b → AreCellsAdded k ys b c → AreCellsAdded k (xs ++ ys) a c
added_then k [] ys a b c first then = subst (λ (m : CellLines). AreCellsAdded k ys m c) first then
added_then k (x ∷ xs) ys a b c first then = (first.0, first.1, added_then k xs ys first.0 b c first.2 then)

-- the row is still there
pub added_there : (k : LineKey) (xs : List CellEntry) (a b : CellLines) (l : CellLine) → get a k ≡ Some l → AreCellsAdded k xs a b → (m : CellLine) × (get b k ≡ Some m)
added_there k [] a b l there added = (l, ap (λ (m : CellLines). get m k) added ∙ there)
added_there k (x ∷ xs) a b l there added = added_there k xs added.0 b _ (ap (λ (m : CellLines). get m k) (added.1 l there).1 ∙ put_found a k _) added.2

-- a row that had some cells has these after them
more_cells : (k : LineKey) (v : List ℕ) (had xs : List CellEntry) (a b : CellLines) → get a k ≡ Some (v, from_entries had) → AreCellsAdded k xs a b → b ≡ insert a k (v, from_entries (had ++ xs))
more_cells k v had [] a b there added = added ∙ put_back a k _ there ∙ ap (λ es. insert a k (v, from_entries es)) (sym (append-nil had))
more_cells k v had (x ∷ xs) a b there added =
    let one = added.1 (v, from_entries had) there in
    let none = sym (get-from_entries names_total had x.0) ∙ one.0 in
    let cells : insert (from_entries had) x.0 x.1 ≡ from_entries (had ++ x ∷ []) = sym (from_entries_push names_total names_exact had x.0 x.1 none) in
    let mid : added.0 ≡ insert a k (v, from_entries (had ++ x ∷ [])) = one.1 ∙ ap (λ (s : Cells). insert a k (v, s)) cells in
    let rest = more_cells k v (had ++ x ∷ []) xs added.0 b (ap (λ (m : CellLines). get m k) mid ∙ put_found a k _) added.2 in
    rest ∙ ap (λ (m : CellLines). insert m k (v, from_entries ((had ++ x ∷ []) ++ xs))) mid ∙ put_over a k _ _ ∙ ap (λ es. insert a k (v, from_entries es)) (append_assoc had (x ∷ []) xs)

-- a row without cells has these
pub refilled : (k : LineKey) (v : List ℕ) (xs : List CellEntry) (a b : CellLines) → AreCellsAdded k xs a b → IsRefilled k (v, from_entries xs) a b
refilled k v xs a b added start = more_cells k v [] xs a b start added

-- a row that was there may still be found
pub may_still : (text : List ℕ) (k : LineKey) (xs : List CellEntry) (a b : State) → MakesRows (AreCellsAdded k xs) text a b → MayHave k (λ _. Unit {0}) a → MayHave k (λ _. Unit {0}) b
may_still text k xs a b made there up =
    let was = there (made.opens up) in
    let is = added_there k xs (stored_cells a.now.trees) (stored_cells b.now.trees) was.0 was.1 made.lines_are in
    (is.0, is.1, tt)

-- the first of some, and the four after them
pub four_more : {X : Type 0} (xs : List X) (n : ℕ) (p q r s : X) → n + 4 ≤ length xs → p ≡ get_or xs n p → q ≡ get_or xs (n + 1) q → r ≡ get_or xs (n + 2) r → s ≡ get_or xs (n + 3) s
    → take (n + 4) xs ≡ take n xs ++ p ∷ q ∷ r ∷ s ∷ []
four_more {X} xs n p q r s h a b c d =
    one_more (n + 3) (n + 4) s (omega arith) (omega (arith, h)) d
    ∙ ap (λ ys. ys ++ s ∷ []) (one_more (n + 2) (n + 3) r (omega arith) (omega (arith, h)) c
    ∙ ap (λ ys. ys ++ r ∷ []) (one_more (n + 1) (n + 2) q (omega arith) (omega (arith, h)) b
    ∙ ap (λ ys. ys ++ q ∷ []) (one_more n (n + 1) p (omega arith) (omega (arith, h)) a)))
    ∙ joined (take n xs)
  where
    one_more : (i m : ℕ) (x : X) → i + 1 ≡ m → i < length xs → x ≡ get_or xs i x → take m xs ≡ take i xs ++ x ∷ []
    one_more i m x e low is = subst (λ j. take j xs ≡ take i xs ++ x ∷ []) e (taken_more xs i x low is)

    joined : (ys : List X) → (((ys ++ p ∷ []) ++ q ∷ []) ++ r ∷ []) ++ s ∷ [] ≡ ys ++ p ∷ q ∷ r ∷ s ∷ []
    joined [] = refl
    joined (y ∷ ys) = ap (λ zs. y ∷ zs) (joined ys)
