-- What an INSERT does to its table.
use Rattle.std.proofs.Common.{◌≡◌, ℕ, ◌/◌, ℤ, List, [], ◌∷◌, length, Bool, true, false, cond, Ok, refl, sym, ap, subst, ◌∙◌}
use Rattle.sqlite.specs.declared.types.Value.{Value}
use Rattle.sqlite.specs.declared.types.Value.TheVariants.{Null, Int, Text, Blob}
use Rattle.sqlite.specs.Order.{Row}
use Rattle.sqlite.specs.Term.{Term}
use Rattle.sqlite.specs.Table.{Table}
use Rattle.sqlite.specs.Ops.{unary}
use Rattle.sqlite.specs.Kind.TheVariants.{Integer}
use Rattle.sqlite.specs.Cast.{cast}
use Rattle.sqlite.specs.Source.TheVariants.{Values}
use Rattle.sqlite.specs.Command.TheVariants.{Insert}
use Rattle.sqlite.specs.Edit.{edit_of}
use Rattle.sqlite.specs.Effect.{Database, IsDatabase, value_rows}
use Rattle.sqlite_rules.specs.Edit.{next_rowid, are_fresh, put_all, Applies}
use Rattle.sqlite_rules.specs.declared.error.Rowids.TheVariants.{Chosen}
use Rattle.sqlite.specs.Does.{Tally}
use Rattle.sqlite.specs.Rows.{Written, stamped}
use Rattle.sqlite_trees.specs.Tree.{Trees, put_row}
use Rattle.sqlite.specs.State.{State, Executes}
use Rattle.sqlite.specs.Listing.{understood}
use Rattle.sqlite.proofs.Callers.{IsPlain, command_of, runs_as}
use Rattle.sqlite_syntax.specs.declared.statement.Parsed.{Parsed}
use Rattle.sqlite_schema.specs.declared.schema.Column.{Column}
use Rattle.ov_tables.specs.Tables.{HasTable, plain_table, meta_table, head_table, cell_table}
use Rattle.ov_tables.specs.Format.{rows_listed}
use Rattle.ov_tables.specs.Making.{meta_row}
use Rattle.ov_tables.proofs.TableLemmas.{our_step, Stands}
use Rattle.ov_tables.proofs.ListingLemmas.{Touches, stands_in, rows_are, rows_after, touches}
use Rattle.ov_tables.proofs.Statements.{does, meta_insert_terms, head_insert_terms, cell_insert_terms}
use Rattle.ov_tables.proofs.DeleteLemmas.{went, same_value, at_placed}

-- a choice between a value and itself
pub either : (b : Bool) (x : Value) → cond b x x ≡ x
either true x = refl
either false x = refl

cast_null : cast Integer Null ≡ Null
unfolding unary
cast_null = either _ Null

-- a row with a new number is added
pub record Inserts (table : Table) (row : ℤ → Row) (old new : State) : Type 0 where
  pub only : Touches table old.now new.now
  pub number : ℤ
  pub rows : rows_listed table.name new.now.trees ≡ put_row (row number) (rows_listed table.name old.now.trees)
  pub fresh : are_fresh (rows_listed table.name old.now.trees) (row number ∷ []) ≡ true

-- the row that a statement of these terms adds
abbrev pub Adds : Table → List Term → ℕ → Row → (ℤ → Row) → Type 0
Adds table terms width params row =
    (db : Trees) → (edit_of db table [] Chosen 0 (value_rows (stamped table params) width (length terms / width) terms)).news ≡ row (next_rowid (db table.tree)) ∷ []

module _ (old new : State) (name : List ℕ) (tree : ℕ) (columns : List Column) (key : List ℕ) (sql : List ℕ) (terms : List Term) (width : ℕ) (params : Row) (row : ℤ → Row) (parsed : Parsed)
    (has : HasTable old.now.schema (plain_table name tree columns key)) (sound : IsDatabase old.now)
    (known : (at : ℕ) → Stands old.now.schema (plain_table name tree columns key) at → understood old.now.schema sql ≡ Ok (does parsed (Insert at (Values terms width))))
    (adds : Adds (plain_table name tree columns key) terms width params row) where
  pub inserts : (count : ℕ) → Executes sql params old new (Ok count) → Inserts (plain_table name tree columns key) row old new
  inserts count h =
      let table = plain_table name tree columns key in
      let schema = old.now.schema in
      let stood = stands_in old.now table has sound in
      let at = stood.0 in
      let it = stood.1 in
      let db = old.now.trees in
      let command = Insert at (Values terms width) in
      let is = known at it in
      let w = runs_as sql params old new schema refl command (ap command_of is) (subst IsPlain (sym is) (refl, refl)) count h in
      let done = went (at_placed old params command at table (Ok (w.tally, new.now)) it.placed w.changed) in
      let now = ap (λ (p : Tally × Database). p.1) (same_value (went (went done.2).2).2) in
      let given = went done.1 in
      let written = went (went given.2).2 in
      let counted = went written.2 in
      let trees : done.0.trees ≡ written.0 = ap (λ (it : Written). it.trees) (same_value counted.2) ∙ same_value counted.1 in
      let path : new.now.trees ≡ written.0 = ap (λ (d : Database). d.trees) now ∙ trees in
      let edit = edit_of db table [] Chosen 0 given.0 in
      let step = subst (Applies schema _ db edit) (sym path) (our_step schema edit has _ db written.0 written.1) in
      let only = touches old.now new.now table has sound _ edit refl step (ap (λ (d : Database). d.schema) now) w.sound in
      let n = next_rowid (db table.tree) in
      let news : edit.news ≡ row n ∷ [] = ap (λ all. (edit_of db table [] Chosen 0 all).news) given.1.1 ∙ adds db in
      let was : db table.tree ≡ rows_listed table.name db = sym (rows_are old.now table has sound) in
      record {
        only = only;
        number = n;
        rows = rows_after old.now new.now table only has sound ∙ step.rows ∙ ap (λ all. put_all (db table.tree) all) news ∙ ap (put_row (row n)) was;
        fresh = ap (λ rows. are_fresh rows (row n ∷ [])) (sym was) ∙ ap (are_fresh (db table.tree)) (sym news) ∙ step.fresh;
      }

-- ---- the rows of the three tables

abbrev pub head_row : List ℕ → List ℕ → List ℕ → ℤ → Row
head_row t i v n = Int n ∷ Text t ∷ Blob i ∷ Blob v ∷ []

abbrev pub cell_row : List ℕ → List ℕ → List ℕ → List ℕ → ℤ → Row
cell_row t i c b n = Int n ∷ Text t ∷ Blob i ∷ Text c ∷ Blob b ∷ []

pub meta_adds : (l : ℕ) (k v : List ℕ) → Adds (meta_table l) meta_insert_terms 3 (Text k ∷ Blob v ∷ []) (meta_row k v)
meta_adds l k v db = rw cast_null refl

pub head_adds : (l : ℕ) (t i v : List ℕ) → Adds (head_table l) head_insert_terms 4 (Text t ∷ Blob i ∷ Blob v ∷ []) (head_row t i v)
head_adds l t i v db = rw cast_null refl

pub cell_adds : (l : ℕ) (t i c b : List ℕ) → Adds (cell_table l) cell_insert_terms 5 (Text t ∷ Blob i ∷ Text c ∷ Blob b ∷ []) (cell_row t i c b)
cell_adds l t i c b db = rw cast_null refl
