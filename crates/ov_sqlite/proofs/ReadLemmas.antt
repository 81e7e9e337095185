-- From heads that were read, and cells that were put into their lines, to what the tables hold.
use Rattle.std.proofs.Common.{◌≡◌, ◌∙◌, List, ◌++◌, map, refl, sym, subst, ℕ, Bool, true, false, IsTrue}
use Rattle.std.specs.List.Sorted.{IsPermutation}
use Rattle.sqlite.specs.Order.{Row}
use Rattle.sqlite.specs.Effect.{Database, IsDatabase}
use Rattle.ov_tables.specs.Tables.{HasCellTables}
use Rattle.ov_tables.specs.Format.{IsCell, IsCellFormat, cell_of, rows_of_head, rows_of_cell}
use Rattle.ov_tables.specs.Querying.{GivesRows, row_selected}
use Rattle.ov_sqlite.specs.Reading.{ReadsHeads, ReadsCells}
use Rattle.ov_sqlite.specs.declared.join.Joining.{Joining}
use Rattle.ov_sqlite.specs.Joined.{AreBare, HasJoined, HasRefused}
use Rattle.ov_sqlite.proofs.NumberLemmas.{all_first}
use Rattle.ov_sqlite.proofs.HeldLemmas.{stored_all, read_all, stored_numbered, cell_shown, shown_cell, heads_distinct, joined_same, owned_stored, owned_read}
use Rattle.ov_sqlite.proofs.JoinLemmas.{joined_entries, owned_first}

-- the same of a database that is the same
pub gives_at : (HasTaken Refused : List Row → Type 0) (a b : Bool) (d e : Database) → a ≡ b → d ≡ e → GivesRows HasTaken Refused (map row_selected (rows_of_cell d.trees)) a → GivesRows HasTaken Refused (map row_selected (rows_of_cell e.trees)) b
gives_at HasTaken Refused a b d e all same h =
    subst (GivesRows HasTaken Refused (map row_selected (rows_of_cell e.trees))) all (subst (λ (d : Database). GivesRows HasTaken Refused (map row_selected (rows_of_cell d.trees)) a) same h)

module _ (db : Database) (has : HasCellTables db.schema) (sound : IsDatabase db) (first now : Joining) (read : ReadsHeads (rows_of_head db.trees) first.lines.items) where
  bare : AreBare read.0 first.lines.items
  bare = (heads_distinct db has sound read.1.are read.0 read.1.same read.1.distinct, read.2)

  pub all_joined : (cells : List Row) → IsPermutation (map row_selected (rows_of_cell db.trees)) cells → HasJoined first now cells → ReadsCells db now.lines.items
  all_joined cells same it =
      let stored = rows_of_cell db.trees in
      let joins = it.joins read.0 bare in
      let are = stored_all row_selected stored cells same IsCell shown_cell it.are in
      let numbered = stored_numbered row_selected stored cells same cell_of (λ r. refl) (λ r. refl) it.numbered in
      record {
        heads = read.1.are;
        cells = are;
        owned = owned_stored (rows_of_head db.trees) read.0 stored cells read.1.same same joins.owned;
        heads_numbered = read.1.numbered;
        cells_numbered = numbered;
        joined = joined_same db has sound read.1.are are read.1.numbered numbered read.0 cells read.1.same same ∙ sym (joined_entries cells read.0 now.lines.items joins.joined);
      }

  pub one_refused : (cells rest : List Row) → IsPermutation (map row_selected (rows_of_cell db.trees)) (cells ++ rest) → HasRefused first now cells → IsTrue now.is_malformed → (text : List ℕ) → ¬ IsCellFormat text db
  one_refused cells rest same it bad text f =
      let stored = rows_of_cell db.trees in
      let no = it bad (all_first IsCell cells rest (read_all row_selected stored (cells ++ rest) same IsCell cell_shown f.cells)) read.0 bare in
      let yes = owned_first read.0 cells rest (owned_read (rows_of_head db.trees) read.0 stored (cells ++ rest) read.1.same same f.owned) in
      absurd (let clash : true ≡ false = sym yes ∙ no in cc)
