-- What a DELETE does to its table.
use Rattle.std.proofs.Common.{◌≡◌, ◌⊎◌, inl, inr, ℕ, List, [], ◌∷◌, map, filter, Bool, None, Ok, Err, Result, refl, ap, subst, ◌∙◌, sym, slice_get, Some}
use Rattle.std.specs.List.{list_all}
use Rattle.std.specs.List.Sorted.{IsPermutation}
use Rattle.sqlite.specs.declared.types.Value.TheVariants.{Null}
use Rattle.sqlite.specs.Order.{Row}
use Rattle.sqlite.specs.Term.{Term}
use Rattle.sqlite_sql.specs.Term.{holds}
use Rattle.sqlite.specs.Query.{IsAnswer, output, Output}
use Rattle.sqlite.specs.Program.{overlay}
use Rattle.sqlite.specs.Command.TheVariants.{Delete}
use Rattle.sqlite.specs.Edit.{edit_of}
use Rattle.sqlite_rules.specs.Edit.{without_all, Applies}
use Rattle.sqlite_rules.specs.Calls.{ids_of}
use Rattle.sqlite_rules.specs.declared.error.Rowids.TheVariants.{Given}
use Rattle.sqlite.specs.Does.{Tally, AtPlace, OnRows}
use Rattle.sqlite.specs.Rows.{Written, Outcome, Task}
use Rattle.sqlite.specs.Command.{Command}
use Rattle.sqlite.specs.Table.{Table}
use Rattle.sqlite.specs.Tree.{rowid}
use Rattle.sqlite.specs.Effect.{Database, IsDatabase}
use Rattle.sqlite.specs.State.{State, mode_of, Executes}
use Rattle.sqlite.specs.Listing.{understood}
use Rattle.sqlite.proofs.Callers.{IsPlain, command_of, runs_as}
use Rattle.sqlite_syntax.specs.declared.statement.Parsed.{Parsed}
use Rattle.sqlite_draft.specs.Query.{query_of}
use Rattle.ov_tables.specs.Tables.{HasTable}
use Rattle.ov_tables.specs.Format.{rows_listed}
use Rattle.ov_tables.proofs.TableLemmas.{our_step, Stands}
use Rattle.ov_tables.proofs.ListingLemmas.{Touches, stands_in, rows_are, rows_after, touches}
use Rattle.ov_tables.proofs.Statements.{numbers, runs, does}
use Rattle.ov_tables.proofs.RowLemmas.{flat_filter, map_then}

-- a part that gave a value did not stop on the way
pub went : {B E R : Type 0} {b : B} {Stops : E → Type 0} → ((failure : E) × Stops failure × (Ok b ≡ Err failure)) ⊎ R → R
went (inl stopped) = absurd (let e = stopped.2 in cc)
went (inr on) = on

pub same_value : {B E : Type 0} {a b : B} → ◌≡◌ {A = Result B E} (Ok a) (Ok b) → a ≡ b
same_value e = cc

-- what a statement reads, that writes to the table at a place
abbrev pub task_of : State → Row → Table → Task
task_of old params table = record { limit = old.step_limit; keys = (mode_of old).keys; schema = old.now.schema; table = table; params = params }

pub at_placed : (old : State) (params : Row) (command : Command) (at : ℕ) (table : Table) (out : Outcome (Tally × Database)) → slice_get old.now.schema.tables at ≡ Some table
    → AtPlace (λ table. OnRows (task_of old params table) (mode_of old) None command old.now.trees) (slice_get old.now.schema.tables at) out → OnRows (task_of old params table) (mode_of old) None command old.now.trees out
at_placed old params command at table out placed h = subst (λ o. AtPlace (λ table. OnRows (task_of old params table) (mode_of old) None command old.now.trees) o out) placed h

-- the row passes the tests of a statement with these parameters
abbrev pub passing : List Term → Row → Row → Bool
passing tests params r = list_all (holds (params ∷ r ∷ [])) tests

pub record Deletes (table : Table) (tests : List Term) (params : Row) (old new : State) : Type 0 where
  pub only : Touches table old.now new.now
  pub rows : List Row
  pub same : (ordered : List Output) × IsPermutation (map (λ r. ([], rowid r ∷ [])) (filter (passing tests params) (rows_listed table.name old.now.trees))) ordered × (rows ≡ map (λ o. o.1) ordered)
  pub left : rows_listed table.name new.now.trees ≡ without_all (rows_listed table.name old.now.trees) (ids_of rows)

module _ (old new : State) (table : Table) (sql : List ℕ) (tests : List Term) (params : Row) (parsed : Parsed) (has : HasTable old.now.schema table) (sound : IsDatabase old.now)
    (known : (at : ℕ) → Stands old.now.schema table at → understood old.now.schema sql ≡ Ok (does parsed (Delete at (runs (numbers tests table.tree))))) where
  pub deletes : (count : ℕ) → Executes sql params old new (Ok count) → Deletes table tests params old new
  deletes count h =
      let schema = old.now.schema in
      let stood = stands_in old.now table has sound in
      let at = stood.0 in
      let it = stood.1 in
      let db = old.now.trees in
      let gone = query_of (numbers tests table.tree) in
      let command = Delete at (runs (numbers tests table.tree)) in
      let is = known at it in
      let w = runs_as sql params old new schema refl command (ap command_of is) (subst IsPlain (sym is) (refl, refl)) count h in
      let done = went (at_placed old params command at table (Ok (w.tally, new.now)) it.placed w.changed) in
      let now = ap (λ (p : Tally × Database). p.1) (same_value (went (went done.2).2).2) in
      let given = went done.1 in
      let written = went given.2 in
      let trees : done.0.trees ≡ written.0 = ap (λ (it : Written). it.trees) (same_value written.2) in
      let path : new.now.trees ≡ written.0 = ap (λ (d : Database). d.trees) now ∙ trees in
      let edit = edit_of db table (ids_of given.0) Given 0 [] in
      let step = subst (Applies schema _ db edit) (sym path) (our_step schema edit has _ db written.0 written.1) in
      let only = touches old.now new.now table has sound _ edit refl step (ap (λ (d : Database). d.schema) now) w.sound in
      let a : IsAnswer gone (overlay db []) params given.0 = given.1.answer Null in
      let read : overlay db [] table.tree ≡ rows_listed table.name db = rw it.not_high (sym (rows_are old.now table has sound)) in
      let kept : a.kept ≡ map (λ r. ([], rowid r ∷ [])) (filter (passing tests params) (rows_listed table.name db)) =
      a.distinct ∙ ap (map (output gone)) (a.grouped ∙ flat_filter (passing tests params) (λ r. params ∷ r ∷ []) (overlay db [] table.tree)) ∙ map_then (λ r. params ∷ r ∷ []) (output gone) (filter (passing tests params) (overlay db [] table.tree))
      ∙ ap (λ rows. map (λ r. ([], rowid r ∷ [])) (filter (passing tests params) rows)) read in
      record {
        only = only;
        rows = given.0;
        same = (a.ordered, subst (λ k. IsPermutation k a.ordered) kept a.same, a.shown);
        left = rows_after old.now new.now table only has sound ∙ step.rows ∙ ap (λ rows. without_all rows (ids_of given.0)) (sym (rows_are old.now table has sound));
      }
