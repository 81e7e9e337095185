-- The rows of a query, given one at a time.
use Rattle.std.proofs.Common.{◌≡◌, inl, inr, ℕ, List, [], ◌∷◌, ◌++◌, map, codes, refl, sym, subst, ◌∙◌, MatchBool, Bool, true, false, if◌then◌else◌, Option, Some, None, Result, Ok, Err, IsTrue}
use Rattle.std.specs.List.Sorted.{IsPermutation}
use Rattle.sqlite.specs.declared.error.Error.{Error}
use Rattle.sqlite.specs.Order.{Row}
use Rattle.sqlite.specs.Effect.{Database, IsDatabase}
use Rattle.sqlite.specs.Listing.{understood, reads_listing, if_select, is_select, listing_schema}
use Rattle.sqlite.specs.Schema.{Schema}
use Rattle.sqlite.specs.Store.{Ghosts}
use Rattle.sqlite.specs.Held.{Held, state}
use Rattle.sqlite.specs.State.{State, Shown, Begins, IsUnchanged, Fails, Survives, FailsToQuery, FailsToShow, CommitsShowing}
use Rattle.sqlite.specs.Given.{Returns, HasGiven, HasBegun, GivesOn}
use Rattle.sqlite.proofs.StateLemmas.{survives_weaker}
use Rattle.sqlite.proofs.Callers.{EndsIn, begins_shown}
use Rattle.sqlite_schema.specs.declared.command.Command.{Command}
use Rattle.sqlite_schema.specs.declared.command.Returning.{Returning}
use Rattle.sqlite_resolve.specs.declared.compiled.Compiled.{Compiled}
use Rattle.sqlite_resolve.specs.declared.error.CompileError.{CompileError}
use Rattle.sqlite_resolve.specs.declared.error.CompileError.TheVariants.{NoSuchTable}
use Rattle.sqlite_resolve.specs.Compile.{compiled, planned, meaning, returning, with_command}
use Rattle.sqlite_resolve.specs.Lowering.{Checked, and_then}
use Rattle.ov_tables.specs.Tables.{HasTable, cell_table, tree_number, cell_select_text}
use Rattle.ov_tables.specs.Format.{rows_of_cell}
use Rattle.ov_tables.specs.Querying.{IsAsBefore, row_selected}
use Rattle.ov_tables.proofs.Statements.{cell_select_parsed, cell_select_first}
use Rattle.ov_tables.proofs.CellTexts.{cell_select_is, cell_select_listed}
use Rattle.ov_tables.proofs.ListingLemmas.{stands_in}
use Rattle.ov_tables.proofs.ReadLemmas.{selects, unchanged_as_before, not_run_as_before}

-- ---- a query returns nothing of a write, whatever the schema is

abbrev returning_of : Result Compiled CompileError → Option Returning
returning_of (Ok c) = c.returning
returning_of (Err e) = None

compiled_bare : (schema : Schema) → returning_of (compiled schema cell_select_text) ≡ None
unfolding compiled planned meaning returning
compiled_bare schema = rw cell_select_first (go _ _)
  where
    go : (formats : List (List ℕ)) (r : Checked Command) → returning_of (and_then (and_then (and_then r (λ k. Ok (k, None))) (λ found. Ok (formats, found))) (λ plan. Ok (with_command cell_select_parsed plan))) ≡ None
    go formats (Ok k) = refl
    go formats (Err e) = refl

understood_bare : (schema : Schema) → returning_of (understood schema cell_select_text) ≡ None
unfolding understood
understood_bare schema = at (reads_listing schema cell_select_text)
  where
    chosen : (r : Result Compiled CompileError) → returning_of r ≡ None → returning_of (if_select r) ≡ None
    chosen (Ok c) e = elim (is_select c.command) as (λ b. returning_of (if b then Ok c else Err NoSuchTable) ≡ None) [ true ↦ e | false ↦ refl ]
    chosen (Err e) h = refl

    at : (b : Bool) → returning_of (if b then if_select (compiled listing_schema cell_select_text) else compiled schema cell_select_text) ≡ None
    at true = chosen (compiled listing_schema cell_select_text) (compiled_bare listing_schema)
    at false = compiled_bare schema

never_returns : (schema : Schema) → ¬ Returns (understood schema cell_select_text)
never_returns schema = go _ (understood_bare schema)
  where
    go : (r : Result Compiled CompileError) → returning_of r ≡ None → ¬ Returns r
    go (Ok c) none some = absurd (let it = rw none at some in cc)
    go (Err e) none some = some

-- so it begins with no row given
pub begun_query : {S : Type 0} (g : Ghosts S) (params : Row) (old new : Held S) → HasBegun g cell_select_text params old new → HasGiven g cell_select_text params new [] × IsUnchanged (state g old) (state g new)
begun_query g params old new (inl h) = h
begun_query g params old new (inr h) = absurd (never_returns old.schema h.0)

-- and commits nothing
pub query_commits_nothing : (params : Row) (old new : State) → Survives old new (CommitsShowing cell_select_text params old) → Survives old new (λ _. ⊥)
unfolding CommitsShowing
query_commits_nothing params old new = survives_weaker old new _ _ (λ _ db h. never_returns old.now.schema (subst Returns (sym h.1.is) h.2))

-- ---- what a query that does not begin leaves

fails_as_before : (too_big : Type 0) (a b : State) (e : Error) → Fails a b too_big e → (IsTrue a.is_open → a.now ≡ a.committed) → IsAsBefore a b
fails_as_before too_big a b e fails settled = record {
  was_open = fails.3.was_open;
  now = λ up. (fails.3.undone up).0 ∙ sym (settled (fails.3.was_open up));
}

show_as_before : (sql : List ℕ) (params : Row) (a b : State) (c : Compiled) (e : Error) (o : Option Returning) → FailsToShow a b sql c params e o → (IsTrue a.is_open → a.now ≡ a.committed) → IsAsBefore a b
show_as_before sql params a b c e None h settled = unchanged_as_before a b h.3
show_as_before sql params a b c e (Some what) (inl refused) settled = unchanged_as_before a b refused.1
show_as_before sql params a b c e (Some what) (inr fails) settled = fails_as_before _ a b e fails settled

pub query_fails_as_before : (sql : List ℕ) (params : Row) (a b : State) (e : Error) → FailsToQuery sql params a b e → (IsTrue a.is_open → a.now ≡ a.committed) → IsAsBefore a b
unfolding FailsToQuery
query_fails_as_before sql params a b e (inl none) settled = not_run_as_before a b sql params e none settled
query_fails_as_before sql params a b e (inr h) settled = show_as_before sql _ a b h.0 e h.0.returning h.2 settled

-- ---- the rows that are given

unchanged_now : (s : State) → IsTrue s.is_open → IsUnchanged s s
unchanged_now s up = (record { was_open = up; is_open = up; now_is = refl; committed_is = refl; mode = refl }, record { changes = refl; last_rowid = refl }, refl)

abbrev HasCells : Database → Type 0
HasCells db = HasTable db.schema (cell_table (tree_number db.schema (codes "cell"))) × IsDatabase db

module _ (old at : State) (has : HasCells old.now) (same : IsUnchanged old at) where
  there : HasCells at.now
  there = subst HasCells (sym same.0.now_is) has

  -- when the query ends, they are those of the table
  pub all_given : (after : State) (rows : List Row) → Shown cell_select_text [] at after rows → IsPermutation (map row_selected (rows_of_cell old.now.trees)) rows
  all_given after rows h =
      let schema = at.now.schema in
      let tree = tree_number schema (codes "cell") in
      subst (λ (d : Database). IsPermutation (map row_selected (rows_of_cell d.trees)) rows) same.0.now_is
      (selects at after (cell_table tree) cell_select_text _ _ row_selected cell_select_parsed there.0 there.1 (λ k it. cell_select_is schema k tree it) (λ k it. cell_select_listed schema k tree it) (λ r. refl) rows h)

  ends : (c : Compiled) (db : Database) (params : Row) → understood at.now.schema cell_select_text ≡ Ok c → EndsIn c.command db params
  ends c db params is =
      let schema = at.now.schema in
      let tree = tree_number schema (codes "cell") in
      let stood = stands_in at.now (cell_table tree) there.0 there.1 in
      go _ (sym (cell_select_is schema stood.0 tree stood.1) ∙ is) tt
    where
      go : (d : Compiled) → Path (Result Compiled CompileError) (Ok d) (Ok c) → EndsIn d.command db params → EndsIn c.command db params
      go d e h = let known : d ≡ c = cc in subst (λ k. EndsIn k.command db params) known h

  -- before that, they are some of them
  pub some_given : (rows : List Row) → Begins cell_select_text [] at rows → (rest : List Row) × IsPermutation (map row_selected (rows_of_cell old.now.trees)) (rows ++ rest)
  some_given rows h =
      let whole = begins_shown cell_select_text [] at at rows h (unchanged_now at same.0.is_open) (λ c db it from. ends c db _ it.is) in
      (whole.0, all_given at (rows ++ whole.0) whole.1)

-- ---- what a call says of the next row

module _ {S : Type 0} (g : Ghosts S) (old new : Held S) (given : List Row) (seen found : Option Row) (is : seen ≡ found) (on : GivesOn g cell_select_text [] old new given found) where
  pub none_seen : seen ≡ None → Shown cell_select_text [] (state g old) (state g new) given
  none_seen none = subst (GivesOn g cell_select_text [] old new given) (sym is ∙ none) on

  pub row_seen : (row : Row) → seen ≡ Some row → HasGiven g cell_select_text [] new (given ++ row ∷ [])
  row_seen row some = subst (GivesOn g cell_select_text [] old new given) (sym is ∙ some) on

pub refused_by : (A B : Type 0) (b : Bool) → b ≡ false → MatchBool b A B → B
refused_by A B true e h = absurd (let clash : true ≡ false = e in cc)
refused_by A B false e h = h
