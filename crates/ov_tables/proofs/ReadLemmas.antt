-- What a query returns, and that it keeps the commit.
use Rattle.std.proofs.Common.{◌≡◌, ◌⊎◌, inl, inr, ℕ, List, [], ◌∷◌, map, refl, sym, ap, ap₂, subst, ◌∙◌, Option, Some, None, Result, Ok, Err, IfOk, IfErr, IsTrue, true, false}
use Rattle.std.specs.List.{flat_map}
use Rattle.std.specs.List.Sorted.{IsPermutation}
use Rattle.std.proofs.lemmas.List.Sorted.{IsPermutation-map}
use Rattle.sqlite.specs.declared.types.Value.TheVariants.{Null}
use Rattle.sqlite.specs.declared.error.Error.{Error}
use Rattle.sqlite.specs.Order.{Row}
use Rattle.sqlite.specs.Term.{Term}
use Rattle.sqlite.specs.Table.{Table}
use Rattle.sqlite.specs.Listing.{understood, reads_listing}
use Rattle.sqlite_syntax.specs.declared.statement.Parsed.{Parsed}
use Rattle.sqlite.specs.Query.{IsAnswer, output, Output}
use Rattle.sqlite.specs.Program.{overlay}
use Rattle.sqlite.specs.State.{State, Shown, IsRolledBack, IsUnchanged, KeepsCommit, ShowsRows, FailsToQuery, FailsToShow, IsNotRun, IsTooLate}
use Rattle.sqlite_resolve.specs.declared.compiled.Compiled.{Compiled}
use Rattle.sqlite_schema.specs.declared.command.Returning.{Returning}
use Rattle.sqlite.proofs.Callers.{IsPlain, command_of, reads_as}
use Rattle.ov_tables.specs.Tables.{HasTable}
use Rattle.ov_tables.proofs.TableLemmas.{Stands}
use Rattle.ov_tables.proofs.ListingLemmas.{stands_in, rows_are}
use Rattle.ov_tables.specs.Querying.{IsAsBefore}
use Rattle.ov_tables.proofs.Statements.{drafts, runs, does}
use Rattle.sqlite_draft.specs.Query.{query_of}
use Rattle.sqlite.specs.Effect.{IsDatabase}
use Rattle.ov_tables.specs.Format.{rows_listed}
use Rattle.sqlite.specs.Command.TheVariants.{Select}
use Rattle.ov_tables.proofs.RowLemmas.{map_then}
use Rattle.ov_tables.proofs.KeepLemmas.{unchanged_keeps, rolled_keeps}

pub each : {X Y : Type 0} (f : X → Y) (xs : List X) → flat_map (λ x. f x ∷ []) xs ≡ map f xs
each f [] = refl
each f (x ∷ xs) = ap (λ ys. f x ∷ ys) (each f xs)

module _ (old new : State) (table : Table) (sql : List ℕ) (project : List Term) (names : List (List ℕ)) (selected : Row → Row) (parsed : Parsed) (has : HasTable old.now.schema table) (sound : IsDatabase old.now)
    (known : (at : ℕ) → Stands old.now.schema table at → understood old.now.schema sql ≡ Ok (does parsed (Select (runs (drafts table.tree [] project)) names)))
    (listed : (at : ℕ) → Stands old.now.schema table at → reads_listing old.now.schema sql ≡ false) (shows : (r : Row) → output (query_of (drafts table.tree [] project)) ([] ∷ r ∷ []) ≡ ([], selected r)) where
  outputs : (rows : List Row) → map (λ r. output (query_of (drafts table.tree [] project)) ([] ∷ r ∷ [])) rows ≡ map (λ r. ([], selected r)) rows
  outputs [] = refl
  outputs (r ∷ rows) = ap₂ (λ x xs. x ∷ xs) (shows r) (outputs rows)

  -- what a SELECT of a whole table returns
  pub selects : (rows : List Row) → Shown sql [] old new rows → IsPermutation (map selected (rows_listed table.name old.now.trees)) rows
  selects rows h =
      let schema = old.now.schema in
      let tree = table.tree in
      let stood = stands_in old.now table has sound in
      let at = stood.0 in
      let it = stood.1 in
      let is = known at it in
      let query = query_of (drafts tree [] project) in
      let read = reads_as sql [] old new schema refl (Select (runs (drafts tree [] project)) names) (ap command_of is) (subst IsPlain (sym is) (refl, refl)) (listed at it) rows h in
      let db = old.now.trees in
      let a : IsAnswer query (overlay db []) [] rows = read.answer Null in
      let here : overlay db [] tree ≡ rows_listed table.name db = rw it.not_high (sym (rows_are old.now table has sound)) in
      let kept : a.kept ≡ map (λ r. ([], selected r)) (rows_listed table.name db) =
      a.distinct ∙ ap (map (output query)) (a.grouped ∙ each (λ r. [] ∷ r ∷ []) (overlay db [] tree)) ∙ map_then (λ r. [] ∷ r ∷ []) (output query) (overlay db [] tree) ∙ outputs (overlay db [] tree) ∙ ap (map (λ r. ([], selected r))) here in
      let same : IsPermutation (map (λ (o : Output). o.1) (map (λ r. ([], selected r)) (rows_listed table.name db))) (map (λ (o : Output). o.1) a.ordered) =
      IsPermutation-map (λ (o : Output). o.1) _ _ (subst (λ k. IsPermutation k a.ordered) kept a.same) in
      subst (λ xs. IsPermutation xs rows) (map_then (λ r. ([], selected r)) (λ (o : Output). o.1) (rows_listed table.name db)) (subst (IsPermutation _) (sym a.shown) same)

opened_by : (sql : List ℕ) (old new : State) (c : Compiled) (params : Row) (rows : List Row) (o : Option Returning) → ShowsRows old new sql c params rows o → IsTrue old.is_open
opened_by sql old new c params rows None h = h.3.0.was_open
opened_by sql old new c params rows (Some what) h = h.1.shown.was_open

-- a statement that shows rows was run
pub shown_open : (sql : List ℕ) (params : Row) (old new : State) (rows : List Row) → Shown sql params old new rows → IsTrue old.is_open
unfolding Shown
shown_open sql params old new rows h = opened_by sql old new h.0 _ rows h.0.returning h.2

rows_keep : (sql : List ℕ) (a b : State) (c : Compiled) (params : Row) (rows : List Row) (o : Option Returning) → a.in_transaction ≡ true → ShowsRows a b sql c params rows o → KeepsCommit a b
rows_keep sql a b c params rows None mode h = unchanged_keeps a b h.3
rows_keep sql a b c params rows (Some what) mode h = record { was_open = λ _. h.1.shown.was_open; committed = λ _. rw mode at h.1.shown.committed_is }

-- within a transaction a query keeps the commit, whether it returns rows or fails
pub shown_keeps : (sql : List ℕ) (params : Row) (a b : State) (rows : List Row) → a.in_transaction ≡ true → Shown sql params a b rows → KeepsCommit a b
unfolding Shown
shown_keeps sql params a b rows mode h = rows_keep sql a b h.0 _ rows h.0.returning mode h.2

not_run_keeps : (sql : List ℕ) (params : Row) (a b : State) (e : Error) → IsNotRun a b sql params e → KeepsCommit a b
unfolding IsNotRun
not_run_keeps sql params a b e (inl refused) = unchanged_keeps a b refused.1
not_run_keeps sql params a b e (inr fails) = rolled_keeps a b fails.3

show_keeps : (sql : List ℕ) (params : Row) (a b : State) (c : Compiled) (e : Error) (o : Option Returning) → FailsToShow a b sql c params e o → KeepsCommit a b
show_keeps sql params a b c e None h = unchanged_keeps a b h.3
show_keeps sql params a b c e (Some what) (inl refused) = unchanged_keeps a b refused.1
show_keeps sql params a b c e (Some what) (inr fails) = rolled_keeps a b fails.3

pub fails_keeps : (sql : List ℕ) (params : Row) (a b : State) (e : Error) → FailsToQuery sql params a b e ⊎ IsTooLate sql params a b e → KeepsCommit a b
unfolding FailsToQuery
fails_keeps sql params a b e (inl (inl none)) = not_run_keeps sql params a b e none
fails_keeps sql params a b e (inl (inr h)) = show_keeps sql _ a b h.0 e h.0.returning h.2
fails_keeps sql params a b e (inr late) = unchanged_keeps a b late.5

-- and then the rollback restores what was there
pub rolled_as_before : (old begun mid new : State) → (IsTrue begun.is_open → IsTrue old.is_open) → (IsTrue begun.is_open → begun.committed ≡ old.now) → KeepsCommit begun mid → IsRolledBack mid new → IsAsBefore old new
rolled_as_before old begun mid new opens settled kept back = record {
  was_open = λ up. opens (kept.was_open (back.was_open up));
  now = λ up. (back.undone up).0 ∙ kept.committed (back.was_open up) ∙ settled (kept.was_open (back.was_open up));
}

-- a text that was compiled, or was not, leaves a settled connection as it was
pub unchanged_as_before : (a b : State) → IsUnchanged a b → IsAsBefore a b
unchanged_as_before a b same = record { was_open = λ _. same.0.was_open; now = λ _. same.0.now_is }

pub not_run_as_before : (a b : State) (sql : List ℕ) (params : Row) (e : Error) → IsNotRun a b sql params e → (IsTrue a.is_open → a.now ≡ a.committed) → IsAsBefore a b
unfolding IsNotRun
not_run_as_before a b sql params e (inl refused) settled = unchanged_as_before a b refused.1
not_run_as_before a b sql params e (inr fails) settled = record {
  was_open = fails.3.was_open;
  now = λ up. (fails.3.undone up).0 ∙ sym (settled (fails.3.was_open up));
}

pub prepared_as_before : {T : Type 0} (P : T → Type 0) (a b : State) (sql : List ℕ) (r : Result T Error) → IfOk r (λ s. P s × IsUnchanged a b) → IfErr r (λ e. (params : Row) → IsNotRun a b sql params e)
    → (IsTrue a.is_open → a.now ≡ a.committed) → IsAsBefore a b
prepared_as_before P a b sql (Ok s) ok err settled = unchanged_as_before a b ok.1
prepared_as_before P a b sql (Err e) ok err settled = not_run_as_before a b sql [] e (err []) settled
