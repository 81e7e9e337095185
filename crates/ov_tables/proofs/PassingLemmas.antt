-- What a query of some rows of a table returns.
use Rattle.std.proofs.Common.{◌≡◌, ◌⊎◌, ℕ, List, [], ◌∷◌, map, filter, refl, sym, ap, ap₂, subst, ◌∙◌, Option, Some, None, Result, Ok, Err, IfOk, IfErr, OnOk, true, false}
use Rattle.std.specs.List.{AllByRecursion}
use Rattle.std.specs.List.Sorted.{IsPermutation}
use Rattle.std.proofs.lemmas.List.Sorted.{IsPermutation-map}
use Rattle.sqlite.specs.declared.types.Value.TheVariants.{Null, Text, Blob}
use Rattle.sqlite.specs.declared.error.Error.{Error}
use Rattle.sqlite.specs.Order.{Row}
use Rattle.sqlite.specs.Term.{Term}
use Rattle.sqlite.specs.Table.{Table}
use Rattle.sqlite.specs.Listing.{understood, reads_listing}
use Rattle.sqlite_syntax.specs.declared.statement.Parsed.{Parsed}
use Rattle.sqlite.specs.Query.{IsAnswer, output, Output}
use Rattle.sqlite.specs.Program.{overlay}
use Rattle.sqlite.specs.Clock.{timed}
use Rattle.sqlite.specs.State.{State, Shown, IsUnchanged, KeepsCommit, ShowsRows, FailsToQuery, IsTooLate}
use Rattle.sqlite_resolve.specs.declared.compiled.Compiled.{Compiled}
use Rattle.sqlite_schema.specs.declared.command.Returning.{Returning}
use Rattle.sqlite.proofs.Callers.{IsPlain, command_of, reads_as}
use Rattle.sqlite_draft.specs.Query.{query_of}
use Rattle.sqlite_trees.proofs.ListLemmas.{filter_same, all_weaker}
use Rattle.sqlite.specs.Effect.{IsDatabase}
use Rattle.sqlite.specs.Command.TheVariants.{Select}
use Rattle.ov_specs.specs.rows.Lines.{LineKey}
use Rattle.ov_tables.specs.Tables.{HasTable, cell_table, cells_of_text}
use Rattle.ov_tables.specs.Format.{IsCell, rows_listed, rows_of_cell}
use Rattle.ov_tables.specs.Querying.{ReadsKey, cell_selected}
use Rattle.ov_tables.proofs.TableLemmas.{Stands}
use Rattle.ov_tables.proofs.ListingLemmas.{stands_in, rows_are}
use Rattle.ov_tables.proofs.Statements.{drafts, runs, does, key_terms, cells_of_parsed}
use Rattle.ov_tables.proofs.RowLemmas.{flat_filter, map_then, has_key, passes_key}
use Rattle.ov_tables.proofs.DeleteLemmas.{passing}
use Rattle.ov_tables.proofs.ReadLemmas.{shown_keeps, fails_keeps}
use Rattle.ov_tables.proofs.CellTexts.{cells_of_is, cells_of_listed}

module _ (old new : State) (table : Table) (sql : List ℕ) (tests project : List Term) (params : Row) (names : List (List ℕ)) (selected : Row → Row) (parsed : Parsed) (has : HasTable old.now.schema table) (sound : IsDatabase old.now)
    (known : (at : ℕ) → Stands old.now.schema table at → understood old.now.schema sql ≡ Ok (does parsed (Select (runs (drafts table.tree tests project)) names)))
    (listed : (at : ℕ) → Stands old.now.schema table at → reads_listing old.now.schema sql ≡ false) (shows : (r : Row) → output (query_of (drafts table.tree tests project)) (params ∷ r ∷ []) ≡ ([], selected r)) where
  outputs : (rows : List Row) → map (λ r. output (query_of (drafts table.tree tests project)) (params ∷ r ∷ [])) rows ≡ map (λ r. ([], selected r)) rows
  outputs [] = refl
  outputs (r ∷ rows) = ap₂ (λ x xs. x ∷ xs) (shows r) (outputs rows)

  -- a SELECT with tests returns the rows that pass them
  pub selects_passing : (rows : List Row) → Shown sql params old new rows → IsPermutation (map selected (filter (passing tests params) (rows_listed table.name old.now.trees))) rows
  selects_passing rows h =
      let schema = old.now.schema in
      let tree = table.tree in
      let stood = stands_in old.now table has sound in
      let at = stood.0 in
      let it = stood.1 in
      let is = known at it in
      let query = query_of (drafts tree tests project) in
      let passed = filter (passing tests params) (rows_listed table.name old.now.trees) in
      let read = reads_as sql params old new schema refl (Select (runs (drafts tree tests project)) names) (ap command_of is) (subst IsPlain (sym is) (refl, refl)) (listed at it) rows h in
      let db = old.now.trees in
      let a : IsAnswer query (overlay db []) params rows = read.answer Null in
      let here : overlay db [] tree ≡ rows_listed table.name db = rw it.not_high (sym (rows_are old.now table has sound)) in
      let kept : a.kept ≡ map (λ r. ([], selected r)) passed =
      a.distinct ∙ ap (map (output query)) (a.grouped ∙ flat_filter (passing tests params) (λ r. params ∷ r ∷ []) (overlay db [] tree)) ∙ map_then (λ r. params ∷ r ∷ []) (output query) (filter (passing tests params) (overlay db [] tree))
      ∙ outputs (filter (passing tests params) (overlay db [] tree)) ∙ ap (λ rows. map (λ r. ([], selected r)) (filter (passing tests params) rows)) here in
      let same : IsPermutation (map (λ (o : Output). o.1) (map (λ r. ([], selected r)) passed)) (map (λ (o : Output). o.1) a.ordered) =
      IsPermutation-map (λ (o : Output). o.1) _ _ (subst (λ k. IsPermutation k a.ordered) kept a.same) in
      subst (λ xs. IsPermutation xs rows) (map_then (λ r. ([], selected r)) (λ (o : Output). o.1) passed) (subst (IsPermutation _) (sym a.shown) same)

  -- and changes nothing
  pub selects_unchanged : (rows : List Row) → Shown sql params old new rows → IsUnchanged old new
  unfolding Shown
  selects_unchanged rows h =
      let stood = stands_in old.now table has sound in
      let is = sym h.1.is ∙ known stood.0 stood.1 in
      let bare = subst IsPlain (sym is) (refl, refl) in
      let it : ShowsRows old new sql h.0 (timed params h.0.formats h.1.now) rows None = subst (ShowsRows old new sql h.0 (timed params h.0.formats h.1.now) rows) bare.0 h.2 in
      it.3

-- the cells of a key are read, and nothing else is done
pub key_read : (old new : State) (tree : ℕ) (k : LineKey) → HasTable old.now.schema (cell_table tree) → IsDatabase old.now → AllByRecursion IsCell (rows_of_cell old.now.trees)
    → (rows : List Row) → Shown cells_of_text (Text k.0 ∷ Blob k.1 ∷ []) old new rows → ReadsKey k rows old new
key_read old new tree k has sound cells rows h =
    let schema = old.now.schema in
    let params : Row = Text k.0 ∷ Blob k.1 ∷ [] in
    let stored = rows_of_cell old.now.trees in
    let tests : filter (passing key_terms params) stored ≡ filter (has_key k) stored = filter_same _ _ stored (all_weaker _ _ (λ r (is : IsCell r). passes_key k r is.keyed) stored cells) in
    let same = selects_passing old new (cell_table tree) cells_of_text key_terms _ params _ cell_selected cells_of_parsed has sound (λ at it. cells_of_is schema at tree it) (λ at it. cells_of_listed schema at tree it) (λ r. refl) rows h in
    record {
      same = selects_unchanged old new (cell_table tree) cells_of_text key_terms _ params _ cell_selected cells_of_parsed has sound (λ at it. cells_of_is schema at tree it) (λ at it. cells_of_listed schema at tree it) (λ r. refl) rows h;
      cells = subst (λ passed. IsPermutation (map cell_selected passed) rows) tests same;
    }

-- ---- any query within a transaction

mode_stays : (sql : List ℕ) (a b : State) (c : Compiled) (params : Row) (rows : List Row) (o : Option Returning) → ShowsRows a b sql c params rows o → b.in_transaction ≡ a.in_transaction
mode_stays sql a b c params rows None h = h.3.0.mode
mode_stays sql a b c params rows (Some what) h = h.1.shown.mode

-- the transaction goes on
pub shown_mode : (sql : List ℕ) (params : Row) (a b : State) (rows : List Row) → Shown sql params a b rows → b.in_transaction ≡ a.in_transaction
unfolding Shown
shown_mode sql params a b rows h = mode_stays sql a b h.0 _ rows h.0.returning h.2

-- and nothing is committed
pub answer_keeps : {X : Type 0} (items : X → List Row) (sql : List ℕ) (params : Row) (a b : State) (r : Result X Error) → a.in_transaction ≡ true → IfOk r (λ rows. Shown sql params a b (items rows))
    → IfErr r (λ e. FailsToQuery sql params a b e ⊎ IsTooLate sql params a b e) → KeepsCommit a b
answer_keeps items sql params a b (Ok rows) mode ok err = shown_keeps sql params a b (items rows) mode ok
answer_keeps items sql params a b (Err e) mode ok err = fails_keeps sql params a b e err

-- what is so of each answer is so where there is one
pub on_answer : {X A : Type 0} (P : X → Type 0) (r : Result X Error) → IfOk r P → ((x : X) → P x → A) → OnOk r A
on_answer P (Ok x) h f = f x h
on_answer P (Err e) h f = tt
