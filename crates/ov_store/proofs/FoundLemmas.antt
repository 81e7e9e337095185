-- From what a write leaves of the connection to what an open may find.
use Rattle.std.proofs.Common.{◌≡◌, ◌≢◌, ◌⊎◌, inl, inr, ℕ, List, [], map, refl, sym, ap, ap₂, subst, ◌∙◌, arith, IsTrue, true, ◌==◌}
use Rattle.std.proofs.lemmas.Bool.Decides.{nat_tests}
use Rattle.sqlite.specs.Store.{Ghosts}
use Rattle.sqlite.specs.Tree.{Trees}
use Rattle.sqlite.specs.Effect.{Database}
use Rattle.sqlite.specs.Schema.{Schema}
use Rattle.sqlite.specs.Change.{KeepsRows}
use Rattle.sqlite.specs.State.{State, HasCleanDisk, Survives, KeepsCommit, IsUnchanged}
use Rattle.sqlite.specs.Held.{Held as Connected, state}
use Rattle.ov_specs.specs.rows.Cells.{CellChange, CellLines, Stored, InCells, after_cell_changes, cell_lines, rewritten}
use Rattle.ov_keeper.specs.declared.keeper.Loaded.{Loaded}
use Rattle.ov_keeper.specs.Keeping.{LeavesNoMore, LeavesMade, MayLeaveMade, LeavesRefused, IsCommitFault, changed, loaded_contents}
use Rattle.ov_keeper.specs.declared.fault.KeepFault.{KeepFault}
use Rattle.ov_keeper.specs.declared.fault.KeepFault.TheVariants.{Memory, Device, NotOurs, Format, TooLarge}
use Rattle.ov_tables.specs.Tables.{row_trees, line_trees, cell_trees}
use Rattle.ov_tables.specs.Format.{stored_in, stored_cells, head_of, cell_of, IsMeta, rows_of_meta, rows_of_head, rows_of_cell}
use Rattle.ov_tables.specs.Holding.{MayBeStored, MayHoldCells, KeepsOthers}
use Rattle.ov_sqlite.specs.Changing.{Stores, IsCommitImage}
use Rattle.ov_tables.specs.Emptying.{KeepsRest}
use Rattle.ov_sqlite.specs.Rewriting.{Rewrites, IsRewriteImage}
use Rattle.ov_store.specs.Finding.{new_contents}
use Rattle.ov_store.specs.Loading.{HoldsLoaded}
use Rattle.ov_store.specs.StoreState.{MayFind, LeavesOthers, LeavesRest, LeavesTables}
use Rattle.ov_tables.specs.Making.{IsNew}
use Rattle.ov_sqlite.proofs.HeldLemmas.{held_cells_meta}
use Rattle.std.specs.FinMap.{empty}
use Rattle.sqlite.proofs.StateLemmas.{survives_then}
use Rattle.ov_tables.specs.declared.write_error.WriteError.{WriteError}
use Rattle.ov_tables.specs.WriteError.{IsBefore}
use Rattle.ov_tables.proofs.KeepLemmas.{nothing_then, survives_as, others_now}

pub is_zero : (n : ℕ) → true ≡ (n == 0) → n ≡ 0
is_zero n e = grind (arith, nat_tests)

pub refused : (made : Stored → Stored) (A B : Stored → Type 0) (fault : KeepFault) → IsCommitFault fault → fault ≢ Device → LeavesNoMore A B → LeavesRefused made A B fault
refused made A B Memory kind other kept = kept
refused made A B TooLarge kind other kept = kept
refused made A B Device kind other kept = absurd (other refl)
refused made A B NotOurs kind other kept = kind
refused made A B Format kind other kept = kind

device_or : (fault : KeepFault) → (fault ≡ Device) ⊎ (fault ≢ Device)
device_or Device = inl refl
device_or Memory = inr (λ e. absurd cc)
device_or TooLarge = inr (λ e. absurd cc)
device_or NotOurs = inr (λ e. absurd cc)
device_or Format = inr (λ e. absurd cc)

-- the same rows of `meta`, in format 2, and rows that are changed
pub held_changed : (text : List ℕ) (changes : List CellChange) (before after : Trees) → IsMeta 2 text (rows_of_meta before) → rows_of_meta after ≡ rows_of_meta before
    → stored_cells after ≡ after_cell_changes changes (stored_cells before) → stored_in after ≡ changed changes (stored_in before)
held_changed text changes before after named meta cells =
    held_cells_meta text after (subst (IsMeta 2 text) (sym meta) named)
    ∙ ap (λ (rows : CellLines). record { schema = text; lines = InCells rows }) cells
    ∙ sym (ap (changed changes) (held_cells_meta text before named))

-- format 2 with these rows
pub held_is : (text : List ℕ) (trees : Trees) (lines : CellLines) → IsMeta 2 text (rows_of_meta trees) → stored_cells trees ≡ lines → stored_in trees ≡ record { schema = text; lines = InCells lines }
held_is text trees lines named cells = held_cells_meta text trees named ∙ ap (λ (rows : CellLines). record { schema = text; lines = InCells rows }) cells

-- format 2 without a row
pub held_none : (text : List ℕ) (trees : Trees) → IsMeta 2 text (rows_of_meta trees) → rows_of_head trees ≡ [] → rows_of_cell trees ≡ [] → stored_in trees ≡ new_contents text
held_none text trees named heads cells = held_is text trees empty named (ap₂ (λ hs cs. cell_lines (map head_of hs) (map cell_of cs)) heads cells)

rest_now : (schema : Schema) (trees : Trees) → KeepsRest schema trees trees
rest_now schema trees = (λ _. (others_now (line_trees schema) schema trees).tables, λ _. others_now (cell_trees schema) schema trees)

module _ {S : Type 0} (g : Ghosts S) (settled : (s : S) (db : Trees) → IsTrue (g.view s).is_open → g.recovers s db → db ≡ (g.view s).committed)
    (stays : (s : S) → IsTrue (g.view s).is_open → g.recovers s (g.view s).committed) where
  pub was_found : (c : Connected S) → IsTrue (state g c).is_open → (state g c).now ≡ (state g c).committed → MayFind g c (stored_in (state g c).now.trees)
  was_found c up same = ((g.view c.store).committed, stays c.store up, ap (λ (d : Database). stored_in d.trees) same)

  pub found_is : (c : Connected S) → IsTrue (state g c).is_open → (state g c).now ≡ (state g c).committed → (contents : Stored) → MayFind g c contents → contents ≡ stored_in (state g c).now.trees
  found_is c up same contents found = found.2 ∙ ap stored_in (settled c.store found.0 up found.1) ∙ sym (ap (λ (d : Database). stored_in d.trees) same)

  -- what is held became what `made` makes of it, and that is committed
  pub leaves_made : (made : Stored → Stored) (old new : Connected S) → IsTrue (state g old).is_open × ((state g old).now ≡ (state g old).committed) × IsTrue (state g new).is_open × ((state g new).now ≡ (state g new).committed)
      → stored_in (state g new).now.trees ≡ made (stored_in (state g old).now.trees) → LeavesMade made (MayFind g old) (MayFind g new)
  leaves_made made old new done is h found = (stored_in (state g old).now.trees, was_found old done.0 done.1, found_is new done.2 done.3 h found ∙ is)

  -- what a commit may write is what `made` makes of what was held
  pub may_leave_made : (made : Stored → Stored) (old new : Connected S) (P : Trees → Type 0) → HasCleanDisk (state g new) → Survives (state g old) (state g new) P
      → ((trees : Trees) → P trees → IsTrue (state g old).is_open × ((state g old).now ≡ (state g old).committed) × (stored_in trees ≡ made (stored_in (state g old).now.trees))) → MayLeaveMade made (MayFind g old) (MayFind g new)
  may_leave_made made old new P clean s image h found = elim (s.crash clean found.0 found.1) [
    | inl before ↦ inl (found.0, before, found.2)
    | inr written ↦ let it = image found.0 written in inr (stored_in (state g old).now.trees, was_found old it.0 it.1, found.2 ∙ it.2)
  ]

  pub stores_changes : (text : List ℕ) (changes : List CellChange) (old new : Connected S) → Stores text (after_cell_changes changes) (state g old) (state g new) → LeavesMade (changed changes) (MayFind g old) (MayFind g new)
  stores_changes text changes old new done =
      leaves_made (changed changes) old new (done.was_open, done.was_settled, done.is_open, done.is_settled) (held_changed text changes (state g old).now.trees (state g new).now.trees (subst (IsMeta 2 text) done.meta done.stored.format.meta) done.meta done.lines_are)

  pub crash_changes : (text : List ℕ) (changes : List CellChange) (old new : Connected S) → HasCleanDisk (state g new) → MayHoldCells text (state g old)
      → Survives (state g old) (state g new) (λ trees. (text : List ℕ) → MayHoldCells text (state g old) → IsCommitImage (after_cell_changes changes) (state g old) trees) → MayLeaveMade (changed changes) (MayFind g old) (MayFind g new)
  crash_changes text changes old new clean may s =
      may_leave_made (changed changes) old new _ clean s (λ trees made. let it = made text may in (it.was_open, it.was_settled, held_changed text changes (state g old).now.trees trees (may it.was_open).format.meta it.meta it.lines_are))

  pub rewrites_contents : (text : List ℕ) (changes : List CellChange) (old new : Connected S) → Rewrites text (after_cell_changes changes empty) (state g old) (state g new) → LeavesMade (λ _. rewritten text changes) (MayFind g old) (MayFind g new)
  rewrites_contents text changes old new done =
      leaves_made (λ _. rewritten text changes) old new (done.was_open, done.was_settled, done.is_open, done.is_settled) (held_is text (state g new).now.trees _ done.stored.format.meta done.lines_are)

  pub crash_rewrites : (before text : List ℕ) (changes : List CellChange) (old new : Connected S) → HasCleanDisk (state g new) → MayBeStored before (state g old)
      → Survives (state g old) (state g new) (λ trees. (before : List ℕ) → MayBeStored before (state g old) → IsRewriteImage text (after_cell_changes changes empty) (state g old) trees) → MayLeaveMade (λ _. rewritten text changes) (MayFind g old) (MayFind g new)
  crash_rewrites before text changes old new clean may s =
      may_leave_made (λ _. rewritten text changes) old new _ clean s (λ trees made. let it = made before may in (it.was_open, it.was_settled, held_is text trees _ it.meta it.lines_are))

  -- a call that was refused, and left the connection open
  pub kept_left : (old mid new : Connected S) → KeepsCommit (state g old) (state g mid) → IsUnchanged (state g mid) (state g new) → (db : Trees) → g.recovers new.store db → g.recovers old.store db
  kept_left old mid new kept same db found =
      let before : db ≡ (g.view old.store).committed = settled new.store db same.0.is_open found ∙ ap (λ (d : Database). d.trees) (same.0.committed_is ∙ kept.committed same.0.was_open) in
      subst (g.recovers old.store) (sym before) (stays old.store (kept.was_open same.0.was_open))

  pub kept_found : (old mid new : Connected S) → KeepsCommit (state g old) (state g mid) → IsUnchanged (state g mid) (state g new) → LeavesNoMore (MayFind g old) (MayFind g new)
  kept_found old mid new kept same h found = (found.0, kept_left old mid new kept same found.0 found.1, found.2)

  -- what K says of the former trees and those that are found after each of these
  keeps_from : (K : Trees → Trees → Type 0) (old : Connected S) (trees : Trees) → IsTrue (state g old).is_open → (state g old).now ≡ (state g old).committed → K (state g old).now.trees trees → (before : Trees) × (state g old).may_leave before × K before trees
  keeps_from K old trees up same kept = ((g.view old.store).committed, stays old.store up, subst (λ (d : Database). K d.trees trees) same kept)

  pub keeps_same : (K : Trees → Trees → Type 0) → ((trees : Trees) → K trees trees) → (old new : Connected S) → ((db : Trees) → g.recovers new.store db → g.recovers old.store db)
      → (trees : Trees) → (state g new).may_leave trees → (before : Trees) × (state g old).may_leave before × K before trees
  keeps_same K now old new found trees here = (trees, found trees here, now trees)

  pub keeps_made : (K : Trees → Trees → Type 0) (old new : Connected S) → IsTrue (state g old).is_open × ((state g old).now ≡ (state g old).committed) × IsTrue (state g new).is_open × ((state g new).now ≡ (state g new).committed)
      → K (state g old).now.trees (state g new).now.trees → (trees : Trees) → (state g new).may_leave trees → (before : Trees) × (state g old).may_leave before × K before trees
  keeps_made K old new done kept trees here =
      let is : (state g new).now.trees ≡ trees = ap (λ (d : Database). d.trees) done.3 ∙ sym (settled new.store trees done.2 here) in
      keeps_from K old trees done.0 done.1 (subst (K (state g old).now.trees) is kept)

  pub keeps_crashed : (K : Trees → Trees → Type 0) → ((trees : Trees) → K trees trees) → (old new : Connected S) (P : Trees → Type 0) → HasCleanDisk (state g new) → Survives (state g old) (state g new) P
      → ((trees : Trees) → P trees → IsTrue (state g old).is_open × ((state g old).now ≡ (state g old).committed) × K (state g old).now.trees trees)
      → (trees : Trees) → (state g new).may_leave trees → (before : Trees) × (state g old).may_leave before × K before trees
  keeps_crashed K now old new P clean s image trees here = elim (s.crash clean trees here) [
    | inl before ↦ (trees, before, now trees)
    | inr written ↦ let it = image trees written in keeps_from K old trees it.0 it.1 it.2
  ]

  pub others_same : (old new : Connected S) → ((db : Trees) → g.recovers new.store db → g.recovers old.store db) → LeavesOthers g old new
  others_same old new found = keeps_same (KeepsOthers (row_trees old.schema) old.schema) (others_now (row_trees old.schema) old.schema) old new found

  pub others_stored : (text : List ℕ) (f : CellLines → CellLines) (old new : Connected S) → Stores text f (state g old) (state g new) → LeavesOthers g old new
  others_stored text f old new done = keeps_made (KeepsOthers (row_trees old.schema) old.schema) old new (done.was_open, done.was_settled, done.is_open, done.is_settled) done.others

  pub others_crashed : (text : List ℕ) (f : CellLines → CellLines) (old new : Connected S) → HasCleanDisk (state g new) → MayHoldCells text (state g old)
      → Survives (state g old) (state g new) (λ trees. (text : List ℕ) → MayHoldCells text (state g old) → IsCommitImage f (state g old) trees) → LeavesOthers g old new
  others_crashed text f old new clean may s =
      keeps_crashed (KeepsOthers (row_trees old.schema) old.schema) (others_now (row_trees old.schema) old.schema) old new _ clean s (λ trees made. let it = made text may in (it.was_open, it.was_settled, it.others))

  pub rest_same : (old new : Connected S) → ((db : Trees) → g.recovers new.store db → g.recovers old.store db) → LeavesRest g old new
  rest_same old new found = keeps_same (KeepsRest old.schema) (rest_now old.schema) old new found

  pub rest_rewritten : (text : List ℕ) (lines : CellLines) (old new : Connected S) → Rewrites text lines (state g old) (state g new) → LeavesRest g old new
  rest_rewritten text lines old new done = keeps_made (KeepsRest old.schema) old new (done.was_open, done.was_settled, done.is_open, done.is_settled) done.others

  pub rest_crashed : (before text : List ℕ) (lines : CellLines) (old new : Connected S) → HasCleanDisk (state g new) → MayBeStored before (state g old)
      → Survives (state g old) (state g new) (λ trees. (before : List ℕ) → MayBeStored before (state g old) → IsRewriteImage text lines (state g old) trees) → LeavesRest g old new
  rest_crashed before text lines old new clean may s =
      keeps_crashed (KeepsRest old.schema) (rest_now old.schema) old new _ clean s (λ trees made. let it = made before may in (it.was_open, it.was_settled, it.others))

  -- a write that was refused: only a failed device may leave what its commit writes
  pub refused_left : (old mid new : Connected S) (P : Trees → Type 0) (fault : KeepFault) (failure : WriteError) → (IsBefore failure → Survives (state g old) (state g mid) (λ _. ⊥)) → Survives (state g old) (state g mid) P
      → (HasCleanDisk (state g mid) → KeepsCommit (state g old) (state g mid)) → Survives (state g mid) (state g new) (λ _. ⊥) → (HasCleanDisk (state g new) → fault ≢ Device → IsBefore failure ⊎ IsUnchanged (state g mid) (state g new))
      → Survives (state g old) (state g new) (λ trees. (fault ≡ Device) × P trees)
  refused_left old mid new P fault failure before crash unmoved survives shown = go (device_or fault)
    where
      whole : Survives (state g old) (state g new) P
      whole = survives_then (state g old) (state g mid) (state g new) P (λ _. ⊥) P (λ _ db made. made) (λ _ db none. absurd none) crash survives

      go : (fault ≡ Device) ⊎ (fault ≢ Device) → Survives (state g old) (state g new) (λ trees. (fault ≡ Device) × P trees)
      go (inl is) = survives_as (state g old) (state g new) P _ whole (λ clean db h. elim (whole.crash clean db h) [ inl was ↦ inl was | inr made ↦ inr (is, made) ])
      go (inr other) = survives_as (state g old) (state g new) P _ whole (λ clean db h. inl (elim (shown clean other) [
        | inl first ↦ elim ((nothing_then (state g old) (state g mid) (state g new) (before first) survives).crash clean db h) [ inl was ↦ was | inr none ↦ absurd none ]
        | inr up ↦ kept_left old mid new (unmoved (omega (arith, survives.clean))) up db h
      ]))

  -- a call that commits nothing
  pub survives_found : (old new : Connected S) → HasCleanDisk (state g new) → Survives (state g old) (state g new) (λ _. ⊥) → LeavesNoMore (MayFind g old) (MayFind g new)
  survives_found old new clean s h found = elim (s.crash clean found.0 found.1) [ inl before ↦ (found.0, before, found.2) | inr none ↦ absurd none ]

  -- what a load reads is what an open may find after it
  pub loaded_found : (old new : Connected S) (loaded : Loaded) → HasCleanDisk (state g new) → Survives (state g old) (state g new) (λ _. ⊥) → HoldsLoaded (state g old) loaded → (contents : Stored) → MayFind g new contents → contents ≡ loaded_contents loaded
  loaded_found old new loaded clean s it contents here = found_is old it.is_open it.settled contents (survives_found old new clean s contents here) ∙ it.tables.holds

  pub survives_left : (old new : Connected S) → HasCleanDisk (state g new) → Survives (state g old) (state g new) (λ _. ⊥) → (db : Trees) → g.recovers new.store db → g.recovers old.store db
  survives_left old new clean s db found = elim (s.crash clean db found) [ inl before ↦ before | inr none ↦ absurd none ]

  pub new_found : (text : List ℕ) (old : State) (c : Connected S) → IsNew text old (state g c) → (contents : Stored) → MayFind g c contents → contents ≡ new_contents text
  new_found text old c new contents found = found_is c new.is_open new.settled contents found ∙ held_none text (state g c).now.trees new.stored.format.meta new.no_head new.no_cell

  -- new tables beside others
  pub new_beside : (text : List ℕ) (old new : Connected S) → IsNew text (state g old) (state g new) → LeavesTables g old new
  new_beside text old new made trees here =
      let is : (state g new).now.trees ≡ trees = ap (λ (d : Database). d.trees) made.settled ∙ sym (settled new.store trees made.is_open here) in (
        (g.view old.store).committed,
        stays old.store made.was_open,
        subst (λ (before : Database). KeepsRows old.schema.tables before.trees trees) made.was_settled (subst (KeepsRows old.schema.tables (state g old).now.trees) is made.others),
      )
