use Rattle.std.proofs.Common.{◌≡◌, ◌≢◌, inl, inr, sym, ap, refl, subst, ◌∙◌, arith, List, ℕ}
use Rattle.sqlite.specs.State.{HasCleanDisk}
use Rattle.sqlite.specs.Held.{state}
use Rattle.ov_specs.specs.rows.Cells.{after_cell_changes}
use Rattle.ov_keeper.specs.Keeping.{LeavesNoMore, LeavesMade, MayLeaveMade, changed}
use Rattle.ov_keeper.specs.Views.{changes_view}
use Rattle.sqlite.specs.Tree.{Trees}
use Rattle.sqlite.proofs.StateLemmas.{survives_then}
use Rattle.ov_tables.specs.Holding.{MayHoldCells}
use Rattle.ov_sqlite.specs.Changing.{IsCommitImage}
use Rattle.ov_store.specs.StoreState.{StoreState, MayFind, LeavesOthers, text_in}
use Rattle.ov_store.proofs.FoundLemmas.{is_zero, refused, stores_changes, crash_changes, kept_found, kept_left, survives_found, survives_left, others_same, others_stored, others_crashed}
use Rattle.ov_store.proofs.FormatLemmas.{changed_none, cells_stored, text_stored, found_made, all_made, still_at_rest, as_before_then}
use Rattle.ov_tables.proofs.KeepLemmas.{nothing_then}
use Rattle.ov_keeper.specs.declared.fault.KeepFault.TheVariants.{Device}
use Rattle.ov_store.proofs.store.Store.commit.Goals as goal
use Rattle.std.proofs.lemmas.List.{nil_from_length}

pub returns-then-is_empty-clause-ok : goal.returns-then-is_empty-clause-ok
returns-then-is_empty-clause-ok g c clean h found =
    let none = nil_from_length c.args.changes.now (is_zero _ c.if-is_empty.ensures) in
    let same : c.self.inside.connection ≡ c.args.self.now.connection = ap (λ (s : StoreState _). s.connection) c.self.view_is in
    let two : c.self.inside.format ≡ 2 = ap (λ (s : StoreState _). s.format) c.self.view_is ∙ c.requires in
    let told = c.self.invariant.found (subst (λ was. HasCleanDisk (state g.S.Store was)) (sym same) clean) h (subst (λ was. MayFind g.S.Store was h) (sym same) found) in
    (h, found, subst (λ changes. h ≡ changed (changes_view changes) h) (sym none) (changed_none h (omega (arith, two, told))))

pub returns-in_default-clause-ok : goal.returns-in_default-clause-ok
returns-in_default-clause-ok g c clean =
    let old = c.self.inside.connection in
    let new = c.write_all.new.conn in
    let early : HasCleanDisk (state g.S.Store old) = omega (arith, c.write_all.ensures.crash.clean) in
    let same : old ≡ c.args.self.now.connection = ap (λ (s : StoreState _). s.connection) c.self.view_is in
    let two : c.self.inside.format ≡ 2 = ap (λ (s : StoreState _). s.format) c.self.view_is ∙ c.requires in
    let text = text_in (state g.S.Store old).now in
    let may : MayHoldCells text (state g.S.Store old) = λ up. cells_stored c.self.inside.format text (state g.S.Store old).now two (c.self.invariant.stored early up) in
    subst (λ was. LeavesMade (changed (changes_view c.args.changes.now)) (MayFind g.S.Store was) (MayFind g.S.Store new)) same
    (stores_changes g.S.Store g.met.S.Store.settled g.met.S.Store.stays text (changes_view c.args.changes.now) old new (c.in_default.ensures.ok clean text may))

pub returns-then-eq-clause-err : goal.returns-then-eq-clause-err
returns-then-eq-clause-err g c clean =
    let old = c.self.inside.connection in
    let mid = c.write_all.new.conn in
    let new = c.fault_at-fault.new.conn in
    let moved = c.count_failure.ensures.same in
    let late : HasCleanDisk (state g.S.Store new) = rw moved at clean in
    let early : HasCleanDisk (state g.S.Store old) = omega (arith, c.write_all.ensures.crash.clean, c.fault_at-fault.ensures.survives.clean) in
    let same : old ≡ c.args.self.now.connection = ap (λ (s : StoreState _). s.connection) c.self.view_is in
    let two : c.self.inside.format ≡ 2 = ap (λ (s : StoreState _). s.format) c.self.view_is ∙ c.requires in
    let text = text_in (state g.S.Store old).now in
    let may : MayHoldCells text (state g.S.Store old) = λ up. cells_stored c.self.inside.format text (state g.S.Store old).now two (c.self.invariant.stored early up) in
    let P = λ (trees : Trees). (text : List ℕ) → MayHoldCells text (state g.S.Store old) → IsCommitImage (after_cell_changes (changes_view c.args.changes.now)) (state g.S.Store old) trees in
    let whole = survives_then (state g.S.Store old) (state g.S.Store mid) (state g.S.Store new) P (λ _. ⊥) P (λ _ db h. h) (λ _ db none. absurd none) c.write_all.ensures.crash c.fault_at-fault.ensures.survives in
    rw (c.count_failure.ensures.fault, moved) (subst (λ was. MayLeaveMade (changed (changes_view c.args.changes.now)) (MayFind g.S.Store was) (MayFind g.S.Store new)) same
    (crash_changes g.S.Store g.met.S.Store.settled g.met.S.Store.stays text (changes_view c.args.changes.now) old new late may whole))

pub returns-clause-err : goal.returns-clause-err
returns-clause-err g c clean =
    let old = c.self.inside.connection in
    let mid = c.write_all.new.conn in
    let new = c.fault_at-fault.new.conn in
    let fault = c.fault_at-fault.result in
    let same : old ≡ c.args.self.now.connection = ap (λ (s : StoreState _). s.connection) c.self.view_is in
    let middle : HasCleanDisk (state g.S.Store mid) = omega (arith, c.fault_at-fault.ensures.survives.clean) in
    let other : fault ≢ Device = λ e. absurd (let clash = rw e at c.if-eq.ensures in cc) in
    let kept : LeavesNoMore (MayFind g.S.Store old) (MayFind g.S.Store new) = elim (c.fault_at-fault.ensures.shown clean other) [
      | inl before ↦ survives_found g.S.Store g.met.S.Store.settled g.met.S.Store.stays old new clean (nothing_then _ _ _ (c.in-Err.ensures.before before) c.fault_at-fault.ensures.survives)
      | inr up ↦ kept_found g.S.Store g.met.S.Store.settled g.met.S.Store.stays old mid new (c.in-Err.ensures.unmoved middle) up
    ] in
    refused (changed (changes_view c.args.changes.now)) (MayFind g.S.Store c.args.self.now.connection) (MayFind g.S.Store new) fault c.fault_at-fault.ensures.kind other
    (subst (λ was. LeavesNoMore (MayFind g.S.Store was) (MayFind g.S.Store new)) same kept)

pub returns-then-is_empty-clause-others : goal.returns-then-is_empty-clause-others
returns-then-is_empty-clause-others g c clean =
    others_same g.S.Store g.met.S.Store.settled g.met.S.Store.stays c.args.self.now.connection c.args.self.now.connection (λ db found. found)

pub returns-in_default-clause-others : goal.returns-in_default-clause-others
returns-in_default-clause-others g c clean =
    let old = c.self.inside.connection in
    let new = c.write_all.new.conn in
    let early : HasCleanDisk (state g.S.Store old) = omega (arith, c.write_all.ensures.crash.clean) in
    let same : old ≡ c.args.self.now.connection = ap (λ (s : StoreState _). s.connection) c.self.view_is in
    let two : c.self.inside.format ≡ 2 = ap (λ (s : StoreState _). s.format) c.self.view_is ∙ c.requires in
    let text = text_in (state g.S.Store old).now in
    let may : MayHoldCells text (state g.S.Store old) = λ up. cells_stored c.self.inside.format text (state g.S.Store old).now two (c.self.invariant.stored early up) in
    subst (λ was. LeavesOthers g.S.Store was new) same
    (others_stored g.S.Store g.met.S.Store.settled g.met.S.Store.stays text (after_cell_changes (changes_view c.args.changes.now)) old new (c.in_default.ensures.ok clean text may))

pub returns-then-eq-clause-others : goal.returns-then-eq-clause-others
returns-then-eq-clause-others g c clean =
    let old = c.self.inside.connection in
    let mid = c.write_all.new.conn in
    let new = c.fault_at-fault.new.conn in
    let moved = c.count_failure.ensures.same in
    let late : HasCleanDisk (state g.S.Store new) = rw moved at clean in
    let early : HasCleanDisk (state g.S.Store old) = omega (arith, c.write_all.ensures.crash.clean, c.fault_at-fault.ensures.survives.clean) in
    let same : old ≡ c.args.self.now.connection = ap (λ (s : StoreState _). s.connection) c.self.view_is in
    let two : c.self.inside.format ≡ 2 = ap (λ (s : StoreState _). s.format) c.self.view_is ∙ c.requires in
    let text = text_in (state g.S.Store old).now in
    let may : MayHoldCells text (state g.S.Store old) = λ up. cells_stored c.self.inside.format text (state g.S.Store old).now two (c.self.invariant.stored early up) in
    let changes = after_cell_changes (changes_view c.args.changes.now) in
    let P = λ (trees : Trees). (text : List ℕ) → MayHoldCells text (state g.S.Store old) → IsCommitImage changes (state g.S.Store old) trees in
    let whole = survives_then (state g.S.Store old) (state g.S.Store mid) (state g.S.Store new) P (λ _. ⊥) P (λ _ db h. h) (λ _ db none. absurd none) c.write_all.ensures.crash c.fault_at-fault.ensures.survives in
    rw moved (subst (λ was. LeavesOthers g.S.Store was new) same
    (others_crashed g.S.Store g.met.S.Store.settled g.met.S.Store.stays text changes old new late may whole))

pub returns-clause-others : goal.returns-clause-others
returns-clause-others g c clean =
    let old = c.self.inside.connection in
    let mid = c.write_all.new.conn in
    let new = c.fault_at-fault.new.conn in
    let fault = c.fault_at-fault.result in
    let same : old ≡ c.args.self.now.connection = ap (λ (s : StoreState _). s.connection) c.self.view_is in
    let middle : HasCleanDisk (state g.S.Store mid) = omega (arith, c.fault_at-fault.ensures.survives.clean) in
    let other : fault ≢ Device = λ e. absurd (let clash = rw e at c.if-eq.ensures in cc) in
    let found : (db : Trees) → g.S.Store.recovers new.store db → g.S.Store.recovers old.store db = λ db here. elim (c.fault_at-fault.ensures.shown clean other) [
      | inl before ↦ survives_left g.S.Store g.met.S.Store.settled g.met.S.Store.stays old new clean (nothing_then _ _ _ (c.in-Err.ensures.before before) c.fault_at-fault.ensures.survives) db here
      | inr up ↦ kept_left g.S.Store g.met.S.Store.settled g.met.S.Store.stays old mid new (c.in-Err.ensures.unmoved middle) up db here
    ] in
    subst (λ was. LeavesOthers g.S.Store was new) same (others_same g.S.Store g.met.S.Store.settled g.met.S.Store.stays old new found)

pub invariant_of-self : goal.invariant_of-self
invariant_of-self g c =
    let old = state g.S.Store c.self.inside.connection in
    let new = c.write_all.new.conn in
    let two : c.self.inside.format ≡ 2 = ap (λ (s : StoreState _). s.format) c.self.view_is ∙ c.requires in
    let text = text_in old.now in
    let may : HasCleanDisk old → MayHoldCells text old = λ early up. cells_stored c.self.inside.format text old.now two (c.self.invariant.stored early up) in
    record {
      mode = c.write_all.ensures.mode;
      known = inr two;
      stored = λ clean up.
          let early : HasCleanDisk old = omega (arith, c.write_all.ensures.crash.clean) in
          text_stored c.self.inside.format text (state g.S.Store new).now (inr (two, (c.in_default.ensures.ok clean text (may early)).stored));
      found = λ clean s here.
          let early : HasCleanDisk old = omega (arith, c.write_all.ensures.crash.clean) in
          let made = stores_changes g.S.Store g.met.S.Store.settled g.met.S.Store.stays text (changes_view c.args.changes.now) c.self.inside.connection new (c.in_default.ensures.ok clean text (may early)) in
          let more = all_made (changed (changes_view c.args.changes.now)) (MayFind g.S.Store c.self.inside.connection) (MayFind g.S.Store new) (λ _. refl) made s here in
          omega (arith, two, more);
      read_is = tt;
    }

pub invariant_of-self-then-eq : goal.invariant_of-self-then-eq
invariant_of-self-then-eq g c =
    let old = c.self.inside.connection in
    let mid = c.write_all.new.conn in
    let new = c.fault_at-fault.new.conn in
    let two : c.self.inside.format ≡ 2 = ap (λ (s : StoreState _). s.format) c.self.view_is ∙ c.requires in
    let text = text_in (state g.S.Store old).now in
    still_at_rest g.S.Store c.self.inside.format c.self.inside.read old new c.self.invariant c.fault_at-fault.ensures.mode
    (λ clean. omega (arith, c.write_all.ensures.crash.clean, c.fault_at-fault.ensures.survives.clean))
    (λ clean. let middle : HasCleanDisk (state g.S.Store mid) = omega (arith, c.fault_at-fault.ensures.survives.clean) in
    as_before_then g.S.Store old mid new (c.in-Err.ensures.same middle) (c.fault_at-fault.ensures.same clean))
    (λ clean.
    let early : HasCleanDisk (state g.S.Store old) = omega (arith, c.write_all.ensures.crash.clean, c.fault_at-fault.ensures.survives.clean) in
    let may : MayHoldCells text (state g.S.Store old) = λ up. cells_stored c.self.inside.format text (state g.S.Store old).now two (c.self.invariant.stored early up) in
    let P = λ (trees : Trees). (text : List ℕ) → MayHoldCells text (state g.S.Store old) → IsCommitImage (after_cell_changes (changes_view c.args.changes.now)) (state g.S.Store old) trees in
    let whole = survives_then (state g.S.Store old) (state g.S.Store mid) (state g.S.Store new) P (λ _. ⊥) P (λ _ db h. h) (λ _ db none. absurd none) c.write_all.ensures.crash c.fault_at-fault.ensures.survives in
    found_made c.self.inside.format (changed (changes_view c.args.changes.now)) (MayFind g.S.Store old) (MayFind g.S.Store new) c.self.invariant.known (λ _. refl)
    (crash_changes g.S.Store g.met.S.Store.settled g.met.S.Store.stays text (changes_view c.args.changes.now) old new clean may whole) (c.self.invariant.found early))

pub invariant_of-self-else-eq : goal.invariant_of-self-else-eq
invariant_of-self-else-eq g c =
    let old = c.self.inside.connection in
    let mid = c.write_all.new.conn in
    let new = c.fault_at-fault.new.conn in
    let two : c.self.inside.format ≡ 2 = ap (λ (s : StoreState _). s.format) c.self.view_is ∙ c.requires in
    let text = text_in (state g.S.Store old).now in
    still_at_rest g.S.Store c.self.inside.format c.self.inside.read old new c.self.invariant c.fault_at-fault.ensures.mode
    (λ clean. omega (arith, c.write_all.ensures.crash.clean, c.fault_at-fault.ensures.survives.clean))
    (λ clean. let middle : HasCleanDisk (state g.S.Store mid) = omega (arith, c.fault_at-fault.ensures.survives.clean) in
    as_before_then g.S.Store old mid new (c.in-Err.ensures.same middle) (c.fault_at-fault.ensures.same clean))
    (λ clean.
    let early : HasCleanDisk (state g.S.Store old) = omega (arith, c.write_all.ensures.crash.clean, c.fault_at-fault.ensures.survives.clean) in
    let may : MayHoldCells text (state g.S.Store old) = λ up. cells_stored c.self.inside.format text (state g.S.Store old).now two (c.self.invariant.stored early up) in
    let P = λ (trees : Trees). (text : List ℕ) → MayHoldCells text (state g.S.Store old) → IsCommitImage (after_cell_changes (changes_view c.args.changes.now)) (state g.S.Store old) trees in
    let whole = survives_then (state g.S.Store old) (state g.S.Store mid) (state g.S.Store new) P (λ _. ⊥) P (λ _ db h. h) (λ _ db none. absurd none) c.write_all.ensures.crash c.fault_at-fault.ensures.survives in
    found_made c.self.inside.format (changed (changes_view c.args.changes.now)) (MayFind g.S.Store old) (MayFind g.S.Store new) c.self.invariant.known (λ _. refl)
    (crash_changes g.S.Store g.met.S.Store.settled g.met.S.Store.stays text (changes_view c.args.changes.now) old new clean may whole) (c.self.invariant.found early))
