use Rattle.std.proofs.Common.{◌≡◌, ◌≢◌, inl, inr, refl, ap, subst, arith, List, ℕ}
use Rattle.std.specs.FinMap.{empty}
use Rattle.sqlite.specs.Tree.{Trees}
use Rattle.sqlite.specs.State.{HasCleanDisk}
use Rattle.sqlite.specs.Held.{state}
use Rattle.sqlite.proofs.StateLemmas.{survives_then}
use Rattle.ov_specs.specs.rows.Cells.{after_cell_changes, rewritten}
use Rattle.ov_keeper.specs.Keeping.{LeavesNoMore, LeavesMade, MayLeaveMade}
use Rattle.ov_keeper.specs.Views.{changes_view}
use Rattle.ov_keeper.specs.declared.fault.KeepFault.TheVariants.{Device}
use Rattle.ov_tables.specs.Holding.{MayBeStored}
use Rattle.ov_sqlite.specs.Rewriting.{IsRewriteImage}
use Rattle.ov_tables.proofs.KeepLemmas.{nothing_then}
use Rattle.ov_store.specs.StoreState.{StoreState, MayFind, LeavesRest, text_in}
use Rattle.ov_store.proofs.FoundLemmas.{refused, rewrites_contents, crash_rewrites, kept_found, kept_left, survives_found, survives_left, rest_same, rest_rewritten, rest_crashed}
use Rattle.ov_store.proofs.FormatLemmas.{any_stored, text_stored, found_made, all_made, still_at_rest, as_before_then}
use Rattle.ov_store.proofs.store.Store.rewrite.Goals as goal

pub returns-in_default-clause-ok : goal.returns-in_default-clause-ok
returns-in_default-clause-ok g c clean =
    let old = c.self.inside.connection in
    let new = c.rewrite_all.new.conn in
    let early : HasCleanDisk (state g.S.Store old) = omega (arith, c.rewrite_all.ensures.crash.clean) in
    let same : old ≡ c.args.self.now.connection = ap (λ (s : StoreState _). s.connection) c.self.view_is in
    let done = c.in_default.ensures.ok clean (text_in (state g.S.Store old).now) (λ up. any_stored c.self.inside.format (text_in (state g.S.Store old).now) (state g.S.Store old).now (c.self.invariant.stored early up)) in
    subst (λ was. LeavesMade (λ _. rewritten c.args.schema.now (changes_view c.args.changes.now)) (MayFind g.S.Store was) (MayFind g.S.Store new)) same
    (rewrites_contents g.S.Store g.met.S.Store.settled g.met.S.Store.stays c.args.schema.now (changes_view c.args.changes.now) old new done)

pub returns-then-eq-clause-err : goal.returns-then-eq-clause-err
returns-then-eq-clause-err g c clean =
    let old = c.self.inside.connection in
    let mid = c.rewrite_all.new.conn in
    let new = c.fault_at-fault.new.conn in
    let moved = c.count_failure.ensures.same in
    let late : HasCleanDisk (state g.S.Store new) = rw moved at clean in
    let middle : HasCleanDisk (state g.S.Store mid) = omega (arith, c.fault_at-fault.ensures.survives.clean) in
    let early : HasCleanDisk (state g.S.Store old) = omega (arith, c.rewrite_all.ensures.crash.clean) in
    let same : old ≡ c.args.self.now.connection = ap (λ (s : StoreState _). s.connection) c.self.view_is in
    let lines = after_cell_changes (changes_view c.args.changes.now) empty in
    let P = λ (trees : Trees). (before : List ℕ) → MayBeStored before (state g.S.Store old) → IsRewriteImage c.args.schema.now lines (state g.S.Store old) trees in
    let whole = survives_then (state g.S.Store old) (state g.S.Store mid) (state g.S.Store new) P (λ _. ⊥) P (λ _ db h. h) (λ _ db none. absurd none) c.rewrite_all.ensures.crash c.fault_at-fault.ensures.survives in
    rw (c.count_failure.ensures.fault, moved) (subst (λ was. MayLeaveMade (λ _. rewritten c.args.schema.now (changes_view c.args.changes.now)) (MayFind g.S.Store was) (MayFind g.S.Store new)) same
    (crash_rewrites g.S.Store g.met.S.Store.settled g.met.S.Store.stays (text_in (state g.S.Store old).now) c.args.schema.now (changes_view c.args.changes.now) old new late (λ up. any_stored c.self.inside.format (text_in (state g.S.Store old).now) (state g.S.Store old).now (c.self.invariant.stored early up)) whole))

pub returns-clause-err : goal.returns-clause-err
returns-clause-err g c clean =
    let old = c.self.inside.connection in
    let mid = c.rewrite_all.new.conn in
    let new = c.fault_at-fault.new.conn in
    let fault = c.fault_at-fault.result in
    let same : old ≡ c.args.self.now.connection = ap (λ (s : StoreState _). s.connection) c.self.view_is in
    let middle : HasCleanDisk (state g.S.Store mid) = omega (arith, c.fault_at-fault.ensures.survives.clean) in
    let other : fault ≢ Device = λ e. absurd (let clash = rw e at c.if-eq.ensures in cc) in
    let kept : LeavesNoMore (MayFind g.S.Store old) (MayFind g.S.Store new) = elim (c.fault_at-fault.ensures.shown clean other) [
      | inl before ↦ survives_found g.S.Store g.met.S.Store.settled g.met.S.Store.stays old new clean (nothing_then _ _ _ (c.in-Err.ensures.before before) c.fault_at-fault.ensures.survives)
      | inr up ↦ kept_found g.S.Store g.met.S.Store.settled g.met.S.Store.stays old mid new (c.in-Err.ensures.unmoved middle) up
    ] in
    refused (λ _. rewritten c.args.schema.now (changes_view c.args.changes.now)) (MayFind g.S.Store c.args.self.now.connection) (MayFind g.S.Store new) fault c.fault_at-fault.ensures.kind other
    (subst (λ was. LeavesNoMore (MayFind g.S.Store was) (MayFind g.S.Store new)) same kept)

pub returns-in_default-clause-others : goal.returns-in_default-clause-others
returns-in_default-clause-others g c clean =
    let old = c.self.inside.connection in
    let new = c.rewrite_all.new.conn in
    let early : HasCleanDisk (state g.S.Store old) = omega (arith, c.rewrite_all.ensures.crash.clean) in
    let same : old ≡ c.args.self.now.connection = ap (λ (s : StoreState _). s.connection) c.self.view_is in
    let done = c.in_default.ensures.ok clean (text_in (state g.S.Store old).now) (λ up. any_stored c.self.inside.format (text_in (state g.S.Store old).now) (state g.S.Store old).now (c.self.invariant.stored early up)) in
    subst (λ was. LeavesRest g.S.Store was new) same
    (rest_rewritten g.S.Store g.met.S.Store.settled g.met.S.Store.stays c.args.schema.now (after_cell_changes (changes_view c.args.changes.now) empty) old new done)

pub returns-then-eq-clause-others : goal.returns-then-eq-clause-others
returns-then-eq-clause-others g c clean =
    let old = c.self.inside.connection in
    let mid = c.rewrite_all.new.conn in
    let new = c.fault_at-fault.new.conn in
    let moved = c.count_failure.ensures.same in
    let late : HasCleanDisk (state g.S.Store new) = rw moved at clean in
    let middle : HasCleanDisk (state g.S.Store mid) = omega (arith, c.fault_at-fault.ensures.survives.clean) in
    let early : HasCleanDisk (state g.S.Store old) = omega (arith, c.rewrite_all.ensures.crash.clean) in
    let same : old ≡ c.args.self.now.connection = ap (λ (s : StoreState _). s.connection) c.self.view_is in
    let lines = after_cell_changes (changes_view c.args.changes.now) empty in
    let P = λ (trees : Trees). (before : List ℕ) → MayBeStored before (state g.S.Store old) → IsRewriteImage c.args.schema.now lines (state g.S.Store old) trees in
    let whole = survives_then (state g.S.Store old) (state g.S.Store mid) (state g.S.Store new) P (λ _. ⊥) P (λ _ db h. h) (λ _ db none. absurd none) c.rewrite_all.ensures.crash c.fault_at-fault.ensures.survives in
    rw moved (subst (λ was. LeavesRest g.S.Store was new) same
    (rest_crashed g.S.Store g.met.S.Store.settled g.met.S.Store.stays (text_in (state g.S.Store old).now) c.args.schema.now lines old new late (λ up. any_stored c.self.inside.format (text_in (state g.S.Store old).now) (state g.S.Store old).now (c.self.invariant.stored early up)) whole))

pub returns-clause-others : goal.returns-clause-others
returns-clause-others g c clean =
    let old = c.self.inside.connection in
    let mid = c.rewrite_all.new.conn in
    let new = c.fault_at-fault.new.conn in
    let fault = c.fault_at-fault.result in
    let same : old ≡ c.args.self.now.connection = ap (λ (s : StoreState _). s.connection) c.self.view_is in
    let middle : HasCleanDisk (state g.S.Store mid) = omega (arith, c.fault_at-fault.ensures.survives.clean) in
    let other : fault ≢ Device = λ e. absurd (let clash = rw e at c.if-eq.ensures in cc) in
    let found : (db : Trees) → g.S.Store.recovers new.store db → g.S.Store.recovers old.store db = λ db here. elim (c.fault_at-fault.ensures.shown clean other) [
      | inl before ↦ survives_left g.S.Store g.met.S.Store.settled g.met.S.Store.stays old new clean (nothing_then _ _ _ (c.in-Err.ensures.before before) c.fault_at-fault.ensures.survives) db here
      | inr up ↦ kept_left g.S.Store g.met.S.Store.settled g.met.S.Store.stays old mid new (c.in-Err.ensures.unmoved middle) up db here
    ] in
    subst (λ was. LeavesRest g.S.Store was new) same (rest_same g.S.Store g.met.S.Store.settled g.met.S.Store.stays old new found)

pub invariant_of-self : goal.invariant_of-self
invariant_of-self g c =
    let old = c.self.inside.connection in
    let new = c.rewrite_all.new.conn in
    let text = text_in (state g.S.Store old).now in
    let may : HasCleanDisk (state g.S.Store old) → MayBeStored text (state g.S.Store old) = λ early up. any_stored c.self.inside.format text (state g.S.Store old).now (c.self.invariant.stored early up) in
    record {
      mode = c.rewrite_all.ensures.mode;
      known = inr refl;
      stored = λ clean up.
          let early : HasCleanDisk (state g.S.Store old) = omega (arith, c.rewrite_all.ensures.crash.clean) in
          text_stored 2 c.args.schema.now (state g.S.Store new).now (inr (refl, (c.in_default.ensures.ok clean text (may early)).stored));
      found = λ clean.
          let early : HasCleanDisk (state g.S.Store old) = omega (arith, c.rewrite_all.ensures.crash.clean) in
          all_made (λ _. rewritten c.args.schema.now (changes_view c.args.changes.now)) (MayFind g.S.Store old) (MayFind g.S.Store new) (λ _. refl)
          (rewrites_contents g.S.Store g.met.S.Store.settled g.met.S.Store.stays c.args.schema.now (changes_view c.args.changes.now) old new (c.in_default.ensures.ok clean text (may early)));
      read_is = tt;
    }

pub invariant_of-self-then-eq : goal.invariant_of-self-then-eq
invariant_of-self-then-eq g c =
    let old = c.self.inside.connection in
    let mid = c.rewrite_all.new.conn in
    let new = c.fault_at-fault.new.conn in
    let text = text_in (state g.S.Store old).now in
    let lines = after_cell_changes (changes_view c.args.changes.now) empty in
    still_at_rest g.S.Store c.self.inside.format c.self.inside.read old new c.self.invariant c.fault_at-fault.ensures.mode
    (λ clean. omega (arith, c.rewrite_all.ensures.crash.clean, c.fault_at-fault.ensures.survives.clean))
    (λ clean. let middle : HasCleanDisk (state g.S.Store mid) = omega (arith, c.fault_at-fault.ensures.survives.clean) in
    as_before_then g.S.Store old mid new (c.in-Err.ensures.same middle) (c.fault_at-fault.ensures.same clean))
    (λ clean.
    let early : HasCleanDisk (state g.S.Store old) = omega (arith, c.rewrite_all.ensures.crash.clean, c.fault_at-fault.ensures.survives.clean) in
    let may : MayBeStored text (state g.S.Store old) = λ up. any_stored c.self.inside.format text (state g.S.Store old).now (c.self.invariant.stored early up) in
    let P = λ (trees : Trees). (before : List ℕ) → MayBeStored before (state g.S.Store old) → IsRewriteImage c.args.schema.now lines (state g.S.Store old) trees in
    let whole = survives_then (state g.S.Store old) (state g.S.Store mid) (state g.S.Store new) P (λ _. ⊥) P (λ _ db h. h) (λ _ db none. absurd none) c.rewrite_all.ensures.crash c.fault_at-fault.ensures.survives in
    found_made c.self.inside.format (λ _. rewritten c.args.schema.now (changes_view c.args.changes.now)) (MayFind g.S.Store old) (MayFind g.S.Store new) c.self.invariant.known (λ _. refl)
    (crash_rewrites g.S.Store g.met.S.Store.settled g.met.S.Store.stays text c.args.schema.now (changes_view c.args.changes.now) old new clean may whole) (c.self.invariant.found early))

pub invariant_of-self-else-eq : goal.invariant_of-self-else-eq
invariant_of-self-else-eq g c =
    let old = c.self.inside.connection in
    let mid = c.rewrite_all.new.conn in
    let new = c.fault_at-fault.new.conn in
    let text = text_in (state g.S.Store old).now in
    let lines = after_cell_changes (changes_view c.args.changes.now) empty in
    still_at_rest g.S.Store c.self.inside.format c.self.inside.read old new c.self.invariant c.fault_at-fault.ensures.mode
    (λ clean. omega (arith, c.rewrite_all.ensures.crash.clean, c.fault_at-fault.ensures.survives.clean))
    (λ clean. let middle : HasCleanDisk (state g.S.Store mid) = omega (arith, c.fault_at-fault.ensures.survives.clean) in
    as_before_then g.S.Store old mid new (c.in-Err.ensures.same middle) (c.fault_at-fault.ensures.same clean))
    (λ clean.
    let early : HasCleanDisk (state g.S.Store old) = omega (arith, c.rewrite_all.ensures.crash.clean, c.fault_at-fault.ensures.survives.clean) in
    let may : MayBeStored text (state g.S.Store old) = λ up. any_stored c.self.inside.format text (state g.S.Store old).now (c.self.invariant.stored early up) in
    let P = λ (trees : Trees). (before : List ℕ) → MayBeStored before (state g.S.Store old) → IsRewriteImage c.args.schema.now lines (state g.S.Store old) trees in
    let whole = survives_then (state g.S.Store old) (state g.S.Store mid) (state g.S.Store new) P (λ _. ⊥) P (λ _ db h. h) (λ _ db none. absurd none) c.rewrite_all.ensures.crash c.fault_at-fault.ensures.survives in
    found_made c.self.inside.format (λ _. rewritten c.args.schema.now (changes_view c.args.changes.now)) (MayFind g.S.Store old) (MayFind g.S.Store new) c.self.invariant.known (λ _. refl)
    (crash_rewrites g.S.Store g.met.S.Store.settled g.met.S.Store.stays text c.args.schema.now (changes_view c.args.changes.now) old new clean may whole) (c.self.invariant.found early))
