use Rattle.std.proofs.Common.{◌≡◌, ap, sym, refl, subst, arith, take, ◌∙◌, Ok}
use Rattle.std.proofs.lemmas.List.{take_all}
use Rattle.sqlite.specs.State.{HasCleanDisk}
use Rattle.sqlite.specs.Held.{state}
use Rattle.ov_specs.specs.rows.Cells.{after_cell_changes, after_cell_change}
use Rattle.ov_keeper.specs.Views.{change_view, changes_view}
use Rattle.ov_keeper.proofs.LineLemmas.{after_cell_changes-take}
use Rattle.ov_tables.specs.Holding.{MayHoldCells}
use Rattle.ov_sqlite.specs.Changing.{MakesRows, Becomes}
use Rattle.ov_sqlite.specs.Writing.{WritesTables}
use Rattle.ov_sqlite.proofs.RunLemmas.{makes_none}
use Rattle.ov_sqlite.proofs.WritingLemmas.{writes_none, writes_broken, rows_then}
use Rattle.ov_sqlite.proofs.write.apply_all.Goals as goal

pub loop-change-init : goal.loop-change-init
loop-change-init g c = record { writes = writes_none tt _ (λ text mode may. makes_none text _ _ mode may refl); opened = λ clean mode none. absurd (omega arith) }

pub loop-change-preserved : goal.loop-change-preserved
loop-change-preserved g c =
    let i = c.loop-change.change-index in
    let all = c.args.changes.now in
    let mid = state g.S.Store c.loop-change.tx.conn.now in
    let first = c.loop-change.invariant.writes in
    record {
      writes = rows_then (Ok tt) first c.in_ok-apply.ensures.writes.tables (λ text may made. made.stored)
          (λ k l m one two. two ∙ ap (after_cell_change (change_view c.change-item.result)) one ∙ sym (after_cell_changes-take change_view all i c.change-item.result k c.loop-change-test.true c.change-item.is));
      opened = λ clean mode some. let early : HasCleanDisk mid = omega (arith, c.apply.ensures.writes.tables.survives.clean) in
          (first.kept early mode).was_open (c.in_ok-apply.ensures.writes.opened clean (first.goes_on early mode));
    }

pub returns-in_err-apply-clause-writes : goal.returns-in_err-apply-clause-writes
returns-in_err-apply-clause-writes g c = writes_broken _ _ c.from_residual.ensures.1 c.loop-change.invariant.writes c.apply.ensures.writes.tables

pub returns-clause-writes : goal.returns-clause-writes
returns-clause-writes g c =
    let all = c.args.changes.now in
    let i = c.loop-change.change-index in
    let whole : take i all ≡ all = take_all i all (omega (arith, c.loop-change-test.false)) in
    subst (λ changes. WritesTables {T = Unit {0}} g.S.Store (Ok tt) MayHoldCells (MakesRows (Becomes (after_cell_changes (changes_view changes)))) c.args.tx.now.conn c.loop-change.tx.conn) whole c.loop-change.invariant.writes
