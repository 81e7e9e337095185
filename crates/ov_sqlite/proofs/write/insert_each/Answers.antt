use Rattle.std.proofs.Common.{◌≡◌, [], ◌∷◌, ◌++◌, map, ◌+◌, ◌∙◌, ap, sym, refl, subst, arith, take, Ok}
use Rattle.std.proofs.lemmas.List.{take_all, map-append}
use Rattle.ov_specs.specs.rows.Lines.{LineKey}
use Rattle.ov_keeper.specs.Views.{cell_entry}
use Rattle.ov_sqlite.specs.Changing.{MayHave, MakesRows, AreCellsAdded}
use Rattle.ov_sqlite.specs.Writing.{WritesTables, MayHoldWith}
use Rattle.ov_sqlite.proofs.NumberLemmas.{taken_more}
use Rattle.ov_sqlite.proofs.RunLemmas.{makes_none}
use Rattle.ov_sqlite.proofs.ManyLemmas.{added_then, may_still}
use Rattle.ov_sqlite.proofs.WritingLemmas.{writes_none, writes_broken, rows_then}
use Rattle.ov_sqlite.proofs.write.insert_each.Goals as goal

pub loop-cell-init : goal.loop-cell-init
loop-cell-init g c = writes_none tt _ (λ text mode may. makes_none text _ _ mode may.0 refl)

pub loop-cell-preserved : goal.loop-cell-preserved
loop-cell-preserved g c =
    let i = c.loop-cell.cell-index in
    let line = c.args.line.now in
    let k : LineKey = (line.table, line.id) in
    let all = c.args.cells.now in
    let x = c.cell-item.result in
    let more : map cell_entry (take (i + 1) all) ≡ map cell_entry (take i all) ++ cell_entry x ∷ [] =
    ap (map cell_entry) (taken_more all i x c.loop-cell-test.true c.cell-item.is) ∙ map-append cell_entry (take i all) (x ∷ []) in
    subst (λ es. WritesTables {T = Unit {0}} g.S.Store (Ok tt) (MayHoldWith (MayHave k (λ _. Unit {0}))) (MakesRows (AreCellsAdded k es)) c.args.tx.now.conn c.insert_cell.new.tx.conn) (sym more)
    (rows_then (Ok tt) c.loop-cell.invariant c.in_ok-insert_cell.ensures.writes (λ text may made. (made.stored, may_still text k _ _ _ made may.1))
    (λ a b d first then. added_then k (map cell_entry (take i all)) (cell_entry x ∷ []) a b d first (d, then, refl)))

pub returns-in_err-insert_cell : goal.returns-in_err-insert_cell
returns-in_err-insert_cell g c = record { writes = writes_broken _ _ c.from_residual.ensures.1 c.loop-cell.invariant c.insert_cell.ensures.writes }

pub returns : goal.returns
returns g c =
    let line = c.args.line.now in
    let k : LineKey = (line.table, line.id) in
    let all = c.args.cells.now in
    let i = c.loop-cell.cell-index in
    let whole : take i all ≡ all = take_all i all (omega (arith, c.loop-cell-test.false)) in
    record {
      writes = subst (λ cells. WritesTables {T = Unit {0}} g.S.Store (Ok tt) (MayHoldWith (MayHave k (λ _. Unit {0}))) (MakesRows (AreCellsAdded k (map cell_entry cells))) c.args.tx.now.conn c.loop-cell.tx.conn) whole c.loop-cell.invariant;
    }
