use Rattle.ov_keeper.specs.declared.cell_line.Cell.{Cell}
use Rattle.std.proofs.Common.{◌≡◌, ◌≤◌, ◌-◌, ℕ, [], ◌∷◌, ◌++◌, ◌+◌, ◌∙◌, map, length, take, drop, get_or, ap, sym, refl, subst, arith, List, Ok}
use Rattle.std.proofs.lemmas.List.{map-append, take-append-drop, take_all, length-drop}
use Rattle.std.specs.FinMap.{empty, from_entries}
use Rattle.ov_specs.specs.rows.Lines.{LineKey}
use Rattle.ov_specs.specs.rows.Cells.{CellLine}
use Rattle.ov_keeper.specs.Views.{cell_entry}
use Rattle.ov_sqlite.specs.Changing.{MakesRows, AreCellsAdded, IsRefilled, MayHave}
use Rattle.ov_sqlite.specs.Writing.{WritesTables, MayHoldWith}
use Rattle.ov_sqlite.proofs.RunLemmas.{makes_none}
use Rattle.ov_sqlite.proofs.ManyLemmas.{added_then, may_still, refilled, four_more}
use Rattle.ov_sqlite.proofs.WritingLemmas.{writes_none, writes_broken, writes_as, rows_then}
use Rattle.ov_sqlite.proofs.write.insert_cells.Goals as goal

pub loop-done-init : goal.loop-done-init
loop-done-init g c = record { within = omega arith; writes = writes_none tt _ (λ text mode may. makes_none text _ _ mode may.0 refl) }

pub loop-done-preserved : goal.loop-done-preserved
loop-done-preserved g c =
    let n = c.loop-done.done in
    let line = c.args.line.now in
    let k : LineKey = (line.table, line.id) in
    let all = line.cells.items in
    let p = c.index-cells-done.result in
    let q = c.index-cells-done-in-loop-done.result in
    let r = c.index-cells-done-in-loop-done-2.result in
    let s = c.index-cells-done-in-loop-done-3.result in
    let items = c.as_slice-cells.ensures.value in
    let within : n + 4 ≤ length all = subst (λ (xs : List Cell). n + 4 ≤ length xs) items (omega (arith, c.loop-done-test.true)) in
    let at = λ (i : ℕ) (x : Cell) (is : x ≡ get_or c.as_slice-cells.result.now i x). subst (λ (xs : List Cell). x ≡ get_or xs i x) items is in
    let four = cell_entry p ∷ cell_entry q ∷ cell_entry r ∷ cell_entry s ∷ [] in
    let more : map cell_entry (take (n + 4) all) ≡ map cell_entry (take n all) ++ four =
    ap (map cell_entry) (four_more all n p q r s within (at n p c.index-cells-done.is) (at (n + 1) q c.index-cells-done-in-loop-done.is) (at (n + 2) r c.index-cells-done-in-loop-done-2.is) (at (n + 3) s c.index-cells-done-in-loop-done-3.is))
    ∙ map-append cell_entry (take n all) (p ∷ q ∷ r ∷ s ∷ []) in
    record {
      within = within;
      writes = subst (λ es. WritesTables {T = Unit {0}} g.S.Store (Ok tt) (MayHoldWith (MayHave k (λ _. Unit {0}))) (MakesRows (AreCellsAdded k es)) c.args.tx.now.conn c.insert_four.new.tx.conn) (sym more)
          (rows_then (Ok tt) c.loop-done.invariant.writes c.in_ok-insert_four.ensures.writes (λ text may made. (made.stored, may_still text k _ _ _ made may.1)) (added_then k (map cell_entry (take n all)) four));
    }

pub returns-in_err-insert_four : goal.returns-in_err-insert_four
returns-in_err-insert_four g c = record { writes = writes_broken _ _ c.from_residual.ensures.1 c.loop-done.invariant.writes c.insert_four.ensures.writes }

pub returns : goal.returns
returns g c =
    let n = c.loop-done.done in
    let line = c.args.line.now in
    let k : LineKey = (line.table, line.id) in
    let all = line.cells.items in
    let start : CellLine = (line.version, empty) in
    let left : take (length all - n) (drop n all) ≡ drop n all = take_all _ (drop n all) (omega (arith, length-drop n all)) in
    let whole : map cell_entry (take n all) ++ map cell_entry (drop n all) ≡ map cell_entry all = sym (map-append cell_entry (take n all) (drop n all)) ∙ ap (map cell_entry) (take-append-drop n all) in
    let first : WritesTables {T = Unit {0}} g.S.Store (Ok tt) (MayHoldWith (MayHave k (λ l. l ≡ start))) (MakesRows (AreCellsAdded k (map cell_entry (take n all)))) c.args.tx.now.conn c.loop-done.tx.conn =
    writes_as (Ok tt) c.loop-done.invariant.writes (λ text may. ((may.0, λ up. ((may.1 up).0, (may.1 up).1, tt)), λ made. made)) in
    record {
      writes = rows_then c.insert_each.result first (rw (c.as_slice-cells.ensures.value, left) at c.insert_each.ensures.writes)
          (λ text may made. (made.stored, may_still text k _ _ _ made (λ up. ((may.1 up).0, (may.1 up).1, tt))))
          (λ a b d first then. subst (λ es. IsRefilled k (line.version, from_entries es) a d) whole (refilled k line.version _ a d (added_then k _ _ a b d first then)));
    }
