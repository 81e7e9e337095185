use Rattle.std.proofs.Common.{◌≡◌, IfSome, take, subst, sym, arith}
use Rattle.std.specs.declared.cmp.Ordering.TheVariants.{Less}
use Rattle.std.specs.List.{AllByRecursion}
use Rattle.std.proofs.lemmas.List.{take_all}
use Rattle.ov_specs.specs.schema.SchemaTypes.{name_cmp}
use Rattle.ov_sqlite.specs.Renewing.{DoCellsAscend}
use Rattle.ov_sqlite.proofs.NumberLemmas.{taken_more}
use Rattle.ov_sqlite.proofs.PlaceLemmas.{ascend_push, below_push}
use Rattle.ov_sqlite.proofs.renew.do_ascend.Goals as goal

pub loop-cell-preserved : goal.loop-cell-preserved
loop-cell-preserved c =
    let all = c.args.cells.now in
    let i = c.loop-cell.cell-index in
    let x = c.cell-item.result in
    let above = subst (λ m. IfSome c.loop-cell.last (λ l. name_cmp l.now m ≡ Less)) c.as_str-name.ensures (c.is_after.ensures c.if-not-is_after.false) in
    let more = taken_more all i x c.loop-cell-test.true c.cell-item.is in
    record {
      ascend = subst DoCellsAscend (sym more) (ascend_push (take i all) x c.loop-cell.invariant.ascend (c.loop-cell.invariant.below x.column above));
      below = λ n low. subst (AllByRecursion (λ c. name_cmp c.column n ≡ Less)) (sym more) (below_push (λ l. l.now) (take i all) x c.loop-cell.last n above (subst (λ m. name_cmp m n ≡ Less) c.as_str-name.ensures low) c.loop-cell.invariant.below);
    }

pub returns : goal.returns
returns c holds =
    let i = c.loop-cell.cell-index in
    let all = c.args.cells.now in
    subst DoCellsAscend (take_all i all (omega (arith, c.loop-cell-test.false))) c.loop-cell.invariant.ascend
