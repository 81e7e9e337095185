use Rattle.std.proofs.Common.{◌≡◌, true, false, refl, sym, subst, take, arith}
use Rattle.std.proofs.lemmas.List.{take_all}
use Rattle.std.specs.List.{AllByRecursion}
use Rattle.ov_tables.specs.Format.{IsLine}
use Rattle.ov_sqlite.proofs.NumberLemmas.{all_push, all_front, taken_more}
use Rattle.ov_sqlite.proofs.rows.are_lines.Goals as goal

pub loop-row-preserved : goal.loop-row-preserved
loop-row-preserved c =
    let rows = c.args.rows.now in
    let i = c.loop-row.row-index in
    let x = c.row-item.result in
    let more = taken_more rows i x c.loop-row-test.true c.row-item.is in
    subst (AllByRecursion IsLine) (sym more) (all_push IsLine (take i rows) x c.loop-row.invariant (c.is_line.ensures.0 c.if-not-is_line.false))

pub returns-then-not-is_line : goal.returns-then-not-is_line
returns-then-not-is_line c = (
  λ e. absurd (let clash : false ≡ true = e in cc),
  λ all.
      let yes = c.is_line.ensures.1 (all_front IsLine c.args.rows.now c.loop-row.row-index c.row-item.result c.loop-row-test.true c.row-item.is all) in
      let no = c.if-not-is_line.true in
      absurd cc,
)

pub returns : goal.returns
returns c =
    let rows = c.args.rows.now in
    let i = c.loop-row.row-index in
    let whole = take_all i rows (omega (arith, c.loop-row-test.false)) in
    (λ _. subst (AllByRecursion IsLine) whole c.loop-row.invariant, λ _. refl)
