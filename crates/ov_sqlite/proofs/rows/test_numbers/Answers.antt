use Rattle.std.proofs.Common.{rules, ◌≡◌, ◌≢◌, IfSome, ◌<ℤ◌, subst, sym, take, to_z, of_z, w64}
use Rattle.std.specs.List.{AllByRecursion}
use Rattle.sqlite.specs.declared.types.Value.TheVariants.{Int}
use Rattle.sqlite.specs.Order.{column}
use Rattle.ov_sqlite.specs.Joining.{AreNumbered}
use Rattle.ov_tables.specs.Holding.{IsNumbered}
use Rattle.ov_sqlite.proofs.NumberLemmas.{taken_more, push_numbered, push_distinct, push_below}
use Rattle.ov_sqlite.proofs.rows.test_numbers.Goals as goal

pub loop-row-preserved : goal.loop-row-preserved
loop-row-preserved c =
    let rows = c.args.rows.now in
    let i = c.loop-row.row-index in
    let x = c.row-item.result in
    let n = c.in-Some.number in
    let is : column x 0 ≡ Int n = c.in-Some.ensures in
    let same : to_z w64 (of_z w64 n) ≡ n = search rules in
    let above : IfSome c.loop-row.last (λ m. m <ℤ n) = subst (λ k. IfSome c.loop-row.last (λ m. m <ℤ k)) same (c.is_above.ensures c.if-not-is_above.false) in
    let more = taken_more rows i x c.loop-row-test.true c.row-item.is in
    record {
      numbered = subst (IsNumbered (λ r. r)) (sym more) (push_numbered (take i rows) x n is (c.loop-row.invariant.below n above) c.loop-row.invariant.numbered);
      distinct = subst AreNumbered (sym more) (push_distinct (take i rows) x n is (c.loop-row.invariant.below n above) c.loop-row.invariant.distinct);
      below = λ m low. subst (AllByRecursion (λ r. column r 0 ≢ Int m)) (sym more) (push_below (take i rows) x c.loop-row.last n m is above (subst (λ k. k <ℤ m) same low) c.loop-row.invariant.below);
    }
