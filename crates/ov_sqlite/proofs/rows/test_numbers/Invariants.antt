use Rattle.std.proofs.Common.{ℤ, take, IfSome, ◌<ℤ◌, ◌≢◌}
use Rattle.std.specs.List.{AllByRecursion}
use Rattle.sqlite.specs.declared.types.Value.TheVariants.{Int}
use Rattle.sqlite.specs.Order.{column}
use Rattle.ov_sqlite.specs.Joining.{AreNumbered}
use Rattle.ov_tables.specs.Holding.{IsNumbered}
use Rattle.ov_sqlite.proofs.rows.test_numbers.Given as goal

abbrev pub invariant-loop-row : goal.invariant-loop-row
invariant-loop-row l = record {
  numbered : IsNumbered (λ r. r) (take l.row-index l.rows);
  distinct : AreNumbered (take l.row-index l.rows);
  below : (n : ℤ) → IfSome l.last (λ m. m <ℤ n) → AllByRecursion (λ r. column r 0 ≢ Int n) (take l.row-index l.rows);
}
