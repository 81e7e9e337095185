use Rattle.std.proofs.Common.{◌≡◌, ℕ, List, take, IfSome}
use Rattle.std.specs.declared.cmp.Ordering.TheVariants.{Less}
use Rattle.std.specs.List.{AllByRecursion}
use Rattle.ov_specs.specs.schema.SchemaTypes.{name_cmp}
use Rattle.ov_sqlite.specs.Renewing.{DoCellsAscend}
use Rattle.ov_sqlite.proofs.renew.do_ascend.Given as goal

abbrev pub invariant-loop-cell : goal.invariant-loop-cell
invariant-loop-cell l = record {
  ascend : DoCellsAscend (take l.cell-index l.cells);
  below : (n : List ℕ) → IfSome l.last (λ m. name_cmp m.now n ≡ Less) → AllByRecursion (λ c. name_cmp c.column n ≡ Less) (take l.cell-index l.cells);
}
