use Rattle.std.proofs.Common.{◌≡◌, map}
use Rattle.std.specs.FinMap.{empty}
use Rattle.std.specs.Vec.Iter.{into_iter_items}
use Rattle.ov_stored.specs.Loading.{cells_entry, with_lines}
use Rattle.ov_stored.specs.Stored.{KeepsRows}
use Rattle.ov_stored.proofs.load.rows_in_cells.Given as goal

abbrev pub invariant-loop-line : goal.invariant-loop-line
invariant-loop-line l = record {
  loaded : with_lines l.schema (map cells_entry l.fn.lines.items) empty ≡ with_lines l.schema (map cells_entry (into_iter_items l.line-iterator)) l.rows;
  kept : KeepsRows l.schema l.rows;
}
