use Rattle.std.proofs.Common.{◌≡◌, map}
use Rattle.std.specs.FinMap.{empty}
use Rattle.std.specs.Vec.Iter.{into_iter_items}
use Rattle.ov_stored.specs.Loading.{whole_entry, with_lines}
use Rattle.ov_specs.specs.rows.Suits.{Suits}
use Rattle.ov_stored.proofs.load.rows_of_lines.Given as goal

abbrev pub invariant-loop-line : goal.invariant-loop-line
invariant-loop-line l = record {
  loaded : with_lines l.schema (map whole_entry l.fn.lines.items) empty ≡ with_lines l.schema (map whole_entry (into_iter_items l.line-iterator)) l.rows;
  suits : Suits l.schema l.rows;
}
