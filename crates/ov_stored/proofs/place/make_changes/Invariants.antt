use Rattle.std.proofs.Common.{◌≡◌, T, Some, true}
use Rattle.std.specs.FinMap.{find, is_sorted, contains_key}
use Rattle.ov_specs.specs.rows.Database.{Row}
use Rattle.ov_specs.specs.rows.Lines.{LineKey, line_cmp}
use Rattle.ov_stored.specs.Changing.{with_row_changes}
use Rattle.ov_stored.proofs.place.make_changes.Given as goal

abbrev pub invariant-loop-key : goal.invariant-loop-key
invariant-loop-key l = record {
  ascending : T (is_sorted line_cmp l.key-iterator);
  placed : (q : LineKey) (r : Row) → find line_cmp q l.key-iterator ≡ Some (Some r) → contains_key l.rows q ≡ true;
  made : with_row_changes l.key-iterator l.rows ≡ with_row_changes l.initial.key-iterator l.fn.rows;
}
