use Rattle.std.proofs.Common.{◌≡◌, T, Option, Some, None, false}
use Rattle.std.specs.FinMap.{find, is_sorted, get, contains_key}
use Rattle.ov_specs.specs.operations.MatchingRows.{without_rows}
use Rattle.ov_specs.specs.rows.Database.{Row}
use Rattle.ov_specs.specs.rows.Lines.{LineKey, line_cmp}
use Rattle.ov_stored.specs.Adding.{lent_keys}
use Rattle.ov_stored.proofs.place.place_rows.Given as goal

abbrev pub invariant-loop-key : goal.invariant-loop-key
invariant-loop-key l = record {
  ascending : T (is_sorted line_cmp l.key-iterator);
  inside : (q : LineKey) (c : Option Row) → find line_cmp q l.key-iterator ≡ Some c → find line_cmp q l.initial.key-iterator ≡ Some c;
  added : without_rows (lent_keys l.added.items) l.rows ≡ l.fn.rows;
  same : (q : LineKey) → find line_cmp q l.initial.key-iterator ≡ None → get l.rows q ≡ get l.fn.rows q;
  left : (q : LineKey) (r : Row) → find line_cmp q l.initial.key-iterator ≡ Some (Some r) → contains_key l.rows q ≡ false → find line_cmp q l.key-iterator ≡ Some (Some r);
}
