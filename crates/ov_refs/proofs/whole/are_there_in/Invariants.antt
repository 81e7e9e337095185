use Rattle.std.proofs.Common.{◌≡◌}
use Rattle.std.specs.FinMap.{entries}
use Rattle.std.specs.List.{list_all}
use Rattle.ov_rows.specs.Nested.{in_table}
use Rattle.ov_refs.specs.Whole.{is_there}
use Rattle.ov_refs.proofs.whole.are_there_in.Given as goal

abbrev pub invariant-loop-id : goal.invariant-loop-id
invariant-loop-id l = list_all (is_there l.rows) (in_table l.name l.id-iterator) ≡ list_all (is_there l.rows) (in_table l.name (entries l.holders))
