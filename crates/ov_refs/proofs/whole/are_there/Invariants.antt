use Rattle.std.proofs.Common.{◌≡◌}
use Rattle.std.specs.FinMap.{entries}
use Rattle.std.specs.List.{list_all}
use Rattle.ov_rows.specs.Named.{named}
use Rattle.ov_refs.specs.Whole.{is_there}
use Rattle.ov_refs.proofs.ByTables.{are_all_in}
use Rattle.ov_refs.proofs.whole.are_there.Given as goal

abbrev pub invariant-loop-name : goal.invariant-loop-name
invariant-loop-name l = list_all (are_all_in (is_there l.rows)) (named l.name-iterator) ≡ list_all (is_there l.rows) (entries l.holders)
