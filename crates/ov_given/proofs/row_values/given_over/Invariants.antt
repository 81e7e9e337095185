use Rattle.std.proofs.Common.{◌≡◌}
use Rattle.ov_specs.specs.operations.GivenRow.{with_values}
use Rattle.ov_rows.specs.Named.{named}
use Rattle.ov_given.proofs.row_values.given_over.Given as goal

abbrev pub invariant-loop-name : goal.invariant-loop-name
invariant-loop-name l = with_values (named l.name-iterator) l.over ≡ with_values (named l.initial.name-iterator) l.initial.over
