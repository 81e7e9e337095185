use Rattle.std.proofs.Common.{◌≡◌}
use Rattle.ov_specs.specs.operations.GivenRow.{with_values}
use Rattle.ov_rows.proofs.Names.{paired}
use Rattle.ov_rows.proofs.columns.Columns.to_named.Given as goal

abbrev pub invariant-loop-name : goal.invariant-loop-name
invariant-loop-name l =
    with_values (paired l.name-iterator.a.rest.now l.name-iterator.b) l.named
    ≡ with_values (paired l.initial.name-iterator.a.rest.now l.initial.name-iterator.b) l.initial.named
