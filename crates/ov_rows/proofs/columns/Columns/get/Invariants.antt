use Rattle.std.proofs.Common.{◌≡◌}
use Rattle.std.specs.FinMap.{find}
use Rattle.ov_specs.specs.schema.SchemaTypes.{name_cmp}
use Rattle.ov_rows.proofs.Names.{paired}
use Rattle.ov_rows.proofs.columns.Columns.get.Given as goal

abbrev pub invariant-loop-known : goal.invariant-loop-known
invariant-loop-known l =
    find name_cmp l.name (paired l.known-iterator.a.rest.now l.known-iterator.b) ≡ find name_cmp l.name (paired l.initial.known-iterator.a.rest.now l.initial.known-iterator.b)
