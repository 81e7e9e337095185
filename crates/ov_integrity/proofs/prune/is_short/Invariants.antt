use Rattle.std.proofs.Common.{◌≡◌}
use Rattle.std.specs.List.{list_any}
use Rattle.ov_specs.specs.integrity.Limits.{has_too_few}
use Rattle.ov_rows.proofs.Names.{paired}
use Rattle.ov_integrity.proofs.prune.is_short.Given as goal

abbrev pub invariant-loop-name : goal.invariant-loop-name
invariant-loop-name l =
    list_any (has_too_few l.table) (paired l.name-iterator.a.rest.now l.name-iterator.b)
    ≡ list_any (has_too_few l.table) (paired l.initial.name-iterator.a.rest.now l.initial.name-iterator.b)
