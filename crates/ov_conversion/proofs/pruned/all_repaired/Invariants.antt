use Rattle.std.proofs.Common.{◌≡◌, ◌++◌}
use Rattle.std.specs.List.{filter_map}
use Rattle.ov_carried.specs.Making.{keyed}
use Rattle.ov_conversion.specs.Pruning.{repaired_at}
use Rattle.ov_conversion.proofs.pruned.all_repaired.Given as goal

abbrev pub invariant-loop-key : goal.invariant-loop-key
invariant-loop-key l =
    l.found.items ++ filter_map (keyed (repaired_at l.schema l.before l.version l.rows)) l.key-iterator.rest.items
    ≡ filter_map (keyed (repaired_at l.schema l.before l.version l.rows)) l.initial.key-iterator.rest.items
