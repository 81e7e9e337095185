use Rattle.std.proofs.Common.{◌≡◌}
use Rattle.std.specs.FinMap.{keys}
use Rattle.std.specs.List.{list_any}
use Rattle.ov_support.specs.Linked.{is_unchanged_beside}
use Rattle.ov_support.proofs.support.has_unchanged_beside.Given as goal

abbrev pub invariant-loop-from : goal.invariant-loop-from
invariant-loop-from l =
    list_any (is_unchanged_beside l.stage.now l.changes.keys l.key) l.from-iterator ≡ list_any (is_unchanged_beside l.stage.now l.changes.keys l.key) (keys l.holders)
