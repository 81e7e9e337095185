use Rattle.std.proofs.Common.{◌≡◌}
use Rattle.std.specs.List.{list_any}
use Rattle.ov_support.specs.Counting.{is_overfull}
use Rattle.ov_support.proofs.limits.are_too_many.Given as goal

abbrev pub invariant-loop-name : goal.invariant-loop-name
invariant-loop-name l =
    list_any (is_overfull l.schema l.stage.now) l.name-iterator.rest.items ≡ list_any (is_overfull l.schema l.stage.now) l.initial.name-iterator.rest.items
