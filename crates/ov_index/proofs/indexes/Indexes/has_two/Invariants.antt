use Rattle.std.proofs.Common.{◌≡◌}
use Rattle.std.specs.FinMap.{entries}
use Rattle.std.specs.List.{list_any}
use Rattle.ov_index.specs.Collecting.{has_two}
use Rattle.ov_index.proofs.indexes.Indexes.has_two.Given as goal

abbrev pub invariant-loop-name : goal.invariant-loop-name
invariant-loop-name l = list_any (λ m. has_two (entries m.1)) l._name-iterator ≡ list_any (λ m. has_two (entries m.1)) l.initial._name-iterator
