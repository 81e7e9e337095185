use Rattle.std.proofs.Common.{◌≡◌}
use Rattle.std.specs.FinMap.{entries}
use Rattle.std.specs.List.{list_any}
use Rattle.ov_index.specs.Collecting.{has_two}
use Rattle.ov_index.proofs.table_indexes.TableIndexes.has_two.Given as goal

abbrev pub invariant-loop-number : goal.invariant-loop-number
invariant-loop-number l = list_any (λ m. has_two (entries m.1)) l._number-iterator ≡ list_any (λ m. has_two (entries m.1)) l.initial._number-iterator
