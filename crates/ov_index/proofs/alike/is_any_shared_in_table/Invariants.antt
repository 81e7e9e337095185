use Rattle.std.proofs.Common.{◌≡◌}
use Rattle.std.specs.FinMap.{entries}
use Rattle.std.specs.List.{list_any}
use Rattle.ov_index.specs.Collecting.{is_shared}
use Rattle.ov_index.specs.IndexKeys.{index_key}
use Rattle.ov_index.proofs.alike.is_any_shared_in_table.Given as goal

abbrev pub invariant-loop-number : goal.invariant-loop-number
invariant-loop-number l =
    list_any (λ m. list_any (λ e. is_shared l.indexes l.changes.entries (index_key l.table m.0 e.0, e.1)) (entries m.1)) l.number-iterator
    ≡ list_any (λ m. list_any (λ e. is_shared l.indexes l.changes.entries (index_key l.table m.0 e.0, e.1)) (entries m.1)) l.initial.number-iterator
