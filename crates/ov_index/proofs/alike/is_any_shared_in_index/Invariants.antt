use Rattle.std.proofs.Common.{◌≡◌}
use Rattle.std.specs.List.{list_any}
use Rattle.ov_index.specs.Collecting.{is_shared}
use Rattle.ov_index.specs.IndexKeys.{index_key}
use Rattle.ov_index.proofs.alike.is_any_shared_in_index.Given as goal

abbrev pub invariant-loop-values : goal.invariant-loop-values
invariant-loop-values l =
    list_any (λ e. is_shared l.indexes l.changes.entries (index_key l.table l.number e.0.items, e.1)) l.values-iterator
    ≡ list_any (λ e. is_shared l.indexes l.changes.entries (index_key l.table l.number e.0.items, e.1)) l.initial.values-iterator
