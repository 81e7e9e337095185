use Rattle.std.proofs.Common.{◌≡◌, ◌++◌, drop, length}
use Rattle.ov_schema.specs.Built.{indexes_in}
use Rattle.ov_index.specs.Collecting.{entries_from}
use Rattle.ov_index.proofs.entry.entries_in.Given as goal

abbrev pub invariant-loop-index : goal.invariant-loop-index
invariant-loop-index l =
    l.entries.items ++ entries_from (length l.entries.items) l.key.0 (indexes_in (drop l.index-index l.index-items)) l.key.1 l.columns
    ≡ entries_from 0 l.key.0 (indexes_in l.index-items) l.key.1 l.columns
