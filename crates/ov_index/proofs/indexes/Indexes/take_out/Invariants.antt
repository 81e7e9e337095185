use Rattle.std.proofs.Common.{◌≡◌, drop}
use Rattle.ov_index.specs.Indexing.{without_entries}
use Rattle.ov_index.proofs.indexes.Indexes.take_out.Given as goal

abbrev pub invariant-loop-entry : goal.invariant-loop-entry
invariant-loop-entry l = without_entries (drop l.entry-index l.entries) l.self ≡ without_entries l.entries l.fn.self
