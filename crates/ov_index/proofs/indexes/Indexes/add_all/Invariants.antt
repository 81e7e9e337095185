use Rattle.std.proofs.Common.{◌≡◌}
use Rattle.ov_index.specs.Collecting.{with_entries}
use Rattle.ov_index.proofs.indexes.Indexes.add_all.Given as goal

abbrev pub invariant-loop-entry : goal.invariant-loop-entry
invariant-loop-entry l = with_entries l.entry-iterator.rest.items l.self ≡ with_entries l.initial.entry-iterator.rest.items l.fn.self
