use Rattle.ov_index.specs.Collecting.{IsSameWithout}
use Rattle.ov_index.proofs.Placed.{AreAddedTo}
use Rattle.ov_index.proofs.indexes.Indexes.add_all_new.Given as goal

abbrev pub invariant-loop-entry : goal.invariant-loop-entry
invariant-loop-entry l =
    IsSameWithout l.fn.added.items l.fn.self l.added.items l.self
    × AreAddedTo l.entry-iterator.rest.items l.self l.initial.entry-iterator.rest.items l.fn.self
