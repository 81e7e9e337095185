use Rattle.ov_index.proofs.Placed.{AreGoneTo}
use Rattle.ov_index.proofs.placing.push_gone.Given as goal

abbrev pub invariant-loop-entry : goal.invariant-loop-entry
invariant-loop-entry l = AreGoneTo l.new l.entry-iterator.rest.items l.gone.items l.initial.entry-iterator.rest.items l.fn.gone.items
