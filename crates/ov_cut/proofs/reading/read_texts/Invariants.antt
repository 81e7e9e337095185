use Rattle.std.specs.Vec.Iter.{into_iter_items}
use Rattle.ov_cut.proofs.Pieces.{ReadsSome}
use Rattle.ov_cut.proofs.reading.read_texts.Given as goal

-- The messages of the texts so far were read.
abbrev pub invariant-loop-text : goal.invariant-loop-text
invariant-loop-text l = ReadsSome l.fn.texts.items (into_iter_items l.text-iterator) l.messages.items
