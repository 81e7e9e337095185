use Rattle.std.proofs.Common.{[]}
use Rattle.ov_index.specs.Collecting.{IsSameWithout}
use Rattle.ov_index.proofs.Placed.{ArePlacedTo}
use Rattle.ov_index.proofs.indexes.Indexes.place.Given as goal

abbrev pub invariant-loop-key : goal.invariant-loop-key
invariant-loop-key l =
    IsSameWithout [] l.fn.self l.room.added.items l.self
    × ArePlacedTo l.schema l.rows l.initial.key-iterator l.fn.self
    (record { left = l.key-iterator; indexes = l.self; gone = l.room.gone.items })
