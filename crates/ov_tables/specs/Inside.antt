-- What a call within a transaction does, over a clean disk.
use Rattle.std.specs.Prelude.{ℕ, List, Result, IsTrue, OnOk}
use Rattle.sqlite.specs.declared.error.Error.{Error}
use Rattle.sqlite.specs.State.{State, HasCleanDisk, KeepsCommit}
use Rattle.ov_tables.specs.Holding.{MayHoldCells}

-- from such a state, where it succeeds, it did this
abbrev pub Within : {T : Type 0} → (State → Type 0) → (State → State → Type 0)
    → State → State → Result T Error → Type 0
Within May Did old new result =
    HasCleanDisk new → IsTrue old.in_transaction → May old → OnOk result (Did old new)

-- where it succeeds over stored format 2, it did this
abbrev pub DoesInside : {T : Type 0} → (List ℕ → State → State → Type 0)
    → State → State → Result T Error → Type 0
DoesInside Did old new result =
    HasCleanDisk new → IsTrue old.in_transaction → (text : List ℕ) → MayHoldCells text old
    → OnOk result (Did text old new)

-- where it succeeds, the connection was open
abbrev pub WasOpenInside : {T : Type 0} → State → State → Result T Error → Type 0
WasOpenInside old new result =
    HasCleanDisk new → IsTrue old.in_transaction → OnOk result (IsTrue old.is_open)

-- where it succeeds, the transaction goes on
abbrev pub GoesOnInside : {T : Type 0} → State → State → Result T Error → Type 0
GoesOnInside old new result =
    HasCleanDisk new → IsTrue old.in_transaction → OnOk result (IsTrue new.in_transaction)

-- it commits nothing
abbrev pub CommitsNothing : State → State → Type 0
CommitsNothing old new = HasCleanDisk new → IsTrue old.in_transaction → KeepsCommit old new
