-- Writing to the tables within a transaction.
use Rattle.std.specs.Prelude.{◌≡◌, ℕ, List, Result}
use Rattle.std.specs.Borrow.{MutBor}
use Rattle.sqlite.specs.declared.error.Error.{Error}
use Rattle.sqlite.specs.Store.{Ghosts}
use Rattle.sqlite.specs.State.{State, Survives}
use Rattle.sqlite.specs.Held.{Held, state}
use Rattle.ov_tables.specs.Holding.{MayHoldCells}
use Rattle.ov_tables.specs.Inside.{Within, WasOpenInside, GoesOnInside, CommitsNothing}

-- Within a transaction a call wrote to the tables, from old to new. Where it succeeded, the transaction goes on, and if what
-- has to be there was, the call did this. In any case nothing is committed, and the transaction keeps its connection.
pub record WritesTables {S T : Type 0} (g : Ghosts S) (result : Result T Error)
    (May : List ℕ → State → Type 0) (Did : List ℕ → State → State → Type 0)
    (old new : MutBor (Held S)) : Type 0 where
  pub same_reference : new.ghost_name ≡ old.ghost_name
  pub ok : (text : List ℕ)
      → Within (May text) (Did text) (state g old.now) (state g new.now) result
  pub goes_on : GoesOnInside (state g old.now) (state g new.now) result
  pub kept : CommitsNothing (state g old.now) (state g new.now)
  pub survives : Survives (state g old.now) (state g new.now) (λ _. ⊥)

-- The same of a call that succeeds only over an open connection.
pub record WritesOpenTables {S T : Type 0} (g : Ghosts S) (result : Result T Error)
    (May : List ℕ → State → Type 0) (Did : List ℕ → State → State → Type 0)
    (old new : MutBor (Held S)) : Type 0 where
  pub tables : WritesTables g result May Did old new
  pub opened : WasOpenInside (state g old.now) (state g new.now) result

-- while the connection is open, the database is of stored format 2; and this is so too
abbrev pub MayHoldWith : (State → Type 0) → List ℕ → State → Type 0
MayHoldWith Also text s = MayHoldCells text s × Also s
