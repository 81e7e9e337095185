-- What a piece, or the front of one, makes of a cutter and of the messages it has given; for private clauses.
use Rattle.std.specs.Prelude.{◌≡◌, ◌≢◌, ℕ, ◌+◌, ◌<◌, ◌≤◌, ◌++◌, ◌∷◌, List, [], length, take, Some, IsSome, Result, Ok, Err}
use Rattle.ov_specs.specs.values.Capped.{capped_to_64_bits}
use Rattle.ov_specs.specs.wire.Beginning.{BeginsAs}
use Rattle.ov_specs.specs.wire.Cut.{cut}
use Rattle.ov_cut.specs.declared.fault.CutFault.{CutFault}
use Rattle.ov_cut.specs.declared.fault.CutFault.TheVariants as fault
use Rattle.ov_cut.specs.CutterState.{CutterState, HasCut}

-- no more messages come, and nothing is kept of the one that has begun
abbrev pub with_fault : CutterState → CutFault → CutterState
with_fault c why = record c { rest = []; fault = Some why }

-- the rest begins this many bytes later in the stream
abbrev pub advanced : CutterState → ℕ → CutterState
advanced c n = record c { start = capped_to_64_bits (c.start + n) }

-- these bytes stand after the rest, or an allocation failed
abbrev pub KeepsMore : CutterState → List ℕ → Result (Unit {0}) CutFault → CutterState → Type 0
KeepsMore old more (Ok done) new = new ≡ record old { rest = old.rest ++ more }
KeepsMore old more (Err why) new = (why ≡ fault.Memory) × (new.looked ≡ old.looked)

-- the message stands after the earlier ones, and none has begun after it; or an allocation failed
abbrev pub GivesMessage : CutterState → List ℕ → List (List ℕ) → Result (Unit {0}) CutFault → CutterState → List (List ℕ) → Type 0
GivesMessage old message before (Ok done) new after =
    (new ≡ record (advanced old (length message)) { rest = [] }) × (after ≡ before ++ message ∷ [])
GivesMessage old message before (Err why) new after = (why ≡ fault.Memory) × (new.looked ≡ old.looked) × (after ≡ before)

-- The cutter that was given a stream is given the next piece. It has then cut the longer stream, and given its
-- messages; if an allocation failed, some are missing at the end. With a fault it stays as it is, and gives no more.
pub record TakesPiece (old : CutterState) (before : List (List ℕ)) (piece : List ℕ) (new : CutterState)
    (after : List (List ℕ)) : Type 0 where
  pub whole : (stream : List ℕ) (given : List (List ℕ)) → HasCut stream (given ++ before) old
      → new.fault ≢ Some fault.Memory → HasCut (stream ++ piece) (given ++ after) new
  pub memory : (stream : List ℕ) (given : List (List ℕ)) → HasCut stream (given ++ before) old
      → BeginsAs (given ++ after) (cut (stream ++ piece)).messages
  pub over : IsSome old.fault → (after ≡ before) × (new ≡ old)

-- this many bytes of the piece were taken, or all of it if there is a fault, which the cutter then is to have
abbrev pub TakesFront : CutterState → List (List ℕ) → List ℕ → Result ℕ CutFault → CutterState → List (List ℕ) → Type 0
TakesFront old before piece (Ok n) new after = (0 < n) × (n ≤ length piece) × TakesPiece old before (take n piece) new after
TakesFront old before piece (Err why) new after = TakesPiece old before piece (with_fault new why) after

-- how many looks there were: at each byte that was taken, and with a fault at some of them
abbrev pub LooksAtFront : ℕ → List ℕ → Result ℕ CutFault → ℕ → Type 0
LooksAtFront old piece (Ok n) new = new ≡ old + n
LooksAtFront old piece (Err why) new = new ≤ old + length piece
