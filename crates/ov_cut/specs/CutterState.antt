-- What a cutter has cut, and how it reports damage.
use Rattle.std.specs.Prelude.{◌≡◌, ℕ, ◌+◌, List, length, Option, Some, None}
use Rattle.ov_specs.specs.values.Capped.{capped_to_64_bits}
use Rattle.ov_specs.specs.wire.Cut.{cut, Damage, Stray, TooLong}
use Rattle.ov_cut.specs.declared.fault.CutFault.{CutFault}
use Rattle.ov_cut.specs.declared.fault.CutFault.TheVariants as fault

-- the fault that reports damage, with the offset of a stray byte; from 2^64-1 on it stays there
abbrev pub fault_of_damage : Option Damage → Option CutFault
fault_of_damage None = None
fault_of_damage (Some (Stray offset)) = Some (fault.Damaged (capped_to_64_bits offset))
fault_of_damage (Some TooLong) = Some fault.TooLong

-- what a cutter has: where in the stream its rest begins, the rest, which is a message that has begun, the fault, and how
-- many bytes it has looked at
pub record CutterState : Type 0 where
  pub start : ℕ
  pub rest : List ℕ
  pub fault : Option CutFault
  pub looked : ℕ

-- The cutter has cut this stream, and gave these messages: the messages, its rest and its fault are those of the cut of the
-- stream. With the fault `Memory` it has cut no stream.
pub record HasCut (stream : List ℕ) (given : List (List ℕ)) (cutter : CutterState) : Type 0 where
  pub messages : (cut stream).messages ≡ given
  pub rest : (cut stream).rest ≡ cutter.rest
  pub fault : fault_of_damage (cut stream).damage ≡ cutter.fault
  pub place : cutter.fault ≡ None
      → (begins : ℕ) × (begins + length cutter.rest ≡ length stream) × (cutter.start ≡ capped_to_64_bits begins)
