-- What serving links comes to, and which serials they have.
use Rattle.std.proofs.Common.{◌≡◌, ◌⊎◌, inl, inr, ℕ, ◌+◌, ◌≤◌, ◌<◌, length, Bool, true, false, Some, None, cond, leb, refl, arith}
use Rattle.std.specs.Prelude.{◌-◌, ◌^◌, unwrap_or}
use Rattle.std.proofs.lemmas.Bool.{and_parts, leb-true, leb-false}
use Rattle.ov_specs.specs.machine.Machine.{State}
use Rattle.ov_sessions.specs.Sessions.{most_sessions, beyond_serials, serial_left}
use Rattle.ov_lanes.specs.Places.{has_places}

-- ---- serials

-- this many are left
few : (count : ℕ) (s : State) → has_places count s ≡ true → count ≤ beyond_serials - s.next
few count s places = leb-true count (beyond_serials - s.next) (and_parts (leb count (most_sessions - length s.sessions)) (leb count (beyond_serials - s.next)) places).1

-- from the next one on
pub serial_fits : (count : ℕ) (s : State) (first : ℕ) → first ≡ unwrap_or (serial_left s.next) 0 → has_places count s ≡ true → first + count < 2 ^ 64
serial_fits count s first is places = by (leb beyond_serials s.next) refl is
  where
    by : (b : Bool) → leb beyond_serials s.next ≡ b → first ≡ unwrap_or (cond b None (Some s.next)) 0 → first + count < 2 ^ 64
    by true over h = let fits = few count s places in omega (arith, fits, h)
    by false under h = let fits = few count s places in let low = leb-false beyond_serials s.next under in omega (arith, fits, h, low)

-- ---- what can be opened

-- the first serial is the next one, unless nothing is to be opened
pub first_serial : (count : ℕ) (s : State) (first : ℕ) → first ≡ unwrap_or (serial_left s.next) 0 → has_places count s ≡ true → (first ≡ s.next) ⊎ (count ≡ 0)
first_serial count s first is places = by (leb beyond_serials s.next) refl is
  where
    by : (b : Bool) → leb beyond_serials s.next ≡ b → first ≡ unwrap_or (cond b None (Some s.next)) 0 → (first ≡ s.next) ⊎ (count ≡ 0)
    by true over h = let fits = few count s places in let high = leb-true beyond_serials s.next over in inr (omega (arith, fits, high))
    by false under h = inl h

-- few enough for the ledger
pub few_places : (count : ℕ) (s : State) → has_places count s ≡ true → count ≤ 2 ^ 64 - 2
few_places count s places = let a = leb-true count (most_sessions - length s.sessions) (and_parts (leb count (most_sessions - length s.sessions)) (leb count (beyond_serials - s.next)) places).0 in omega (arith, a)
