-- What became of a session.
use Rattle.std.specs.Prelude.{◌≡◌, ◌⊎◌, ℕ, ◌==◌, List, [], ◌∷◌, ◌++◌, flat_map, if◌then◌else◌, Bool, true, false, Option, Some}
use Rattle.std.specs.Option.{option_or}
use Rattle.ov_specs.specs.wire.Message.{Message}
use Rattle.ov_specs.specs.machine.Machine as machine

-- why the event closes the session itself, if it does; the machine may close it as out of memory at another event
abbrev pub shut_in : ℕ → machine.Event → List machine.Cause
shut_in session machine.Open = []
shut_in session (machine.Take other message) = []
shut_in session (machine.Close other cause) = if other == session then cause ∷ [] else []
shut_in session machine.Tick = []

-- why entries close it, in order
abbrev pub shut_by : List machine.Entry → ℕ → List machine.Cause
shut_by entries session = flat_map (λ e. shut_in session e.event) entries

-- What became of a session: whether it is open, why it was closed if it was, why entries closed it, the messages taken from it,
-- the frames handed out of it, and the frames that wait.
pub record Course : Type 0 where
  pub is_open : Bool
  pub closed : Option machine.Cause
  pub shut : List machine.Cause
  pub asks : List Message
  pub handed : List (List ℕ)
  pub waiting : List (List ℕ)

-- A session that is not served: no entry closes it. While it is open, more frames may wait for it, and the machine may close it
-- as out of memory.
pub record Spares (before after : Course) : Type 0 where
  pub more : List (List ℕ)
  pub waiting : after.waiting ≡ before.waiting ++ more
  pub silent : before.is_open ≡ false → more ≡ []
  pub handed : after.handed ≡ before.handed
  pub asks : after.asks ≡ before.asks
  pub shut : after.shut ≡ before.shut
  pub closes : ((after.is_open ≡ before.is_open) × (after.closed ≡ before.closed))
      ⊎ ((before.is_open ≡ true) × (after.is_open ≡ false) × (after.closed ≡ option_or before.closed (Some machine.Memory)))
