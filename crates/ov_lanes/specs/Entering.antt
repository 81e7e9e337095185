-- What a desk enters into the history of its machine.
use Rattle.std.specs.Prelude.{◌≡◌, ◌⊎◌, ℕ, List, [], ◌∷◌, Some, false}
use Rattle.ov_specs.specs.wire.Message.{Message}
use Rattle.ov_specs.specs.machine.Machine as machine
use Rattle.ov_specs.specs.machine.Machine.{Sent, is_open}
use Rattle.ov_specs.specs.machine.History.{run}
use Rattle.ov_order.specs.declared.items.Brought.{Brought}
use Rattle.ov_order.specs.declared.items.Brought.TheVariants.{Message as Brings, End as Last}
use Rattle.ov_workers.specs.declared.cause.ReadCause.{ReadCause}
use Rattle.ov_history.specs.History.{KeepsNewest}
use Rattle.ov_core.specs.Following.{CoreState}
use Rattle.ov_core.specs.Stepping.{closing}
use Rattle.ov_lanes.specs.Fitting.{end_cause}
use Rattle.ov_lanes.specs.Pairs.{Each}

-- These entries were entered, and no others: they lead to the state of the core, and the newest of those that it kept and of
-- these are kept.
pub record Enters {K D : Type 0} (entries : List machine.Entry) (old new : CoreState K D) : Type 0 where
  pub sent : List Sent
  pub legal : run old.state entries ≡ Some (record { state = new.state; sent = sent })
  pub keeps : KeepsNewest old.kept entries new.kept

-- one of these sessions is closed because its ring had no room for what was sent to it
abbrev pub IsOverrun : (ℕ → Type 0) → machine.Entry → Type 0
IsOverrun served e = (n moment : ℕ) × served n × (e ≡ closing moment n machine.Overrun)

-- at most closings of these sessions for that cause were entered
abbrev pub EntersOverruns : {K D : Type 0} → (ℕ → Type 0) → CoreState K D → CoreState K D → Type 0
EntersOverruns served old new = (entries : List machine.Entry) × Each (IsOverrun served) entries × Enters entries old new

-- How an item of a session is entered: a message is taken, or the session is closed in its place as out of memory; the
-- reader's end closes the session for its cause.
abbrev pub IsEntryOf : ℕ → Brought Message ReadCause → machine.Entry → Type 0
IsEntryOf n (Brings message) e = (e.event ≡ machine.Take n message) ⊎ (e.event ≡ machine.Close n machine.Memory)
IsEntryOf n (Last cause) e = e.event ≡ machine.Close n (end_cause cause)

-- One entry was entered for the item; or none, since its session is not open.
abbrev pub EntersItem : {K D : Type 0} → ℕ → Brought Message ReadCause → CoreState K D → CoreState K D → Type 0
EntersItem n item old new = ((e : machine.Entry) × IsEntryOf n item e × Enters (e ∷ []) old new) ⊎ ((is_open old.state n ≡ false) × Enters [] old new)

-- An item of a session was entered, and before and after it at most closings of these sessions for want of room.
pub record EntersTurn {K D : Type 0} (served : ℕ → Type 0) (n : ℕ) (item : Brought Message ReadCause) (old new : CoreState K D) : Type 0 where
  pub ready : CoreState K D
  pub taken : CoreState K D
  pub before : EntersOverruns served old ready
  pub enters : EntersItem n item ready taken
  pub after : EntersOverruns served taken new
