-- How some of the messages of a piece change a core; for private clauses.
use Rattle.std.specs.Prelude.{◌≡◌, ◌⊎◌, ℕ, ◌++◌, List, [], ◌∷◌, Bool, true, false}
use Rattle.std.specs.List.{list_all}
use Rattle.ov_specs.specs.wire.Message.{Message}
use Rattle.ov_specs.specs.machine.Machine as machine
use Rattle.ov_specs.specs.machine.Machine.{State, Entry, Stepped, is_open}
use Rattle.ov_specs.specs.machine.Streams as streams
use Rattle.ov_specs.specs.machine.Streams.{Feeds, delivered}
use Rattle.ov_cut.specs.declared.fault.StreamFault.{StreamFault}
use Rattle.ov_cut.specs.declared.fault.StreamFault.TheVariants.{Damaged, Memory}
use Rattle.ov_core.specs.Following.{CoreState, Extends}
use Rattle.ov_streams.specs.Feeding.{is_entry_of}

-- one entry was entered, which is a step of the machine to the core's state
pub record ExtendsByStep {K D : Type 0} (old : CoreState K D) (entry : Entry) (step : Stepped)
    (new : CoreState K D) : Type 0 where
  pub state : step.state ≡ new.state
  pub enters : Extends old (entry ∷ []) new

-- the session was closed by an entry of its own
pub record ClosesByEntry {K D : Type 0} (at n : ℕ) (cause : machine.Cause) (old new : CoreState K D) : Type 0 where
  pub entry : Entry
  pub step : Stepped
  pub adds : ExtendsByStep old entry step new
  pub is : streams.IsEntryAt at old.state (machine.Close n cause) entry step
  pub shut : is_open step.state n ≡ false

-- the message was taken, or the session was closed when out of memory
pub record EntersMessage {K D : Type 0} (at n : ℕ) (message : Message) (old new : CoreState K D) : Type 0 where
  pub entry : Entry
  pub step : Stepped
  pub adds : ExtendsByStep old entry step new
  pub outcome : streams.IsEntryAt at old.state (machine.Take n message) entry step
      ⊎ ((is_open step.state n ≡ false) × streams.IsEntryAt at old.state (machine.Close n machine.Memory) entry step)

-- These messages were entered, whatever messages and damage follow them: if the session is still open, what comes of those goes
-- on from here; otherwise nothing comes of them.
pub record EntersMessages {K D : Type 0} (at n : ℕ) (messages : List Message) (old new : CoreState K D) : Type 0 where
  pub entries : List Entry
  pub own : list_all (is_entry_of n) entries ≡ true
  pub enters : Extends old entries new
  pub goes_on : is_open new.state n ≡ true → (others : List Message) (damaged : Bool) (more : List Entry) (last : State)
      → Feeds (delivered at n) new.state others damaged more last
      → Feeds (delivered at n) old.state (messages ++ others) damaged (entries ++ more) last
  pub ends : is_open new.state n ≡ false → (others : List Message) (damaged : Bool)
      → Feeds (delivered at n) old.state (messages ++ others) damaged entries new.state

-- why a session is closed if its stream can't be read on
abbrev pub closing_cause_of : StreamFault → machine.Cause
closing_cause_of Damaged = machine.Damaged
closing_cause_of Memory = machine.Memory
