-- Events and entries of the code as those of the machine.
use Rattle.std.specs.Prelude.{ℕ, List, [], ◌∷◌, map, Bool, true, false, Option, Some, None, option_map}
use Rattle.std.specs.List.{list_any}
use Rattle.ov_specs.specs.wire.Message.{Message}
use Rattle.ov_specs.specs.machine.Machine as machine
use Rattle.ov_sessions.specs.declared.session.Session.{Session}
use Rattle.ov_history.specs.declared.event.Cause.{Cause}
use Rattle.ov_history.specs.declared.event.Cause.TheVariants.{InputEnded, ReadFault, WriteFault, Damaged, Overrun, Memory}
use Rattle.ov_history.specs.declared.event.Event.{Event}
use Rattle.ov_history.specs.declared.event.Event.TheVariants.{Open, Take, Close, Tick}
use Rattle.ov_history.specs.declared.event.Outcome.{Outcome}
use Rattle.ov_history.specs.declared.event.Outcome.TheVariants.{Committed, Exhausted, Failed, NoMemory}
use Rattle.ov_history.specs.declared.event.Attempt.{Attempt}
use Rattle.ov_history.specs.declared.event.Choice.{Choice}
use Rattle.ov_history.specs.declared.event.Entry.{Entry}

-- a cause
abbrev pub cause_view : Cause → machine.Cause
cause_view InputEnded = machine.InputEnded
cause_view ReadFault = machine.ReadFault
cause_view WriteFault = machine.WriteFault
cause_view Damaged = machine.Damaged
cause_view Overrun = machine.Overrun
cause_view Memory = machine.Memory

-- no write failed
abbrev pub is_written : Cause → Bool
is_written InputEnded = true
is_written ReadFault = true
is_written WriteFault = false
is_written Damaged = true
is_written Overrun = true
is_written Memory = true

-- an event: the machine knows sessions by their serials
abbrev pub event_view : Event Message → machine.Event
event_view Open = machine.Open
event_view (Take session message) = machine.Take session.serial message
event_view (Close session cause) = machine.Close session.serial (cause_view cause)
event_view Tick = machine.Tick

-- the session of an event, with its key
abbrev pub session_in : Event Message → Option Session
session_in Open = None
session_in (Take session message) = Some session
session_in (Close session cause) = Some session
session_in Tick = None

-- an outcome
abbrev pub outcome_view : Outcome → machine.Outcome
outcome_view Committed = machine.Committed
outcome_view Exhausted = machine.Exhausted
outcome_view Failed = machine.Failed
outcome_view NoMemory = machine.NoMemory

-- an attempt
abbrev pub attempt_view : Attempt → machine.Attempt
attempt_view a = record { number = a.number; outcome = outcome_view a.outcome }

-- a choice
abbrev pub choice_view : Choice → machine.Choice
choice_view c = record { moment = c.moment; draws = c.draws.items; outcomes = map attempt_view c.outcomes.items }

-- an entry
abbrev pub entry_view : Entry → machine.Entry
entry_view e = record { event = event_view e.event; choice = choice_view e.choice }

-- what is listed of an attempt, as an outcome of the machine
abbrev pub listed_of : Option Outcome → Option machine.Outcome
listed_of outcome = option_map outcome_view outcome

-- what is listed of an attempt, as an attempt of the code
abbrev pub listed_by : ℕ → Option Outcome → List Attempt
listed_by number None = []
listed_by number (Some o) = record { number = number; outcome = o } ∷ []

-- a failed allocation closes the session of the attempt's transaction
abbrev pub is_closing : Option Outcome → Bool
is_closing None = false
is_closing (Some NoMemory) = true
is_closing (Some Committed) = false
is_closing (Some Exhausted) = false
is_closing (Some Failed) = false

-- ---- attempts of the machine

-- the outcome is an answer of the store
abbrev pub is_of_store : machine.Outcome → Bool
is_of_store machine.Committed = true
is_of_store machine.Exhausted = true
is_of_store machine.Failed = true
is_of_store machine.NoMemory = false

-- the store failed
abbrev pub is_failure : machine.Outcome → Bool
is_failure machine.Committed = false
is_failure machine.Exhausted = false
is_failure machine.Failed = true
is_failure machine.NoMemory = false

-- some attempt has such an outcome
abbrev pub some_outcome : (machine.Outcome → Bool) → List machine.Attempt → Bool
some_outcome test attempts = list_any (λ attempt. test attempt.outcome) attempts
