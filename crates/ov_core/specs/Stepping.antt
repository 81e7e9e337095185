-- What one step of a core promises.
use Rattle.std.specs.Prelude.{◌≡◌, ◌⊎◌, ℕ, ◌+◌, ◌<◌, ◌≤◌, [], ◌∷◌, ◌++◌, length, Bool, true, false, Option}
use Rattle.ov_specs.specs.machine.Machine as machine
use Rattle.ov_specs.specs.machine.Machine.{State, is_open}
use Rattle.ov_specs.specs.machine.Suiting.{draws_uuids}
use Rattle.ov_specs.specs.values.Uuid.{Uuid}
use Rattle.ov_requests.specs.Drawing.{DrawsFrom}
use Rattle.ov_history.specs.Entries.{session_in}
use Rattle.ov_history.specs.History.{newest}
use Rattle.ov_history.specs.declared.event.Entry.{Entry}
use Rattle.ov_history.specs.declared.event.StepFault.{StepFault}
use Rattle.ov_history.specs.declared.event.StepFault.TheVariants as fault
use Rattle.ov_history.specs.declared.event.Stepped.{Stepped}
use Rattle.ov_history.specs.declared.event.Stepped.TheVariants as answer
use Rattle.ov_sessions.specs.Sessions.{most_sessions, has_no_room, IsFreeKey}
use Rattle.ov_sessions.specs.declared.session.Session.{Session}
use Rattle.ov_live.specs.States.{still_open}
use Rattle.ov_live.specs.Asking.{AsksKeeper, HasSameKeeper}
use Rattle.ov_core.specs.Following.{CoreState, EntersEntry, keeper_of}
use Rattle.ov_outbox.specs.Frames.{waiting_for, has_queue}
use Rattle.ov_live.specs.Counting.{CountsTries}
use Rattle.ov_laws.specs.Attempts.{most_attempts}
use Rattle.ov_laws.specs.Databases.{at_moment_of}

-- no place is left for a session, or no serial
abbrev pub is_full : State → Bool
is_full s = has_no_room (length s.sessions) s.next

-- The answer, by the event, the state before, the entry, and the state after. If memory runs out, a `Take` may be entered as
-- a closing. It is answered `Closed` exactly if its session is not open afterwards.
abbrev pub AnswersEvent : machine.Event → State → machine.Entry → State → Stepped → Type 0
AnswersEvent machine.Open old entry new (answer.Opened session) =
    (entry.event ≡ machine.Open) × (session.serial ≡ old.next) × (session.key < most_sessions) × (is_full old ≡ false)
AnswersEvent (machine.Take session message) old entry new answer.Done =
    (entry.event ≡ machine.Take session message) × (is_open new session ≡ true)
AnswersEvent (machine.Take session message) old entry new answer.Closed =
    ((entry.event ≡ machine.Take session message) ⊎ (entry.event ≡ machine.Close session machine.Memory))
    × (is_open new session ≡ false)
AnswersEvent (machine.Close session cause) old entry new answer.Done = entry.event ≡ machine.Close session cause
AnswersEvent machine.Tick old entry new answer.Done = entry.event ≡ machine.Tick
AnswersEvent event old entry new stepped = ⊥

-- A new session comes last, with a key that no open session has. The others that were open and still are keep their keys.
abbrev pub KeepsKeys : {K D : Type 0} → CoreState K D → Stepped → CoreState K D → Type 0
KeepsKeys old (answer.Opened session) new =
    IsFreeKey session.key old.open_sessions × (new.open_sessions ≡ old.open_sessions ++ session ∷ [])
KeepsKeys old stepped new = new.open_sessions ≡ still_open new.state old.open_sessions

-- One entry was appended to those that were kept, and the newest of all are kept. It has this session, key and serial, or none.
pub record AppendsEntry {K D : Type 0} (session : Option Session) (old new : CoreState K D) : Type 0 where
  pub entry : Entry
  pub kept : new.kept ≡ newest (old.kept ++ entry ∷ [])
  pub same_session : session_in entry.event ≡ session

-- so does each step that is not refused
abbrev pub StepAppends : {K D : Type 0} → Option Session → CoreState K D → Stepped → CoreState K D → Type 0
StepAppends session old (answer.Refused fault) new = Unit {0}
StepAppends session old (answer.Opened opened) new = AppendsEntry session old new
StepAppends session old answer.Done new = AppendsEntry session old new
StepAppends session old answer.Closed new = AppendsEntry session old new

-- the entry of an event at the moment, with the identifiers that were drawn from the source (RFC 4122, 4.1.2)
pub record IsEntered {K D : Type 0} (draws : D → Uuid → D → Type 0) (at : ℕ) (event : machine.Event)
    (old : CoreState K D) (stepped : Stepped) (new : CoreState K D) : Type 0 where
  pub entry : machine.Entry
  pub tells : AnswersEvent event old.state entry new.state stepped
  pub keys : KeepsKeys old stepped new
  pub moment : entry.choice.moment ≡ at
  pub drawn : DrawsFrom draws old.source entry.choice.draws new.source
  pub uuids : draws_uuids entry ≡ true
  pub moves : EntersEntry old entry new
  pub asks : AsksKeeper entry.choice.outcomes (keeper_of old) (keeper_of new)
  -- each attempt is counted, and there are at most `most_attempts` of them
  pub tries : CountsTries (at_moment_of entry old.state) entry.choice entry.event old.tries new.tries
  pub few : new.tries ≤ old.tries + most_attempts entry.event (length old.state.outstanding)

-- When a fault is answered. A `Tick` is refused for memory only if transactions wait.
abbrev pub RefusesStep : machine.Event → State → StepFault → Type 0
RefusesStep machine.Open old fault.TooMany = is_full old ≡ true
RefusesStep machine.Open old fault.Memory = is_full old ≡ false
RefusesStep machine.Tick old fault.Memory = 0 < length old.outstanding
RefusesStep (machine.Take session message) old fault.NotOpen = is_open old session ≡ false
RefusesStep (machine.Close session cause) old fault.NotOpen = is_open old session ≡ false
RefusesStep event old fault = ⊥

-- the event was entered, or it was refused and nothing is changed
abbrev pub StepIs : {K D : Type 0} → (D → Uuid → D → Type 0) → ℕ → machine.Event → CoreState K D → Stepped
    → CoreState K D → Type 0
StepIs draws at event old (answer.Refused fault) new = (new ≡ old) × RefusesStep event old.state fault
StepIs draws at event old (answer.Opened session) new = IsEntered draws at event old (answer.Opened session) new
StepIs draws at event old answer.Done new = IsEntered draws at event old answer.Done new
StepIs draws at event old answer.Closed new = IsEntered draws at event old answer.Closed new

-- the entry of a closing at a moment
abbrev pub closing : ℕ → ℕ → machine.Cause → machine.Entry
closing at session cause =
    record { event = machine.Close session cause; choice = record { moment = at; draws = []; outcomes = [] } }

-- The session was closed, nothing was drawn or tried, and the store was not asked. Its queue is dropped if no frame waits in
-- it.
pub record Closes {K D : Type 0} (at session : ℕ) (cause : machine.Cause) (old new : CoreState K D) : Type 0 where
  pub moves : EntersEntry old (closing at session cause) new
  pub shut : is_open new.state session ≡ false
  pub keys : new.open_sessions ≡ still_open new.state old.open_sessions
  pub drawn : new.source ≡ old.source
  pub asks : HasSameKeeper (keeper_of old) (keeper_of new)
  pub tries : new.tries ≡ old.tries
  pub forgotten : waiting_for session old.outbox ≡ [] → has_queue session new.outbox ≡ false
