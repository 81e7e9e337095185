-- Which histories a core has followed, and which of their frames were handed out.
use Rattle.std.specs.Prelude.{◌≡◌, ℕ, ◌+◌, ◌≤◌, ◌==◌, ◌++◌, List, [], ◌∷◌, if◌then◌else◌, Option, Some, option_to_list}
use Rattle.ov_specs.specs.machine.Machine as machine
use Rattle.ov_specs.specs.machine.Machine.{State, Sent, opening}
use Rattle.ov_specs.specs.machine.History.{run, frames_to}
use Rattle.ov_specs.specs.rows.Database.{Database}
use Rattle.ov_specs.specs.schema.SchemaTypes.{Schema}
use Rattle.ov_history.specs.declared.event.Entry.{Entry}
use Rattle.ov_sessions.specs.declared.session.Session.{Session}
use Rattle.ov_history.specs.History.{Keeps, KeepsNewest}
use Rattle.ov_outbox.specs.Frames.{WaitingFrames, waiting_for, PostsSent}
use Rattle.ov_live.specs.Asking.{KeeperState, IsSealedForCause}
use Rattle.ov_live.specs.Counting.{CountsAll, most_in}

-- what contracts see of a core: its state, the open sessions with their keys in order of opening, the entries that it keeps,
-- the waiting frames, its keeper, how often the keeper's device has failed, its source of draws, and how many attempts of
-- transactions it has made
pub record CoreState (K D : Type 0) : Type 0 where
  pub state : State
  pub open_sessions : List Session
  pub kept : List Entry
  pub outbox : WaitingFrames
  pub keeper : K
  pub failures : ℕ
  pub source : D
  pub tries : ℕ

-- its keeper, with the failures and the seal
abbrev pub keeper_of : {K D : Type 0} → CoreState K D → KeeperState K
keeper_of core = record { keeper = core.keeper; failures = core.failures; sealed = core.state.sealed }

-- a core, and the clock that gives it its moments
pub record Timed (K D C : Type 0) : Type 0 where
  pub core : CoreState K D
  pub clock : C

-- the record of a core and its clock
abbrev pub with_clock : {K D C : Type 0} → CoreState K D → C → Timed K D C
with_clock core clock = record { core = core; clock = clock }

-- The history leads from the state before it to the core's state, and ends with the entries that are kept. Of the frames that
-- it sends to each session, `given` were handed out and the others wait.
pub record Follows {K D : Type 0} (before : State) (history : List machine.Entry) (given : ℕ → List (List ℕ))
    (core : CoreState K D) : Type 0 where
  pub sent : List Sent
  pub legal : run before history ≡ Some (record { state = core.state; sent = sent })
  pub kept : Keeps core.kept history
  pub issued : (session : ℕ) → frames_to session sent ≡ given session ++ waiting_for session core.outbox

-- While these entries were entered, each attempt was counted, and there were at most `most_in` of them. The count of failures
-- never falls, and if the database became sealed, there is a cause: the device has failed.
pub record CountsWork {K D : Type 0} (old : CoreState K D) (entries : List machine.Entry) (new : CoreState K D) : Type 0 where
  pub tries : CountsAll old.state entries old.tries new.state new.tries
  pub few : new.tries ≤ old.tries + most_in old.state entries
  pub failures : old.failures ≤ new.failures
  pub seal : IsSealedForCause (keeper_of old) (keeper_of new)

-- If the core has followed a history and frames, it follows that history with these entries appended, and no frame is handed
-- out. The newest of the entries kept before and of these are kept, and the work on these is counted.
pub record Extends {K D : Type 0} (old : CoreState K D) (entries : List machine.Entry) (new : CoreState K D) : Type 0 where
  pub follows : (before : State) (history : List machine.Entry) (given : ℕ → List (List ℕ))
      → Follows before history given old → Follows before (history ++ entries) given new
  pub keeps : KeepsNewest old.kept entries new.kept
  pub counts : CountsWork old entries new

-- no frame was handed out for any session
abbrev pub none_given : ℕ → List (List ℕ)
none_given session = []

-- the core has no history: it is as it was opened over some database
abbrev pub HasNoHistory : {K D : Type 0} → CoreState K D → Type 0
HasNoHistory core = (schema : Schema) × (database : Database) × Follows (opening schema database) [] none_given core

-- the frames were handed out for the session, after the others
abbrev pub and_all_handed : (ℕ → List (List ℕ)) → ℕ → List (List ℕ) → ℕ → List (List ℕ)
and_all_handed given session frames other = given other ++ (if other == session then frames else [])

-- the frame, if there is one, was handed out for the session, after the others
abbrev pub and_handed : (ℕ → List (List ℕ)) → ℕ → Option (List ℕ) → ℕ → List (List ℕ)
and_handed given session frame = and_all_handed given session (option_to_list frame)

-- One entry was entered: it is a step of the machine, what it sends waits after the frames that waited, and the core follows
-- it.
pub record EntersEntry {K D : Type 0} (old : CoreState K D) (entry : machine.Entry) (new : CoreState K D) : Type 0 where
  pub sent : List Sent
  pub stepped : machine.step old.state entry ≡ Some (record { state = new.state; sent = sent })
  pub waits : PostsSent sent old.outbox new.outbox
  pub follows : Extends old (entry ∷ []) new
