-- What a history says of a session that was served to its end.
use Rattle.std.specs.Prelude.{◌≡◌, ℕ, ◌++◌, List, [], true, Some}
use Rattle.ov_specs.specs.machine.Machine as machine
use Rattle.ov_specs.specs.machine.Machine.{State, opening}
use Rattle.ov_specs.specs.machine.History.{run, requests, frames_to, closed_by}
use Rattle.ov_specs.specs.schema.SchemaTypes.{Schema}
use Rattle.ov_specs.specs.rows.Database.{Database}
use Rattle.ov_history.specs.declared.event.Cause.{Cause}
use Rattle.ov_history.specs.Entries.{cause_view, is_written}
use Rattle.ov_core.specs.Following.{CoreState, Follows}
use Rattle.ov_lanes.specs.Courses.{Course}
use Rattle.ov_lanes.specs.Since.{Since}
use Rattle.ov_workers.specs.LinkStates.{LinkState}
use Rattle.ov_hall.specs.Outcome.{Finish, LinkOutcome, account_of}

-- The history is legal from `start` on, and it closes the session for this cause, once, since a serial is never used again.
-- The messages that it has of the session are what its stream asks for, and what was written is what it sends the session.
pub record EndsAs (start : State) (history : List machine.Entry) (n : ℕ) (finish : Finish) (old new : LinkState) : Type 0 where
  pub reached : machine.Stepped
  pub legal : run start history ≡ Some reached
  pub comes_to : LinkOutcome (record { closed = closed_by start history n; messages = requests history n; sent = frames_to n reached.sent }) finish old new

-- whatever history the core had followed from its opening, this is what it says of the session with the entries appended
abbrev pub EndsAfter : {K D : Type 0} {first core : CoreState K D} → Since first core → ℕ → Finish → LinkState → LinkState → Type 0
EndsAfter {first = first} since n finish old new =
    (schema : Schema) (database : Database) (history : List machine.Entry) (given : ℕ → List (List ℕ)) → Follows (opening schema database) history given first
    → EndsAs (opening schema database) (history ++ since.entries) n finish old new

-- how a session ended that was closed for `why`, by the cause that is reported
abbrev pub finish_for : machine.Cause → Cause → Finish
finish_for why told = record { why = why; is_whole = is_written told }

-- The session ended for the cause that is reported: that of its closing, or a write failed.
pub record CourseEnds (c : Course) (told : Cause) (old new : LinkState) : Type 0 where
  pub why : machine.Cause
  pub told_for : is_written told ≡ true → cause_view told ≡ why
  pub comes_to : LinkOutcome (account_of c) (finish_for why told) old new
  pub none_left : c.waiting ≡ []

-- so it is in each history
pub record LinkEnds {K D : Type 0} {first core : CoreState K D} (since : Since first core) (n : ℕ) (told : Cause) (old new : LinkState) : Type 0 where
  pub why : machine.Cause
  pub told_for : is_written told ≡ true → cause_view told ≡ why
  pub ends : EndsAfter since n (finish_for why told) old new
