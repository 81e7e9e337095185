-- What a desk has made of a core since it began.
use Rattle.std.specs.Prelude.{◌≡◌, ◌≢◌, ℕ, List, [], ◌++◌, Some, None}
use Rattle.ov_specs.specs.machine.Machine as machine
use Rattle.ov_specs.specs.machine.Machine.{State, Sent, is_open}
use Rattle.ov_specs.specs.machine.History.{run, frames_to, requests, closed_by}
use Rattle.ov_outbox.specs.Frames.{waiting_for}
use Rattle.ov_core.specs.Following.{CoreState, Follows, CountsWork, and_all_handed}
use Rattle.ov_history.specs.History.{KeepsNewest, HasHistory}
use Rattle.ov_lanes.specs.Courses.{Course, Spares, shut_by}
use Rattle.ov_lanes.specs.Moments.{AreTimed}

-- these frames were handed out of the session, and nothing else was done
pub record HandsOut {K D : Type 0} (n : ℕ) (frames : List (List ℕ)) (old new : CoreState K D) : Type 0 where
  pub follows : (before : State) (history : List machine.Entry) (given : ℕ → List (List ℕ)) → Follows before history given old → Follows before history (and_all_handed given n frames) new
  pub waiting : waiting_for n old.outbox ≡ frames ++ waiting_for n new.outbox
  pub others : (other : ℕ) → other ≢ n → waiting_for other new.outbox ≡ waiting_for other old.outbox
  pub same : new ≡ record old { outbox = new.outbox }

-- these frames were given, and then those
abbrev pub and_then_handed : (ℕ → List (List ℕ)) → (ℕ → List (List ℕ)) → ℕ → List (List ℕ)
and_then_handed given handed session = given session ++ handed session

-- What was done since the core was `first`: whatever history and frames it had followed then, it now follows the history
-- with these entries appended, and these frames were handed out on the way. The core keeps the newest of the entries it had
-- kept and these, and it has counted the work on these.
pub record Since {K D : Type 0} (first core : CoreState K D) : Type 0 where
  pub entries : List machine.Entry
  pub sent : List Sent
  pub handed : ℕ → List (List ℕ)
  pub known : HasHistory first.state first.kept
  pub follows : (before : State) (history : List machine.Entry) (given : ℕ → List (List ℕ)) → Follows before history given first
      → Follows before (history ++ entries) (and_then_handed given handed) core
  pub keeps : KeepsNewest first.kept entries core.kept
  pub counts : CountsWork first entries core
  pub legal : run first.state entries ≡ Some (record { state = core.state; sent = sent })
  pub frames : (session : ℕ) → waiting_for session first.outbox ++ frames_to session sent ≡ handed session ++ waiting_for session core.outbox

-- the course of a session
abbrev pub course_of : {K D : Type 0} {first core : CoreState K D} → Since first core → ℕ → Course
course_of {first = first} {core = core} since session = record {
  is_open = is_open core.state session;
  closed = closed_by first.state since.entries session;
  shut = shut_by since.entries session;
  asks = requests since.entries session;
  handed = since.handed session;
  waiting = waiting_for session core.outbox;
}

-- the course of a session before anything is done for it
abbrev pub course_before : {K D : Type 0} → CoreState K D → ℕ → Course
course_before core session = record {
  is_open = is_open core.state session;
  closed = None;
  shut = [];
  asks = [];
  handed = [];
  waiting = waiting_for session core.outbox;
}

-- More was done with this moment reported, and no session but `n` was served.
pub record Goes {K D : Type 0} {first old : CoreState K D} (at n : ℕ) (since : Since first old) (new : CoreState K D) : Type 0 where
  pub after : Since first new
  pub more : List machine.Entry
  pub adds : after.entries ≡ since.entries ++ more
  pub timed : AreTimed at old.state more new.state
  pub counts : CountsWork old more new
  pub beside : (other : ℕ) → other ≢ n → Spares (course_of since other) (course_of after other)
