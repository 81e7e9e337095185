-- What becomes of a link that is to be served.
use Rattle.std.specs.Prelude.{◌≡◌, ◌≢◌, ℕ, ◌+◌, ◌<◌, length, slice_index_or, slice_set, Some, None, true}
use Rattle.ov_specs.specs.machine.Machine.{Open, is_open}
use Rattle.ov_sessions.specs.Sessions.{serial_left}
use Rattle.ov_core.specs.Stepping.{RefusesStep}
use Rattle.ov_lanes.specs.Lanes.{AreTaken}
use Rattle.ov_lanes.specs.declared.desk.Desk.{Desk}
use Rattle.ov_lanes.specs.declared.lane.Lane.{Lane}
use Rattle.ov_workers.specs.declared.link.Link.{Link}
use Rattle.ov_threads.specs.declared.workers.Workers.{Workers}
use Rattle.ov_lanes.specs.declared.fault.ServeFault.TheVariants.{TooMany}
use Rattle.ov_hall.specs.declared.admit.Admitted.{Admitted}
use Rattle.ov_hall.specs.declared.admit.Admitted.TheVariants as answer
use Rattle.ov_hall.specs.declared.admit.AdmitFault.{AdmitFault}
use Rattle.ov_hall.specs.declared.admit.AdmitFault.TheVariants as fault
use Rattle.ov_hall.specs.Seats.{HaveLink, Seating}

-- A place that was free has the lane of the session of this serial now, and its workers were handed the link.
pub record TakesFreePlace {K D S W L : Type 0} (serial : ℕ) (link : Link S W) (old new : Seating K D S W L) : Type 0 where
  pub at : ℕ
  pub lane : Lane
  pub works : Workers S W L
  pub within : (at < length old.desk.lanes.items) × (at < length old.workers)
  pub free : slice_index_or old.desk.lanes.items at None ≡ None
  pub lanes : new.desk.lanes.items ≡ slice_set old.desk.lanes.items at (Some lane)
  pub workers : new.workers ≡ slice_set old.workers at (Some works)
  pub session : lane.session.serial ≡ serial
  pub handed : HaveLink link works

-- One session was opened, with the next serial, and has a place that was free, for this link.
pub record OpensOne {K D S W L : Type 0} (link : Link S W) (old new : Seating K D S W L) : Type 0 where
  pub opened : is_open new.desk.core.state old.desk.core.state.next ≡ true
  pub next : new.desk.core.state.next ≡ old.desk.core.state.next + 1
  pub place : TakesFreePlace old.desk.core.state.next link old new

-- nothing is changed
abbrev pub IsSameSeating : {K D S W L : Type 0} → Seating K D S W L → Seating K D S W L → Type 0
IsSameSeating old new = (new.desk.core ≡ old.desk.core) × (new.desk.lanes.items ≡ old.desk.lanes.items) × (new.workers ≡ old.workers)

-- When a link for which there is a free place is refused. If an allocation fails or a thread can't be started, there is no
-- cause that a contract could name.
abbrev pub RefusesLink : {K D : Type 0} → ℕ → ℕ → Desk K D → AdmitFault → Type 0
RefusesLink bells parts old fault.Bell = bells < length old.lanes.items
RefusesLink bells parts old fault.Part = parts ≡ 0
RefusesLink bells parts old fault.Serial = serial_left old.core.state.next ≡ None
RefusesLink bells parts old (fault.Workers why) = why ≢ TooMany
RefusesLink bells parts old (fault.Machine why) = RefusesStep Open old.core.state why

-- The answer to a link, by the number of bells and of parts left, and the places before and after.
abbrev pub Admits : {K D S W L : Type 0} → ℕ → ℕ → Link S W → Seating K D S W L → Admitted → Seating K D S W L → Type 0
Admits bells parts link old answer.Opened new = OpensOne link old new
Admits bells parts link old answer.Full new = AreTaken old.desk.lanes.items × IsSameSeating old new
Admits bells parts link old (answer.Refused why) new = RefusesLink bells parts old.desk why × IsSameSeating old new
