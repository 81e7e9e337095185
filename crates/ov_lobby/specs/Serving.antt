-- What serving the clients of a listener makes of a machine, and when it is refused.
use Rattle.std.specs.Prelude.{◌≡◌, ◌⊎◌, ℕ, ◌+◌, ◌<◌, List, length, false, Option, Result, IfOk, IfErr, OnErr}
use Rattle.ov_specs.specs.machine.Machine.{is_open}
use Rattle.ov_core.specs.Following.{Timed, with_clock}
use Rattle.ov_lanes.specs.Courses.{Spares}
use Rattle.ov_lanes.specs.Since.{Since, course_of, course_before}
use Rattle.ov_lanes.specs.declared.desk.Desk.{Desk}
use Rattle.ov_lanes.specs.declared.fault.ServeFault.TheVariants.{Memory, Threads}
use Rattle.ov_workers.specs.Accepting.{GivesAll}
use Rattle.ov_workers.specs.declared.link.Link.{Link}
use Rattle.ov_workers.specs.LinkStates.{LinkState}
use Rattle.ov_hall.specs.Guests.{IsGuest}
use Rattle.ov_hall.specs.Lists.{AreAmong, EachFrom}
use Rattle.ov_hall.specs.Serving.{ToServe}
use Rattle.ov_hall.specs.Time.{TakesTime}
use Rattle.ov_lobby.specs.declared.fault.RefusedLobby.{RefusedLobby}

-- The core follows a history that continues the one it had followed, by this clock. Every session that is open was open
-- before, and sessions from before are not served.
pub record ServesLobby {K D C : Type 0} (tells : C → ℕ → C → Type 0) (old new : Timed K D C) : Type 0 where
  pub since : Since old.core new.core
  pub closed : (n : ℕ) → is_open old.core.state n ≡ false → is_open new.core.state n ≡ false
  pub earlier : (n : ℕ) → n < old.core.state.next → Spares (course_before old.core n) (course_of since n)
  pub time : TakesTime tells old since.entries new

-- The lobby served its guests. The listener gave links, one after another, over which nothing had gone, until it had no more.
-- Some of them got a session each, in their order, with the next serials, and were served to their ends. No other session was
-- opened.
pub record ServesGuests {K D S W C T : Type 0} (ends : S → W → LinkState) (tells : C → ℕ → C → Type 0) (gives : T → Option (Link S W) → T → Type 0) (listener : T) (old new : Timed K D C) : Type 0 where
  pub lobby : ServesLobby tells old new
  pub links : List (Link S W)
  pub last : T
  pub gave : GivesAll ends gives listener links last
  pub guests : List (Link S W)
  pub among : AreAmong guests links
  pub many : new.core.state.next ≡ old.core.state.next + length guests
  pub each : EachFrom (λ n link. IsGuest ends lobby.since n link) old.core.state.next guests

-- The listener was served until it gave no more, and each session that was opened was a guest. Or it was refused, because an
-- allocation failed or a thread could not be started: then the machine and the listener come back as they were, and the clock
-- reported nothing. A keeper that is honest now was honest before.
pub record AnswersLobby {K D S W C T : Type 0} (ends : S → W → LinkState) (tells : C → ℕ → C → Type 0) (gives : T → Option (Link S W) → T → Type 0) (is_honest : K → Type 0) (old : ToServe K D C T) (answer : Result (Desk K D) (RefusedLobby K D T)) (clock : C) : Type 0 where
  pub guests : IfOk answer (λ desk. ServesGuests ends tells gives old.what old.start (with_clock desk.core clock))
  pub refused : IfErr answer (λ r. (r.desk.core ≡ old.start.core) × (r.listener ≡ old.what))
  pub fault : IfErr answer (λ r. (r.fault ≡ Memory) ⊎ (r.fault ≡ Threads))
  pub untouched : OnErr answer (clock ≡ old.start.clock)
  pub honest : IfOk answer (λ desk. is_honest desk.core.keeper → is_honest old.start.core.keeper)
