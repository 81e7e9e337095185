-- What serving links makes of a machine, and when it is refused.
use Rattle.std.specs.Prelude.{◌≡◌, ℕ, ◌+◌, ◌<◌, List, [], ◌∷◌, length, true, false, Result, IfOk, IfErr, OnErr}
use Rattle.ov_specs.specs.machine.Machine.{is_open}
use Rattle.ov_core.specs.Following.{CoreState, Timed, with_clock}
use Rattle.ov_lanes.specs.Courses.{Spares}
use Rattle.ov_lanes.specs.Since.{Since, course_of, course_before}
use Rattle.ov_lanes.specs.Places.{has_places}
use Rattle.ov_lanes.specs.Opening.{ClosesAgain}
use Rattle.ov_lanes.specs.declared.fault.ServeFault.{ServeFault}
use Rattle.ov_lanes.specs.declared.fault.ServeFault.TheVariants as fault
use Rattle.ov_workers.specs.declared.link.Link.{Link}
use Rattle.ov_workers.specs.LinkStates.{LinkState}
use Rattle.ov_hall.specs.declared.finish.End.{End}
use Rattle.ov_hall.specs.Ending.{LinkEnds}
use Rattle.ov_hall.specs.Serving.{ToServe}
use Rattle.ov_hall.specs.Time.{TakesTime}
use Rattle.ov_desk.specs.declared.link.Served.{Served}
use Rattle.ov_desk.specs.declared.link.Unserved.{Unserved}

-- Each link was served to its end, in order, with consecutive serials; this is the first.
abbrev pub AllEnd : {K D S W : Type 0} {first core : CoreState K D} → (S → W → LinkState) → Since first core → ℕ → List (Link S W) → List (End S W) → Type 0
AllEnd ends since serial [] [] = Unit {0}
AllEnd ends since serial [] (e ∷ remains) = ⊥
AllEnd ends since serial (k ∷ links) [] = ⊥
AllEnd ends since serial (k ∷ links) (e ∷ remains) =
    (e.serial ≡ serial) × LinkEnds since serial e.cause (ends k.reader k.writer) (ends e.reader e.writer)
    × AllEnd ends since (serial + 1) links remains

-- The links were served by this clock, and this is what the core made of it. As many sessions were opened as there are links.
-- Every session that is open was open before, and sessions from before are not served.
pub record ServesAll {K D S W C : Type 0} (ends : S → W → LinkState) (tells : C → ℕ → C → Type 0) (old new : Timed K D C) (links : List (Link S W)) (remains : List (End S W)) : Type 0 where
  pub since : Since old.core new.core
  pub next : new.core.state.next ≡ old.core.state.next + length links
  pub all : AllEnd ends since old.core.state.next links remains
  pub closed : (n : ℕ) → is_open old.core.state n ≡ false → is_open new.core.state n ≡ false
  pub earlier : (n : ℕ) → n < old.core.state.next → Spares (course_before old.core n) (course_of since n)
  pub time : TakesTime tells old since.entries new

-- When serving this many links is refused, and what that leaves of the core. If an allocation failed, the sessions may have
-- been opened: then they were closed again.
abbrev pub RefusesLinks : {K D : Type 0} → ℕ → CoreState K D → ServeFault → CoreState K D → Type 0
RefusesLinks count old fault.TooMany new = (has_places count old.state ≡ false) × (new ≡ old)
RefusesLinks count old fault.Threads new = (has_places count old.state ≡ true) × (new ≡ old)
RefusesLinks count old fault.Memory new = (has_places count old.state ≡ true) × ClosesAgain old new

-- The links were served, each to its end. Or they were refused: then they come back as they were, and the clock reported
-- nothing. A keeper that is honest now was honest before.
pub record AnswersLinks {K D S W C : Type 0} (ends : S → W → LinkState) (tells : C → ℕ → C → Type 0) (is_honest : K → Type 0) (old : ToServe K D C (List (Link S W))) (answer : Result (Served K D S W) (Unserved K D S W)) (clock : C) : Type 0 where
  pub served : IfOk answer (λ s. ServesAll ends tells old.start (with_clock s.desk.core clock) old.what s.ends.items)
  pub refused : IfErr answer (λ r. RefusesLinks (length old.what) old.start.core r.fault r.desk.core × (r.links.items ≡ old.what))
  pub untouched : OnErr answer (clock ≡ old.start.clock)
  pub honest : IfOk answer (λ s. is_honest s.desk.core.keeper → is_honest old.start.core.keeper)
  pub honest_refused : IfErr answer (λ r. is_honest r.desk.core.keeper → is_honest old.start.core.keeper)
