-- What opening sessions makes of a core, for their lanes.
use Rattle.std.specs.Prelude.{◌≡◌, ◌⊎◌, ℕ, ◌+◌, ◌<◌, ◌≤◌, List, [], ◌∷◌, Bool, Some, None, true, false}
use Rattle.ov_specs.specs.machine.Machine as machine
use Rattle.ov_specs.specs.machine.Machine.{is_open}
use Rattle.ov_specs.specs.machine.History.{requests}
use Rattle.ov_outbox.specs.Frames.{waiting_for}
use Rattle.ov_core.specs.Following.{CoreState}
use Rattle.ov_core.specs.Stepping.{Closes}
use Rattle.ov_lanes.specs.Courses.{Course, Spares}
use Rattle.ov_lanes.specs.Since.{Since, HandsOut, course_of, course_before}
use Rattle.ov_lanes.specs.Moments.{AreTimed}
use Rattle.ov_sessions.specs.declared.session.Session.{Session}

-- the session was opened, and nothing else was done to it
abbrev pub IsUntouched : Course → Type 0
IsUntouched c = (c.closed ≡ None) × (c.asks ≡ []) × (c.handed ≡ []) × (c.shut ≡ [])

-- It is open if and only if it was before, it was not closed, and nothing was handed out of it.
abbrev pub IsLeftAlone : Bool → Course → Type 0
IsLeftAlone was_open c = (c.is_open ≡ was_open) × (c.closed ≡ None) × (c.handed ≡ [])

-- the sessions have consecutive serials in order; this is the first
abbrev pub AreSessions : ℕ → List Session → Type 0
AreSessions serial [] = Unit {0}
AreSessions serial (session ∷ sessions) = (session.serial ≡ serial) × AreSessions (serial + 1) sessions

-- Since the core was `start`, this many sessions were opened and nothing else was done. They are open, and have consecutive
-- serials; this is the first.
pub record OpensAll {K D : Type 0} (start : CoreState K D) (base count : ℕ) (core : CoreState K D) : Type 0 where
  pub since : Since start core
  pub timed : (reported : ℕ) → AreTimed reported start.state since.entries core.state
  pub untouched : (n : ℕ) → IsUntouched (course_of since n)
  pub next : core.state.next ≡ base + count
  pub others : (n : ℕ) → n < base → is_open core.state n ≡ is_open start.state n
  pub earlier : (n : ℕ) → n < base → Spares (course_before start n) (course_of since n)
  pub there : (n : ℕ) → base ≤ n → n < base + count → is_open core.state n ≡ true

-- The session was closed as out of memory, and what waited for it was dropped; or it was not open, and nothing was done.
abbrev pub DropsSession : {K D : Type 0} → ℕ → CoreState K D → CoreState K D → Type 0
DropsSession {K} {D} n old new =
    ((mid : CoreState K D) × Closes old.state.moment n machine.Memory old mid × HandsOut n (waiting_for n mid.outbox) mid new)
    ⊎ ((new ≡ old) × (is_open old.state n ≡ false))

-- it was closed as out of memory
abbrev pub IsGivenUp : Course → Type 0
IsGivenUp c = (c.is_open ≡ false) × (c.closed ≡ Some machine.Memory)

-- it is open, or it was closed so
abbrev pub IsIdle : Course → Type 0
IsIdle c = ((c.is_open ≡ true) × (c.closed ≡ None)) ⊎ IsGivenUp c

-- Since the core was `start`, `total` sessions were opened, no message was taken from any session, and no time passed. All but
-- the first `left` were closed again. Earlier sessions were left alone.
pub record ClosesDown {K D : Type 0} (start : CoreState K D) (base total left : ℕ) (core : CoreState K D) : Type 0 where
  pub since : Since start core
  pub timed : AreTimed 0 start.state since.entries core.state
  pub next : core.state.next ≡ base + total
  pub untaken : (n : ℕ) → requests since.entries n ≡ []
  pub idle : (n : ℕ) → base ≤ n → n < base + left → IsIdle (course_of since n)
  pub given_up : (n : ℕ) → base + left ≤ n → n < base + total → IsGivenUp (course_of since n)
  pub others : (n : ℕ) → n < base → IsLeftAlone (is_open start.state n) (course_of since n)

-- More was done, with no moment reported: no message was taken from any session, each session that was opened was closed again,
-- as out of memory, and earlier sessions were left alone.
pub record ClosesAgain {K D : Type 0} (old new : CoreState K D) : Type 0 where
  pub since : Since old new
  pub timed : AreTimed 0 old.state since.entries new.state
  pub untaken : (n : ℕ) → requests since.entries n ≡ []
  pub given_up : (n : ℕ) → old.state.next ≤ n → n < new.state.next → IsGivenUp (course_of since n)
  pub others : (n : ℕ) → n < old.state.next → IsLeftAlone (is_open old.state n) (course_of since n)
