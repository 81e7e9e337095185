-- The lanes of a desk, each at a place of its own, and what became of their sessions.
use Rattle.std.specs.Prelude.{◌≡◌, ◌≢◌, ◌⊎◌, ℕ, ◌+◌, ◌<◌, ◌≤◌, List, [], ◌∷◌, ◌++◌, length, slice_index_or, if◌then◌else◌, Bool, true, false, Option, Some, None}
use Rattle.rtrb.specs.Ring.{sent, received, SameProducer, SameConsumer}
use Rattle.ov_specs.specs.machine.Machine as machine
use Rattle.ov_specs.specs.machine.Machine.{is_open}
use Rattle.ov_specs.specs.wire.Message.{Message}
use Rattle.ov_outbox.specs.Frames.{waiting_for}
use Rattle.ov_order.specs.declared.items.Brought.{Brought}
use Rattle.ov_workers.specs.declared.cause.ReadCause.{ReadCause}
use Rattle.ov_core.specs.Following.{CoreState, CountsWork}
use Rattle.ov_lanes.specs.Courses.{Course, Spares}
use Rattle.ov_lanes.specs.Entering.{EntersOverruns, EntersTurn}
use Rattle.ov_lanes.specs.Moments.{AreTimed}
use Rattle.ov_lanes.specs.Since.{Since, course_of, course_before, Goes}
use Rattle.ov_lanes.specs.Fitting.{Items, FitsCourse, IsFlushed}
use Rattle.ov_lanes.specs.declared.desk.Desk.{Desk}
use Rattle.ov_lanes.specs.declared.lane.Lane.{Lane}

-- ---- one lane

-- what a lane has taken and put fits this course
abbrev pub FitsLane : Course → Lane → Type 0
FitsLane c l = FitsCourse c l.cause (received l.inbound) (sent l.outbound) l.marked l.ended

-- what a lane has put fits the course of its session, with these items taken
abbrev pub LaneFitsWith : {K D : Type 0} {first core : CoreState K D} → Since first core → Items → Lane → Type 0
LaneFitsWith since items l = FitsCourse (course_of since l.session.serial) l.cause items (sent l.outbound) l.marked l.ended

-- what a lane has taken and put fits the course of its session
abbrev pub LaneFits : {K D : Type 0} {first core : CoreState K D} → Since first core → Lane → Type 0
LaneFits since l = LaneFitsWith since (received l.inbound) l

-- The lane was moved on, with this moment reported, and no other session was served. What the lane has taken and put fits the
-- course of its session.
pub record Moves {K D : Type 0} {first old : CoreState K D} (at : ℕ) (since : Since first old) (l : Lane) (new : CoreState K D) (l' : Lane) : Type 0 where
  pub goes : Goes at l.session.serial since new
  pub fits : LaneFits goes.after l'

-- the same with these items taken, and nothing more can be moved
pub record Flushes {K D : Type 0} {first old : CoreState K D} (at : ℕ) (since : Since first old) (items : Items) (l : Lane) (new : CoreState K D) (l' : Lane) : Type 0 where
  pub goes : Goes at l.session.serial since new
  pub fits : LaneFitsWith goes.after items l'
  pub flushed : IsFlushed (course_of goes.after l.session.serial) l'.marked

-- the lane has the same rings and the same session
abbrev pub SameLane : Lane → Lane → Type 0
SameLane a b = SameProducer a.outbound b.outbound × SameConsumer a.inbound b.inbound × (b.session ≡ a.session)

-- nothing was taken from the lane or put into it, and its session is the same
abbrev pub LooksAt : Lane → Lane → Type 0
LooksAt a b =
    (received b.inbound ≡ received a.inbound) × (sent b.outbound ≡ sent a.outbound) × (b.session ≡ a.session)
    × (b.cause ≡ a.cause) × (b.ended ≡ a.ended) × (b.marked ≡ a.marked)

-- the lane of a session that was opened: nothing was taken from it and nothing was put for it
pub record IsNewLane (serial : ℕ) (lane : Lane) : Type 0 where
  pub session : lane.session.serial ≡ serial
  pub cause : lane.cause ≡ None
  pub taken : received lane.inbound ≡ []
  pub puts : sent lane.outbound ≡ []
  pub is_marked : lane.marked ≡ false
  pub is_ended : lane.ended ≡ false

-- ---- all places

-- a session is served there, and has this lane
abbrev pub IsAt : List (Option Lane) → ℕ → Lane → Type 0
IsAt places at lane = slice_index_or places at None ≡ Some lane

-- the relation holds of the lanes at a place before and after; a free place stays free
abbrev pub StaysAs : (Lane → Lane → Type 0) → Option Lane → Option Lane → Type 0
StaysAs holds None p = p ≡ None
StaysAs holds (Some l) None = ⊥
StaysAs holds (Some l) (Some m) = holds l m

-- and so at each place
pub record StayAs (holds : Lane → Lane → Type 0) (ls ms : List (Option Lane)) : Type 0 where
  pub many : length ms ≡ length ls
  pub each : (at : ℕ) → StaysAs holds (slice_index_or ls at None) (slice_index_or ms at None)

-- at each place is the lane of a session that was opened, and their serials count up from this one
abbrev pub AreNewLanes : ℕ → List (Option Lane) → Type 0
AreNewLanes serial [] = Unit {0}
AreNewLanes serial (p ∷ places) = ((lane : Lane) × (p ≡ Some lane) × IsNewLane serial lane) × AreNewLanes (serial + 1) places

-- the session of this serial is served at one of the places
abbrev pub IsServed : List (Option Lane) → ℕ → Type 0
IsServed places n = (at : ℕ) × (l : Lane) × IsAt places at l × (l.session.serial ≡ n)

-- no session is served
abbrev pub AreFree : List (Option Lane) → Type 0
AreFree places = (at : ℕ) → slice_index_or places at None ≡ None

-- a session is served at each place
abbrev pub AreTaken : List (Option Lane) → Type 0
AreTaken places = (at : ℕ) → at < length places → (lane : Lane) × IsAt places at lane

-- of each session that is served the reader's end was taken and the end mark was put
abbrev pub AreOver : List (Option Lane) → Type 0
AreOver places = (at : ℕ) (l : Lane) → IsAt places at l → (l.ended ≡ true) × (l.marked ≡ true)

-- nothing more can be moved for the session of a lane: its end mark was put, or it is open and nothing waits for it
abbrev pub IsFlushedLane : {K D : Type 0} → CoreState K D → Lane → Type 0
IsFlushedLane core l = (l.marked ≡ true) ⊎ ((is_open core.state l.session.serial ≡ true) × (waiting_for l.session.serial core.outbox ≡ []))

-- so it is of each session that is served
abbrev pub AreFlushed : {K D : Type 0} → Desk K D → Type 0
AreFlushed desk = (at : ℕ) (l : Lane) → IsAt desk.lanes.items at l → IsFlushedLane desk.core l

-- a session that is not open and was not closed was handed nothing
abbrev pub IsUntold : Course → Type 0
IsUntold c = c.is_open ≡ false → c.closed ≡ None → c.handed ≡ []

-- What was done since the core was `start`. Each session that was opened since and is open has a place, each has at most one,
-- and what its lane has taken and put fits the course of the session. Sessions from before are not served.
pub record Serves {K D : Type 0} (start core : CoreState K D) (places : List (Option Lane)) : Type 0 where
  pub since : Since start core
  pub fits : (at : ℕ) (l : Lane) → IsAt places at l → LaneFits since l
  pub apart : (at other : ℕ) (l m : Lane) → IsAt places at l → IsAt places other m → l.session.serial ≡ m.session.serial → at ≡ other
  pub later : (at : ℕ) (l : Lane) → IsAt places at l → start.state.next ≤ l.session.serial
  pub have_places : (n : ℕ) → is_open core.state n ≡ true → (is_open start.state n ≡ true) ⊎ ((at : ℕ) × (l : Lane) × IsAt places at l × (l.session.serial ≡ n))
  pub untold : (n : ℕ) → IsUntold (course_of since n)
  pub earlier : (n : ℕ) → n < start.state.next → Spares (course_before start n) (course_of since n)

-- what holds after further steps, with the moment `at` reported; the core has counted the work on these
pub record ServesOn {K D : Type 0} {start core : CoreState K D} {places : List (Option Lane)} (at : ℕ) (serves : Serves start core places) (core' : CoreState K D) (places' : List (Option Lane)) : Type 0 where
  pub after : Serves start core' places'
  pub more : List machine.Entry
  pub adds : after.since.entries ≡ serves.since.entries ++ more
  pub timed : AreTimed at core.state more core'.state
  pub counts : CountsWork core more core'

-- Whatever was done since a core was `start`, the places fit it as before.
abbrev pub PlacesGoOn : {K D : Type 0} → ℕ → CoreState K D → List (Option Lane) → CoreState K D → List (Option Lane) → Type 0
PlacesGoOn {K} {D} at core places core' places' = (start : CoreState K D) (serves : Serves start core places) → ServesOn at serves core' places'

-- so it is of a desk
abbrev pub DeskGoesOn : {K D : Type 0} → ℕ → Desk K D → Desk K D → Type 0
DeskGoesOn at old new = PlacesGoOn at old.core old.lanes.items new.core new.lanes.items

-- No session was opened, and a keeper that is honest now was honest before.
pub record IsSteady {K D : Type 0} (is_honest : K → Type 0) (old new : CoreState K D) : Type 0 where
  pub next : new.state.next ≡ old.state.next
  pub honest : is_honest new.keeper → is_honest old.keeper

-- ---- what a turn makes

-- The oldest item of the ring at a place was taken, and no other item of any ring.
pub record TakesAt (place : ℕ) (ls ms : List (Option Lane)) : Type 0 where
  pub lane : Lane
  pub lane' : Lane
  pub there : IsAt ls place lane
  pub there' : IsAt ms place lane'
  pub item : Brought Message ReadCause
  pub taken : received lane'.inbound ≡ received lane.inbound ++ item ∷ []
  pub others : (at : ℕ) → at ≢ place → StaysAs (λ l m. received m.inbound ≡ received l.inbound) (slice_index_or ls at None) (slice_index_or ms at None)

-- the same of the ring of a session
abbrev pub TakesOne : ℕ → List (Option Lane) → List (Option Lane) → Type 0
TakesOne serial ls ms = (place : ℕ) × (t : TakesAt place ls ms) × (t.lane.session.serial ≡ serial)

-- nothing was taken from any lane or put into it
abbrev pub LookAll : List (Option Lane) → List (Option Lane) → Type 0
LookAll ls ms = StayAs LooksAt ls ms

-- Whether an item of the session was seen. If so, it was taken, all that waits for any session was moved, and no session but
-- its own was closed, unless it is served and its ring had no room; otherwise nothing is changed. What the machine makes of the
-- item itself may close other sessions, as out of memory.
abbrev pub Turns : {K D : Type 0} → ℕ → Desk K D → Bool → Desk K D → Type 0
Turns serial old true new =
    (t : TakesOne serial old.lanes.items new.lanes.items) × AreFlushed new
    × EntersTurn (IsServed old.lanes.items) serial t.1.item old.core new.core
Turns serial old false new = (new.core ≡ old.core) × LookAll old.lanes.items new.lanes.items

-- ---- for private clauses

-- what fits at a place
abbrev pub PlaceFits : {K D : Type 0} {first core : CoreState K D} → Since first core → Option Lane → Type 0
PlaceFits since None = Unit {0}
PlaceFits since (Some l) = LaneFits since l

-- What was done at a place: nothing if it is free. Otherwise its lane was moved on.
abbrev pub MovesPlace : {K D : Type 0} {first old : CoreState K D} → ℕ → Since first old → Option Lane → CoreState K D → Option Lane → Type 0
MovesPlace {old = old} at since None new p = (new ≡ old) × (p ≡ None)
MovesPlace at since (Some l) new None = ⊥
MovesPlace at since (Some l) new (Some m) = Moves at since l new m × (m.session ≡ l.session)

-- at the places below this one, nothing more can be moved
abbrev pub AreFlushedBelow : {K D : Type 0} → ℕ → CoreState K D → List (Option Lane) → Type 0
AreFlushedBelow n core places = (at : ℕ) (l : Lane) → at < n → IsAt places at l → IsFlushedLane core l

-- an item of a lane was taken and entered
abbrev pub TakesItemOf : {K D : Type 0} → Lane → CoreState K D → Lane → CoreState K D → Type 0
TakesItemOf l old m new =
    (item : Brought Message ReadCause) × (received m.inbound ≡ received l.inbound ++ item ∷ [])
    × EntersTurn (λ n. n ≡ l.session.serial) l.session.serial item old new

-- so it was of the lane at a place
abbrev pub TakesAtPlace : {K D : Type 0} → Option Lane → CoreState K D → Option Lane → CoreState K D → Type 0
TakesAtPlace None old p new = ⊥
TakesAtPlace (Some l) old None new = ⊥
TakesAtPlace (Some l) old (Some m) new = TakesItemOf l old m new

-- so it was of a desk
abbrev pub TakesAndEnters : {K D : Type 0} → ℕ → Desk K D → Desk K D → Type 0
TakesAndEnters place old new =
    (t : TakesAt place old.lanes.items new.lanes.items)
    × EntersTurn (IsServed old.lanes.items) t.lane.session.serial t.item old.core new.core

-- nothing was taken from the lane, and what is put goes into the same ring
abbrev pub PutsAlone : Lane → Lane → Type 0
PutsAlone a b = SameProducer a.outbound b.outbound × (b.inbound ≡ a.inbound) × (b.session ≡ a.session)

-- Something that waits may have been moved. The desk goes on from whatever its core was, nothing is taken from a ring, and no
-- session is closed but one that is served and whose ring had no room.
pub record FlushesDesk {K D : Type 0} (is_honest : K → Type 0) (old new : Desk K D) : Type 0 where
  pub goes : (moment : ℕ) → DeskGoesOn moment old new
  pub enters : EntersOverruns (IsServed old.lanes.items) old.core new.core
  pub rings : StayAs PutsAlone old.lanes.items new.lanes.items
  pub steady : IsSteady is_honest old.core new.core

-- nothing was entered, and what waits for a session still waits or was moved, all of it
abbrev pub IsQuiet : {K D : Type 0} → CoreState K D → CoreState K D → Type 0
IsQuiet old new = (new.state ≡ old.state) × ((n : ℕ) → (waiting_for n new.outbox ≡ waiting_for n old.outbox) ⊎ (waiting_for n new.outbox ≡ []))

-- how many of these lanes have no end mark yet: one or none
abbrev pub unmarked_at : Option Lane → ℕ
unmarked_at None = 0
unmarked_at (Some l) = if l.marked then 0 else 1

-- how many lanes have no end mark yet
abbrev pub unmarked : List (Option Lane) → ℕ
unmarked [] = 0
unmarked (p ∷ places) = unmarked_at p + unmarked places

-- Whether the ring at a place had no room for a frame. If so, the end mark was put; otherwise nothing was entered, and nothing
-- more can be moved for the session.
abbrev pub GivesUpIf : {K D : Type 0} → Bool → CoreState K D → Option Lane → CoreState K D → Option Lane → Type 0
GivesUpIf true old p new p' = unmarked_at p' < unmarked_at p
GivesUpIf false old p new p' = IsQuiet old new × (unmarked_at p' ≤ unmarked_at p) × ((l : Lane) → p' ≡ Some l → IsFlushedLane new l)
