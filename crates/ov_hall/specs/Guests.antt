-- The connections to which a lobby gave a session.
use Rattle.std.specs.Prelude.{◌≡◌, ◌⊎◌, ◌+◌, ℕ, List, [], ◌∷◌, ◌++◌, length, vec_len, if◌then◌else◌, ◌==◌, ◌&&◌, Bool, true, false, option_to_list, MatchBool, Option, Some, None}
use Rattle.ov_specs.specs.machine.Machine.{is_open}
use Rattle.ov_core.specs.Following.{CoreState}
use Rattle.ov_lanes.specs.Moments.{Tells}
use Rattle.ov_lanes.specs.Since.{Since}
use Rattle.ov_lanes.specs.Lanes.{IsAt, SameLane, StayAs, Serves, ServesOn, DeskGoesOn}
use Rattle.ov_lanes.specs.declared.lane.Lane.{Lane}
use Rattle.ov_workers.specs.Accepting.{SameArrivals, arrived, may_come}
use Rattle.ov_workers.specs.LinkStates.{LinkState}
use Rattle.ov_workers.specs.declared.link.Link.{Link}
use Rattle.ov_threads.specs.declared.workers.Workers.{Workers}
use Rattle.ov_hall.specs.declared.hall.Hall.{Hall}
use Rattle.ov_hall.specs.declared.finish.End.{End}
use Rattle.ov_hall.specs.Ending.{LinkEnds}
use Rattle.ov_hall.specs.Ends.{EndsLane}
use Rattle.ov_hall.specs.Lists.{AreAmong, EachFrom}
use Rattle.ov_hall.specs.Seats.{AreSeats, HaveLink, WorkAt}
use Rattle.ov_hall.specs.Serving.{ServesBy, IsTended, AreApart, TakesFor, TakesNoted}

-- The session was served to its end over this link, and this is what remains of the link.
pub record IsGuest {K D S W : Type 0} {old new : CoreState K D} (ends : S → W → LinkState) (since : Since old new) (n : ℕ) (link : Link S W) : Type 0 where
  pub remains : End S W
  pub serial : remains.serial ≡ n
  pub comes_to : LinkEnds since n remains.cause (ends link.reader link.writer) (ends remains.reader remains.writer)

-- ---- on the way; for private clauses

-- The reader's end was taken from the lane's ring, and this is what remains of the link of its session. That the workers were
-- joined is in the proofs.
pub record HasLeft {S W : Type 0} (ends : S → W → LinkState) (l : Lane) (link : Link S W) : Type 0 where
  pub remains : End S W
  pub ended : l.ended ≡ true
  pub comes_to : EndsLane ends link l remains

-- Each lane stays at its place, with its workers, and this relation holds of it before and after; or its session has left, with
-- the link that its workers were handed.
abbrev pub StayOrLeave : {S W L : Type 0} → (Lane → Lane → Type 0) → (S → W → LinkState) → List (Option Lane) → List (Option (Workers S W L)) → List (Option Lane) → List (Option (Workers S W L)) → Type 0
StayOrLeave {S} {W} {L} holds ends ls ws ms vs =
    (at : ℕ) (l : Lane) (w : Workers S W L) → IsAt ls at l → WorkAt ws at w
    → ((m : Lane) × IsAt ms at m × WorkAt vs at w × holds l m) ⊎ ((link : Link S W) × HaveLink link w × HasLeft ends l link)

-- the lane has the same session
abbrev pub SameSession : Lane → Lane → Type 0
SameSession a b = b.session ≡ a.session

-- each lane was at its place before, as this relation says
abbrev pub WereThere : (Lane → Lane → Type 0) → List (Option Lane) → List (Option Lane) → Type 0
WereThere holds ls ms = (at : ℕ) (m : Lane) → IsAt ms at m → (l : Lane) × IsAt ls at l × holds l m

-- each session has left
abbrev pub HaveLeft : {S W L : Type 0} → (S → W → LinkState) → List (Option Lane) → List (Option (Workers S W L)) → Type 0
HaveLeft {S} {W} {L} ends ls ws = (at : ℕ) (l : Lane) (w : Workers S W L) → IsAt ls at l → WorkAt ws at w → (link : Link S W) × HaveLink link w × HasLeft ends l link

-- The machine was left alone. Each lane stays at its place, and the bell of its writer may have been rung; or its session has
-- left. No other lane is there. The workers at a place fit its lane as before.
pub record TendsHall {K D S W L : Type 0} (ends : S → W → LinkState) (old new : Hall K D S W L) : Type 0 where
  pub core : new.desk.core ≡ old.desk.core
  pub many : vec_len new.desk.lanes ≡ vec_len old.desk.lanes
  pub goes : (moment : ℕ) → DeskGoesOn moment old.desk new.desk
  pub leaves : StayOrLeave IsTended ends old.desk.lanes.items old.workers.items new.desk.lanes.items new.workers.items
  pub there : WereThere IsTended old.desk.lanes.items new.desk.lanes.items
  pub same : (new.keeps ≡ old.keeps) × (new.accepted ≡ old.accepted)
  pub seats : AreSeats new

-- if the places are kept, each lane stays at its place, and so do those who work there
abbrev pub IsKept : {K D S W L : Type 0} → Hall K D S W L → Hall K D S W L → Type 0
IsKept old new = old.keeps ≡ true → StayAs IsTended old.desk.lanes.items new.desk.lanes.items × (new.workers ≡ old.workers)

-- the session is served at one of the places, whose workers were handed the link
abbrev pub HasPlace : {S W L : Type 0} → List (Option Lane) → List (Option (Workers S W L)) → ℕ → Link S W → Type 0
HasPlace {S} {W} {L} ls ws n link =
    (at : ℕ) × (l : Lane) × (w : Workers S W L) × IsAt ls at l × WorkAt ws at w × (l.session.serial ≡ n) × HaveLink link w

-- Some of the links that came got a session each, in their order, with the serials that were next when a core was `start`. Each
-- of these sessions has a place, or it was a guest and is closed. No other session was opened.
pub record AreHosted {K D S W L : Type 0} {start : CoreState K D} (ends : S → W → LinkState) (hall : Hall K D S W L) (serves : Serves start hall.desk.core hall.desk.lanes.items) : Type 0 where
  pub guests : List (Link S W)
  pub among : AreAmong guests (arrived hall.accepted)
  pub many : hall.desk.core.state.next ≡ start.state.next + length guests
  pub each : EachFrom (λ n link. HasPlace hall.desk.lanes.items hall.workers.items n link ⊎ (IsGuest ends serves.since n link × (is_open hall.desk.core.state n ≡ false))) start.state.next guests

-- Whatever was done since a core was `start`, the desk goes on, and sessions that were hosted before are. Links come through
-- the same ring.
pub record HostsOn {K D S W L : Type 0} (ends : S → W → LinkState) (moment : ℕ) (old new : Hall K D S W L) : Type 0 where
  pub ring : SameArrivals old.accepted new.accepted
  pub hosts : (start : CoreState K D) (serves : Serves start old.desk.core old.desk.lanes.items)
      → (on : ServesOn moment serves new.desk.core new.desk.lanes.items) × (AreHosted ends old serves → AreHosted ends new on.after)

-- so it is by the clock
pub record HostsBy {K D S W L C : Type 0} (ends : S → W → LinkState) (tells : C → ℕ → C → Type 0) (old : Hall K D S W L) (clock : C) (new : Hall K D S W L) (clock' : C) : Type 0 where
  pub moments : List ℕ
  pub reported : Tells tells clock moments clock'
  pub ring : SameArrivals old.accepted new.accepted
  pub hosts : (start : CoreState K D) (serves : Serves start old.desk.core old.desk.lanes.items)
      → (by : ServesBy moments serves new.desk) × (AreHosted ends old serves → AreHosted ends new by.after)

-- ---- notes; for private clauses

-- the note is the accepting worker's, from which more links may come
abbrev pub is_of_lobby : {K D S W L : Type 0} → Hall K D S W L → ℕ → Bool
is_of_lobby hall note = note == 0 && may_come hall.accepted

-- For a note of the accepting worker no item was taken from any session's ring, and sessions may have left. For another note an
-- item of its session was taken; if not, it has no place, and nothing is changed.
abbrev pub TakesNote : {K D S W L : Type 0} → (S → W → LinkState) → ℕ → Hall K D S W L → Bool → Hall K D S W L → Type 0
TakesNote ends note old taken new = MatchBool (is_of_lobby old note)
    (StayOrLeave IsTended ends old.desk.lanes.items old.workers.items new.desk.lanes.items new.workers.items)
    (StayAs SameLane old.desk.lanes.items new.desk.lanes.items × TakesNoted note old.desk.lanes.items taken new.desk.lanes.items)

-- the note, if there is one and it isn't the accepting worker's
abbrev pub session_notes : {K D S W L : Type 0} → Hall K D S W L → Option ℕ → List ℕ
session_notes hall None = []
session_notes hall (Some note) = if is_of_lobby hall note then [] else note ∷ []

-- From the ring of each session as many items were taken as notes of its serial. Then it still has its place, or it has left.
abbrev pub TakesNotes : {S W : Type 0} → (S → W → LinkState) → List ℕ → List (Option Lane) → List (Option Lane) → Type 0
TakesNotes {S} {W} ends notes ls ms = (at : ℕ) (l : Lane) → IsAt ls at l → (m : Lane) × TakesFor notes l m × (IsAt ms at m ⊎ ((link : Link S W) × HasLeft ends m link))

-- a hall was served with this note, or with none
abbrev pub ServesNote : {K D S W L : Type 0} → (S → W → LinkState) → Option ℕ → Hall K D S W L → Hall K D S W L → Type 0
ServesNote ends note old new = AreApart old.desk.lanes.items → TakesNotes ends (session_notes old note) old.desk.lanes.items new.desk.lanes.items

-- it was served with these, one after another
abbrev pub ServesEach : {K D S W L : Type 0} → (S → W → LinkState) → List (Option ℕ) → Hall K D S W L → Hall K D S W L → Type 0
ServesEach ends [] old new = new ≡ old
ServesEach {K} {D} {S} {W} {L} ends (note ∷ notes) old new = (mid : Hall K D S W L) × ServesNote ends note old mid × ServesEach ends notes mid new

-- those that were taken
abbrev pub notes_in : List (Option ℕ) → List ℕ
notes_in [] = []
notes_in (note ∷ notes) = option_to_list note ++ notes_in notes
