-- Who works for the session at a place.
use Rattle.std.specs.Prelude.{◌≡◌, ℕ, ◌+◌, List, [], ◌∷◌, length, slice_index_or, Bool, true, Option, Some, None}
use Rattle.rtrb.specs.Ring.{sent, received, known_free, IsPair}
use Rattle.ov_lanes.specs.declared.desk.Desk.{Desk}
use Rattle.ov_lanes.specs.declared.lane.Lane.{Lane}
use Rattle.ov_workers.specs.declared.link.Link.{Link}
use Rattle.ov_threads.specs.declared.workers.Workers.{Workers}
use Rattle.ov_hall.specs.declared.hall.Hall.{Hall}
use Rattle.ov_hall.specs.declared.start.Started.{Started}

-- nothing was handed to the workers yet
abbrev pub AwaitLink : {S W L : Type 0} → Workers S W L → Type 0
AwaitLink w = (sent w.reading.hand ≡ []) × (sent w.writing.hand ≡ [])

-- they were handed the two ends of this link
abbrev pub HaveLink : {S W L : Type 0} → Link S W → Workers S W L → Type 0
HaveLink k w = (sent w.reading.hand ≡ Some k.reader ∷ []) × (sent w.writing.hand ≡ Some k.writer ∷ [])

-- The lane has the other ends of their rings, the reader notes the serial of its session, and they give back the ends of their
-- link, or drop them.
pub record AreWorkersOf {S W L : Type 0} (keeps : Bool) (l : Lane) (w : Workers S W L) : Type 0 where
  pub reads : IsPair w.reading.handle.promise.inlet.value.ring l.inbound
  pub writes : IsPair l.outbound w.writing.handle.promise.ring.value
  pub notes : w.reading.handle.promise.inlet.value.noter.serial ≡ l.session.serial
  pub keep : (w.reading.handle.promise.keeps ≡ keeps) × (w.writing.handle.promise.keeps ≡ keeps)

-- a place is free, or its session has workers that were handed a link
abbrev pub IsSeat : {S W L : Type 0} → Bool → Option Lane → Option (Workers S W L) → Type 0
IsSeat keeps None w = w ≡ None
IsSeat keeps (Some l) None = ⊥
IsSeat {S} {W} keeps (Some l) (Some w) = AreWorkersOf keeps l w × ((k : Link S W) × HaveLink k w)

-- so it is at each of these places
pub record ArePlaces {S W L : Type 0} (keeps : Bool) (ls : List (Option Lane)) (ws : List (Option (Workers S W L))) : Type 0 where
  pub many : length ws ≡ length ls
  pub each : (at : ℕ) → IsSeat keeps (slice_index_or ls at None) (slice_index_or ws at None)

-- and at each of a hall
abbrev pub AreSeats : {K D S W L : Type 0} → Hall K D S W L → Type 0
AreSeats hall = ArePlaces hall.keeps hall.desk.lanes.items hall.workers.items

-- what a hall has at its places: the machine with the lanes, and the workers
pub record Seating (K D S W L : Type 0) : Type 0 where
  pub desk : Desk K D
  pub workers : List (Option (Workers S W L))

-- those of a hall
abbrev pub seating : {K D S W L : Type 0} → Hall K D S W L → Seating K D S W L
seating hall = record { desk = hall.desk; workers = hall.workers.items }

-- they work at this place
abbrev pub WorkAt : {S W L : Type 0} → List (Option (Workers S W L)) → ℕ → Workers S W L → Type 0
WorkAt places at w = slice_index_or places at None ≡ Some w

-- the workers of a session with this serial were started: nothing went through its rings
pub record IsStarted {S W L : Type 0} (keeps : Bool) (serial : ℕ) (s : Started S W L) : Type 0 where
  pub reads : IsPair s.workers.reading.handle.promise.inlet.value.ring s.inbound
  pub writes : IsPair s.outbound s.workers.writing.handle.promise.ring.value
  pub notes : s.workers.reading.handle.promise.inlet.value.noter.serial ≡ serial
  pub keep : (s.workers.reading.handle.promise.keeps ≡ keeps) × (s.workers.writing.handle.promise.keeps ≡ keeps)
  pub fresh : (received s.inbound ≡ []) × (sent s.outbound ≡ []) × (known_free s.outbound ≡ 1025)
  pub await : AwaitLink s.workers

-- those of sessions with consecutive serials; this is the first
abbrev pub AreStarted : {S W L : Type 0} → Bool → ℕ → List (Started S W L) → Type 0
AreStarted keeps serial [] = Unit {0}
AreStarted keeps serial (s ∷ started) = IsStarted keeps serial s × AreStarted keeps (serial + 1) started

-- the session at a place has workers that were handed this link
abbrev pub IsSeatOf : {S W L : Type 0} → Link S W → Option Lane → Option (Workers S W L) → Type 0
IsSeatOf {S} {W} {L} k p v = (l : Lane) × (p ≡ Some l) × (w : Workers S W L) × (v ≡ Some w) × AreWorkersOf true l w × HaveLink k w
