-- What serving makes of the places and of the machine.
use Rattle.std.specs.Prelude.{◌≡◌, ◌≢◌, ℕ, ◌+◌, List, [], ◌∷◌, ◌++◌, length, if◌then◌else◌, ◌==◌, Bool, true, false, Option, None}
use Rattle.rtrb.specs.Ring.{received}
use Rattle.ov_specs.specs.machine.Machine as machine
use Rattle.ov_core.specs.Following.{CoreState, Timed, with_clock}
use Rattle.ov_lanes.specs.Moments.{AreTimedBy}
use Rattle.ov_lanes.specs.Lanes.{IsAt, SameLane, StayAs, TakesOne, Serves}
use Rattle.ov_lanes.specs.declared.desk.Desk.{Desk}
use Rattle.ov_lanes.specs.declared.lane.Lane.{Lane}
use Rattle.ov_hall.specs.declared.hall.Hall.{Hall}

-- ---- calls that serve

-- what a call is to serve, links or a listener, with the machine and the clock as it finds them
pub record ToServe (K D C A : Type 0) : Type 0 where
  pub start : Timed K D C
  pub what : A

-- these three
abbrev pub to_serve : {K D C A : Type 0} → CoreState K D → C → A → ToServe K D C A
to_serve core clock what = record { start = with_clock core clock; what = what }

-- ---- on the way; for private clauses

-- Whatever was done since a core was `start`, the places of the desk fit it as before, and this is what was done meanwhile, at
-- these moments.
pub record ServesBy {K D : Type 0} {start core : CoreState K D} {places : List (Option Lane)} (moments : List ℕ) (serves : Serves start core places) (new : Desk K D) : Type 0 where
  pub after : Serves start new.core new.lanes.items
  pub more : List machine.Entry
  pub adds : after.since.entries ≡ serves.since.entries ++ more
  pub timed : AreTimedBy moments core.state more new.core.state

-- how often a serial is among these
abbrev pub times : ℕ → List ℕ → ℕ
times serial [] = 0
times serial (n ∷ notes) = (if n == serial then 1 else 0) + times serial notes

-- no two places have sessions of one serial
abbrev pub AreApart : List (Option Lane) → Type 0
AreApart places = (at other : ℕ) (l m : Lane) → IsAt places at l → IsAt places other m → l.session.serial ≡ m.session.serial → at ≡ other

-- the lane has the same rings and the same session, and as many items were taken from it as notes of its serial
abbrev pub TakesFor : List ℕ → Lane → Lane → Type 0
TakesFor notes l m = SameLane l m × (length (received m.inbound) ≡ length (received l.inbound) + times l.session.serial notes)

-- each place keeps its session, from whose ring as many items were taken as notes of its serial
abbrev pub KeepsPlaces : List ℕ → List (Option Lane) → List (Option Lane) → Type 0
KeepsPlaces notes ls ms = StayAs (TakesFor notes) ls ms

-- a hall that keeps its places and gets no more links stays so, with the same workers; no session was opened, and these notes
-- were taken
abbrev pub KeepsHall : {K D S W L : Type 0} → List ℕ → Hall K D S W L → Hall K D S W L → Type 0
KeepsHall notes old new =
    old.keeps ≡ true → old.accepted ≡ None
    → (new.keeps ≡ true) × (new.accepted ≡ None) × (new.workers ≡ old.workers)
    × (new.desk.core.state.next ≡ old.desk.core.state.next)
    × (AreApart old.desk.lanes.items → KeepsPlaces notes old.desk.lanes.items new.desk.lanes.items)

-- whether an item of the session was taken; if not, it has no place, and nothing is changed
abbrev pub TakesNoted : ℕ → List (Option Lane) → Bool → List (Option Lane) → Type 0
TakesNoted serial ls true ms = TakesOne serial ls ms
TakesNoted serial ls false ms = (ms ≡ ls) × ((at : ℕ) (l : Lane) → IsAt ls at l → l.session.serial ≢ serial)

-- at most the bell of a lane's writer was rung
abbrev pub IsTended : Lane → Lane → Type 0
IsTended a b =
    (b.inbound ≡ a.inbound) × (b.outbound ≡ a.outbound) × (b.session ≡ a.session) × (b.cause ≡ a.cause) × (b.ended ≡ a.ended) × (b.marked ≡ a.marked)
