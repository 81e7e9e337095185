-- The waiting transactions, as contracts see them.
use Rattle.std.specs.Prelude.{ℕ, ◌+◌, ◌≤◌, ◌==◌, ◌&&◌, List, length, Bool, Option, Some, None}
use Rattle.std.specs.Str.{bytes_eq}
use Rattle.serde_json.specs.Written.{compact_text}
use Rattle.ov_specs.specs.machine.Machine.{Outstanding, least_with}

-- the waiting transactions, in order of arrival, and before them, while they are settled, those that the pass has not tried yet
pub record WaitingList : Type 0 where
  pub untried : List Outstanding
  pub outstanding : List Outstanding

-- how many there are
abbrev pub many : WaitingList → ℕ
many w = length w.untried + length w.outstanding

-- the most that there may be: as many of each session as may wait, times as many sessions as may be open
abbrev pub most_outstanding : ℕ
most_outstanding = 4096

-- the room of the two queues: each of them takes as many as may wait
pub record HasWaitingRoom (untried outstanding room_untried room_outstanding : ℕ) : Type 0 where
  pub first : most_outstanding ≤ room_untried
  pub second : most_outstanding ≤ room_outstanding
  pub few : untried + outstanding ≤ most_outstanding

-- a transaction of the session with an id of this text
abbrev pub has_text : ℕ → List ℕ → Outstanding → Bool
has_text session text o = (o.session == session) && bytes_eq (compact_text o.id) text

-- the earlier of two moments, if there is one
abbrev pub earlier : Option ℕ → Option ℕ → Option ℕ
earlier None other = other
earlier (Some n) other = Some (least_with n other)
