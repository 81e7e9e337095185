-- The open sessions: their serials and their keys.
use Rattle.std.specs.Prelude.{◌≡◌, ◌≢◌, ℕ, ◌+◌, ◌-◌, ◌^◌, ◌<◌, ◌==◌, ◌||◌, nat_le, not, List, [], ◌∷◌, ◌++◌, filter, length, count_by, slice_index_or, is_some, Bool, false, Option, Some, None, if◌then◌else◌, refl}
use Rattle.std.specs.List.{All, AllByRecursion, list_any}
use Rattle.std.specs.Coded.{Coded, code_by, coded×, coded_ℕ, coded_list}
use Rattle.ov_sessions.specs.declared.session.Session.{Session}

-- how many sessions may be open
abbrev pub most_sessions : ℕ
most_sessions = 64

-- the number after the last serial
abbrev pub beyond_serials : ℕ
beyond_serials = 2 ^ 64 - 1

-- what contracts see of the open sessions: the sessions with their keys, in order of opening, and the next serial
pub record OpenSessions : Type 0 where
  pub open_sessions : List Session
  pub next : ℕ

-- the session of this serial is among these
abbrev pub has_serial : ℕ → List Session → Bool
has_serial serial sessions = list_any (λ n. n.serial == serial) sessions

-- no place or no serial is left, if this many sessions are open and this is the next serial
abbrev pub has_no_room : ℕ → ℕ → Bool
has_no_room count next = nat_le most_sessions count || nat_le beyond_serials next

-- the next serial, if one is left
abbrev pub serial_left : ℕ → Option ℕ
serial_left next = if nat_le beyond_serials next then None else Some next

-- the sessions without the one of a serial
abbrev pub without_serial : ℕ → List Session → List Session
without_serial serial sessions = filter (λ n. not (n.serial == serial)) sessions

-- no session was opened: these are the ones left of the others
abbrev pub IsLeft : List Session → List Session → Type 0
IsLeft old new = new ≡ filter (λ n. has_serial n.serial new) old

-- no session has this key
abbrev pub IsFreeKey : ℕ → List Session → Type 0
IsFreeKey key sessions = All (λ n. n.key ≢ key) sessions

-- The session was opened: it comes last, with the next serial, which no open session has, and with a key that was free.
pub record OpensSession (old : OpenSessions) (session : Session) (new : OpenSessions) : Type 0 where
  pub sessions : new ≡ record { open_sessions = old.open_sessions ++ session ∷ []; next = old.next + 1 }
  pub serial : session.serial ≡ old.next
  pub key : session.key < most_sessions
  pub free : IsFreeKey session.key old.open_sessions
  pub fresh : has_serial session.serial old.open_sessions ≡ false

-- ---- how the code keeps them

-- a serial with its key, as a session
abbrev pub session_at : ℕ × ℕ → Session
session_at entry = record { key = entry.1; serial = entry.0 }

-- the serial of the session that has a key, if one has it
abbrev pub serial_at : List (Option ℕ) → ℕ → Option ℕ
serial_at serials key = slice_index_or serials key None

-- only what is at this key is another
pub record UpdatesKey (old new : List (Option ℕ)) (key : ℕ) (serial : Option ℕ) : Type 0 where
  pub changed : serial_at new key ≡ serial
  pub others : (other : ℕ) → other ≢ key → serial_at new other ≡ serial_at old other

-- There are as many places as sessions may be open. Each open session has its serial at its key, and all other places are
-- free. Each serial is below the next.
pub record AreTied (serials : List (Option ℕ)) (keys : List (ℕ × ℕ)) (next : ℕ) : Type 0 where
  pub room : length serials ≡ most_sessions
  pub many : count_by is_some serials ≡ length keys
  pub held : AllByRecursion (λ e. serial_at serials e.1 ≡ Some e.0) keys
  pub below : AllByRecursion (λ e. e.0 < next) keys

-- how a model stores the open sessions, given how it stores a session
abbrev pub open_sessions_code : Coded Session → Coded OpenSessions
open_sessions_code code =
    code_by (List Session × ℕ) (coded× (coded_list code) coded_ℕ) (λ s. (s.open_sessions, s.next))
    (λ p. record { open_sessions = p.0; next = p.1 }) (λ _. refl)
