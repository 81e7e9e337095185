-- Named locks, each with a queue of the sessions that asked for it (RFC 7047, 4.1.8). That there is one queue, and where a
-- steal puts its session, is this server's choice: the owner is the first of the queue, whether it came by lock or by steal.
use Rattle.std.specs.Prelude.{◌==◌, ℕ, nat_le, List, [], ◌∷◌, ◌++◌, length, map, codes, Bool, true, not, if◌then◌else◌, Option, Some, None, is_some, option_map, unwrap_or}
use Rattle.std.specs.BTreeMap.{is_at, insert_entry}
use Rattle.std.specs.List.{IsDistinct, filter, list_any}
use Rattle.std.specs.List.Sorted.{IsStrictlySortedBy}
use Rattle.std.specs.Map.{keys_of, lookup, remove_entry}
use Rattle.serde_json.specs.Data.{Data, boolean, string, object, no_members, member, item, no_items}
use Rattle.ov_specs.specs.schema.Schema.{is_some_and}
use Rattle.ov_specs.specs.schema.SchemaTypes.{name_cmp}
use Rattle.ov_specs.specs.values.Uuid.{is_id}
use Rattle.ov_specs.specs.wire.Frame.{notification_tree}

-- for each lock that a session asked for, its queue of sessions, which is not empty; ascending by the bytes of the locks' names
abbrev pub Queues : Type 0
Queues = List (List ℕ × List ℕ)

-- the queues ascend by name
abbrev pub DoQueuesAscend : Queues → Type 0
DoQueuesAscend queues = IsStrictlySortedBy name_cmp (keys_of queues)

-- what names a lock: an <id> (RFC 7047, 4.1.8)
abbrev pub is_lock_name : List ℕ → Bool
is_lock_name = is_id

-- the lock that a text names, if there is one
abbrev pub lock_name : Option (List ℕ) → Option (List ℕ)
lock_name None = None
lock_name (Some name) = if is_lock_name name then Some name else None

-- ---- who asked for what

-- the queue of the lock
abbrev pub queue_of : List ℕ → Queues → List ℕ
queue_of name queues = unwrap_or (lookup (is_at (name_cmp name)) queues) []

-- the first of a queue
abbrev pub first_of : List ℕ → Option ℕ
first_of [] = None
first_of (session ∷ queue) = Some session

-- the owner of the lock
abbrev pub owner : List ℕ → Queues → Option ℕ
owner name queues = first_of (queue_of name queues)

-- the session is the owner of the lock
abbrev pub owns : Queues → ℕ → List ℕ → Bool
owns queues session name = is_some_and (λ first. first == session) (owner name queues)

-- nobody stands in the queue twice
abbrev pub HasNoRepeats : List ℕ → Type 0
HasNoRepeats queue = IsDistinct (λ a b. a == b) queue

-- the session stands in the queue
abbrev pub stands_in : ℕ → List ℕ → Bool
stands_in session queue = list_any (λ other. other == session) queue

-- the session asked for the lock, and is its owner or waits for it
abbrev pub has_requested : ℕ → List ℕ → Queues → Bool
has_requested session name queues = stands_in session (queue_of name queues)

-- the locks that the session asked for, ascending
abbrev pub names_of : ℕ → Queues → List (List ℕ)
names_of session [] = []
names_of session (e ∷ queues) = if stands_in session e.1 then e.0 ∷ names_of session queues else names_of session queues

-- how many locks the session asked for
abbrev pub requests_of : ℕ → Queues → ℕ
requests_of session queues = length (names_of session queues)

-- how many locks a session may ask for
abbrev pub lock_limit : ℕ
lock_limit = 256

-- ---- asking for a lock, and giving it up

-- with this queue of the lock; a lock that nobody asks for is no longer listed
abbrev pub with_queue : List ℕ → List ℕ → Queues → Queues
with_queue name [] queues = remove_entry (is_at (name_cmp name)) queues
with_queue name (session ∷ queue) queues = insert_entry name_cmp queues name (session ∷ queue)

-- lock: the session goes to the back (RFC 7047, 4.1.8)
abbrev pub lock : List ℕ → ℕ → Queues → Queues
lock name session queues = with_queue name (queue_of name queues ++ session ∷ []) queues

-- steal: the session goes to the front, and the former owner comes next (RFC 7047, 4.1.8; the place is this server's choice)
abbrev pub steal : List ℕ → ℕ → Queues → Queues
steal name session queues = with_queue name (session ∷ queue_of name queues) queues

-- the queue without the session, wherever it stands
abbrev pub without : ℕ → List ℕ → List ℕ
without session queue = filter (λ other. not (other == session)) queue

-- who becomes the first of the queue when the session leaves it
abbrev pub next_in : ℕ → List ℕ → Option ℕ
next_in session [] = None
next_in session (first ∷ queue) = if first == session then first_of (without session queue) else None

-- unlock: the session leaves the queue, whether it is the owner or not (RFC 7047, 4.1.8)
abbrev pub unlock : List ℕ → ℕ → Queues → Queues
unlock name session queues = with_queue name (without session (queue_of name queues)) queues

-- who becomes the owner of the lock then
abbrev pub next_owner : List ℕ → ℕ → Queues → Option ℕ
next_owner name session queues = next_in session (queue_of name queues)

-- ---- leaving all queues, as a closing session does

-- the session unlocks the locks of these names, one by one
abbrev pub unlock_all : ℕ → List (List ℕ) → Queues → Queues
unlock_all session [] queues = queues
unlock_all session (name ∷ names) queues = unlock_all session names (unlock name session queues)

-- one that becomes the owner, with the lock's name, before others
abbrev pub freed_before : Option ℕ → List ℕ → List (ℕ × List ℕ) → List (ℕ × List ℕ)
freed_before None name others = others
freed_before (Some session) name others = (session, name) ∷ others

-- the sessions that become owners as the locks of these names are unlocked, each with the lock's name
abbrev pub freed_all : ℕ → List (List ℕ) → Queues → List (ℕ × List ℕ)
freed_all session [] queues = []
freed_all session (name ∷ names) queues =
    freed_before (next_owner name session queues) name (freed_all session names (unlock name session queues))

-- a session that closes unlocks each lock that it asked for, in ascending order of the names
abbrev pub leave : ℕ → Queues → Queues
leave session queues = unlock_all session (names_of session queues) queues

-- the sessions that become owners then, each with the lock's name
abbrev pub freed : ℕ → Queues → List (ℕ × List ℕ)
freed session queues = freed_all session (names_of session queues) queues

-- ---- replies and notifications

-- what is asked of a lock (RFC 7047, 4.1.8)
pub data LockCall : Type 0 where
  Lock : LockCall
  Steal : LockCall
  Unlock : LockCall

-- Why a lock is not given to the session, as text: it has asked for it already, or for as many as it may (RFC 7047, 4.1.8;
-- the texts and the limit are this server's).
abbrev pub lock_refusal : List ℕ → ℕ → Queues → Option (List ℕ)
lock_refusal name session queues =
    if has_requested session name queues then Some (codes "lock already requested")
    else (if nat_le lock_limit (requests_of session queues) then Some (codes "resources exhausted") else None)

-- why it is not given up: it was not asked for (RFC 7047, 4.1.8; the text is this server's)
abbrev pub unlock_refusal : List ℕ → ℕ → Queues → Option (List ℕ)
unlock_refusal name session queues = if has_requested session name queues then None else Some (codes "lock not held")

-- why a call is refused
abbrev pub call_refusal : LockCall → List ℕ → ℕ → Queues → Option (List ℕ)
call_refusal Lock name session queues = lock_refusal name session queues
call_refusal Steal name session queues = lock_refusal name session queues
call_refusal Unlock name session queues = unlock_refusal name session queues

-- the queues after a call
abbrev pub after_call : LockCall → List ℕ → ℕ → Queues → Queues
after_call Lock name session queues = lock name session queues
after_call Steal name session queues = steal name session queues
after_call Unlock name session queues = unlock name session queues

-- the result of lock: whether the session is the owner now; that of steal is the same with true (RFC 7047, 4.1.8)
abbrev pub lock_result : Bool → Data
lock_result is_owner = object (member (codes "locked") (boolean is_owner) no_members)

-- to a session that has become the owner because another left (RFC 7047, 4.1.9)
abbrev pub locked_notification : List ℕ → Data
locked_notification name = notification_tree (codes "locked") (item (string name) no_items)

-- to a session from which another has stolen the lock (RFC 7047, 4.1.10)
abbrev pub stolen_notification : List ℕ → Data
stolen_notification name = notification_tree (codes "stolen") (item (string name) no_items)

-- the result of a call (RFC 7047, 4.1.8)
abbrev pub call_result : LockCall → List ℕ → Queues → Data
call_result Lock name queues = lock_result (not (is_some (owner name queues)))
call_result Steal name queues = lock_result true
call_result Unlock name queues = object no_members

-- which session a call notifies, and of what: the former owner, that the lock is stolen, or the next one, that it has the
-- lock (RFC 7047, 4.1.9, 4.1.10)
abbrev pub told_of_call : LockCall → List ℕ → ℕ → Queues → Option (ℕ × Data)
told_of_call Lock name session queues = None
told_of_call Steal name session queues = option_map (λ former. (former, stolen_notification name)) (owner name queues)
told_of_call Unlock name session queues = option_map (λ next. (next, locked_notification name)) (next_owner name session queues)

-- which sessions a session's leaving notifies, and of what, in ascending order of the locks' names (RFC 7047, 4.1.9)
abbrev pub told_of_leaving : ℕ → Queues → List (ℕ × Data)
told_of_leaving session queues = map (λ f. (f.0, locked_notification f.1)) (freed session queues)
