-- Worked queues of locks, and calls for locks.
use Rattle.std.proofs.Common.{◌≡◌, ℕ, zero, suc, List, ◌∷◌, [], ◌++◌, codes, Option, Some, None, Ok, true, false, option_map, refl, sym, ◌∙◌}
use Rattle.std.specs.Fmt.{digits}
use Rattle.std.specs.FinMap.{empty, entries, len-empty, len-entries}
use Rattle.std.proofs.lemmas.List.{nil_from_length}
use Rattle.serde_json.specs.Data.{Data, number, unsigned, string, array, object, no_members, member, Items, no_items, item}
use Rattle.serde_json.proofs.OnLiterals.{serde_json_on_literals}
use Rattle.ov_specs.specs.integrity.Committed.{committed}
use Rattle.ov_specs.specs.locks.Queues.{Queues, Lock, is_lock_name, owner, has_requested, names_of, requests_of, lock, steal, unlock, next_owner, leave, freed, lock_result, locked_notification, stolen_notification}
use Rattle.ov_specs.specs.machine.History.{run, out}
use Rattle.ov_specs.specs.machine.Machine.{State, Entry, Open, Take, Close, InputEnded, NoMemory, Stepped, Locks, refused, work_of, step}
use Rattle.ov_specs.specs.operations.Errors.{NotOwner, error_tree}
use Rattle.ov_specs.specs.rows.Database.{Row}
use Rattle.ov_specs.specs.rows.Lines.{line_cmp}
use Rattle.ov_specs.specs.schema.SchemaTypes.{Table, name_cmp}
use Rattle.ov_specs.specs.wire.Frame.{frame, reply_tree, failure_tree}
use Rattle.ov_specs.specs.wire.Message.{Message, Call}
use Rattle.ov_specs.proofs.laws.Committing.{enough_committed}
use Rattle.ov_examples.proofs.MachineRows.{net_schema, net, at}

-- ---- one owner

-- sessions 1 and 2 lock L, one after the other
abbrev two : Queues
two = lock (codes "L") 2 (lock (codes "L") 1 [])

pub first_is_owner : owner (codes "L") (lock (codes "L") 1 []) ≡ Some 1
first_is_owner = refl

pub second_waits : two ≡ (codes "L", 1 ∷ 2 ∷ []) ∷ []
second_waits = refl

-- a waiter has asked already, so it can't steal, nor can an owner from itself
pub waiter_has_requested : has_requested 2 (codes "L") two ≡ true
waiter_has_requested = refl

pub owner_has_requested : has_requested 1 (codes "L") two ≡ true
owner_has_requested = refl

-- ---- stolen, and given back

-- session 3 steals L: session 1 is notified, and waits before session 2
abbrev stolen : Queues
stolen = steal (codes "L") 3 two

pub stolen_from_first : owner (codes "L") two ≡ Some 1
stolen_from_first = refl

pub former_owner_is_next : stolen ≡ (codes "L", 3 ∷ 1 ∷ 2 ∷ []) ∷ []
former_owner_is_next = refl

-- session 3 ends: session 1 is the owner again
pub given_back : leave 3 stolen ≡ two
given_back = refl

pub told_of_it : freed 3 stolen ≡ (1, codes "L") ∷ []
told_of_it = refl

-- session 2 gives up waiting, and can't do so again
pub waiter_unlocks : unlock (codes "L") 2 two ≡ (codes "L", 1 ∷ []) ∷ []
waiter_unlocks = refl

pub nobody_is_next : next_owner (codes "L") 2 two ≡ None
nobody_is_next = refl

pub not_held : has_requested 2 (codes "L") (unlock (codes "L") 2 two) ≡ false
not_held = refl

-- stolen twice: the last one is the owner, and the former ones follow
pub stolen_twice : steal (codes "L") 4 stolen ≡ (codes "L", 4 ∷ 3 ∷ 1 ∷ 2 ∷ []) ∷ []
stolen_twice = refl

pub last_thief_unlocks : next_owner (codes "L") 4 (steal (codes "L") 4 stolen) ≡ Some 3
last_thief_unlocks = refl

-- a lock that no session had is stolen from none
pub stolen_from_nobody : owner (codes "L") [] ≡ None
stolen_from_nobody = refl

-- the last one leaves: no session asks for the lock any longer
pub last_unlocks : unlock (codes "L") 1 (lock (codes "L") 1 []) ≡ []
last_unlocks = refl

-- ---- two locks

-- session 1 locks B, then A; session 2 locks both
abbrev both : Queues
both = lock (codes "A") 2 (lock (codes "B") 2 (lock (codes "A") 1 (lock (codes "B") 1 [])))

pub names_ascend : both ≡ (codes "A", 1 ∷ 2 ∷ []) ∷ (codes "B", 1 ∷ 2 ∷ []) ∷ []
names_ascend = refl

pub both_requested : names_of 1 both ≡ codes "A" ∷ codes "B" ∷ []
both_requested = refl

pub two_requests : requests_of 2 both ≡ 2
two_requests = refl

-- session 1 ends: session 2 owns both, and is notified by name
pub freed_by_name : freed 1 both ≡ (2, codes "A") ∷ (2, codes "B") ∷ []
freed_by_name = refl

pub both_left : leave 1 both ≡ (codes "A", 2 ∷ []) ∷ (codes "B", 2 ∷ []) ∷ []
both_left = refl

-- a waiter's end makes no session an owner
pub waiter_leaves : freed 2 both ≡ []
waiter_leaves = refl

-- ---- what is sent

pub locked_text : frame (locked_notification (codes "L")) ≡ codes "{\"id\":null,\"method\":\"locked\",\"params\":[\"L\"]}"
unfolding serde_json_on_literals
locked_text = refl

pub stolen_text : frame (stolen_notification (codes "L")) ≡ codes "{\"id\":null,\"method\":\"stolen\",\"params\":[\"L\"]}"
unfolding serde_json_on_literals
stolen_text = refl

pub locked_true : frame (lock_result true) ≡ codes "{\"locked\":true}"
unfolding serde_json_on_literals
locked_true = refl

pub locked_false : frame (lock_result false) ≡ codes "{\"locked\":false}"
unfolding serde_json_on_literals
locked_false = refl

-- ---- names of locks

pub name_with_digit : is_lock_name (codes "_a1") ≡ true
name_with_digit = refl

pub name_with_space : is_lock_name (codes "a b") ≡ false
name_with_space = refl

pub name_of_nothing : is_lock_name [] ≡ false
name_of_nothing = refl

-- ---- runs of the machine

abbrev call : List ℕ → ℕ → List ℕ → Message
call method id name = Call (number (unsigned id)) method (item (string name) no_items)

-- what session n is sent
abbrev bytes_to : ℕ → List Entry → Option (List ℕ)
bytes_to n history = option_map (λ t. out n t.sent) (run net history)

-- sessions 1 and 2 lock L, one after the other
abbrev both_lock : List Entry
both_lock = at 0 Open ∷ at 0 Open ∷ at 0 (Take 1 (call (codes "lock") 1 (codes "L"))) ∷ at 0 (Take 2 (call (codes "lock") 1 (codes "L"))) ∷ []

pub lock_has_one_owner : bytes_to 1 both_lock ≡ Some (codes "{\"error\":null,\"id\":1,\"result\":{\"locked\":true}}")
unfolding digits serde_json_on_literals
lock_has_one_owner = refl

pub second_is_told_to_wait : bytes_to 2 both_lock ≡ Some (codes "{\"error\":null,\"id\":1,\"result\":{\"locked\":false}}")
unfolding digits serde_json_on_literals
second_is_told_to_wait = refl

-- and session 3 steals it, and ends
abbrev stolen_and_left : List Entry
stolen_and_left = both_lock ++ at 0 Open ∷ at 0 (Take 3 (call (codes "steal") 1 (codes "L"))) ∷ at 0 (Close 3 InputEnded) ∷ []

pub stolen_and_given_back : bytes_to 1 stolen_and_left
    ≡ Some (codes "{\"error\":null,\"id\":1,\"result\":{\"locked\":true}}{\"id\":null,\"method\":\"stolen\",\"params\":[\"L\"]}{\"id\":null,\"method\":\"locked\",\"params\":[\"L\"]}")
unfolding digits serde_json_on_literals
stolen_and_given_back = refl

pub thief_is_the_owner : bytes_to 3 stolen_and_left ≡ Some (codes "{\"error\":null,\"id\":1,\"result\":{\"locked\":true}}")
unfolding digits serde_json_on_literals
thief_is_the_owner = refl

-- ---- steps of the machine

-- three sessions are open, with these queues
abbrev with_queues : Queues → State
with_queues queues = record net { sessions = record { serial = 1; monitors = [] } ∷ record { serial = 2; monitors = [] } ∷ record { serial = 3; monitors = [] } ∷ []; queues = queues; next = 4 }

-- one tree, sent to this session
abbrev answers : State → ℕ → Data → Option Stepped
answers s n tree = Some (record { state = s; sent = record { session = n; tree = tree } ∷ [] })

abbrev id : ℕ → Data
id n = number (unsigned n)

pub waiter_can_not_steal : step (with_queues two) (at 0 (Take 2 (call (codes "steal") 3 (codes "L")))) ≡ answers (with_queues two) 2 (failure_tree (id 3) (codes "lock already requested"))
waiter_can_not_steal = refl

pub waiter_gives_up : step (with_queues two) (at 0 (Take 2 (call (codes "unlock") 4 (codes "L")))) ≡ answers (with_queues ((codes "L", 1 ∷ []) ∷ [])) 2 (reply_tree (id 4) (object no_members))
waiter_gives_up = refl

-- the reply comes first
pub owner_gives_up : step (with_queues two) (at 0 (Take 1 (call (codes "unlock") 4 (codes "L"))))
    ≡ Some (record {
      state = with_queues ((codes "L", 2 ∷ []) ∷ []);
      sent = record { session = 1; tree = reply_tree (id 4) (object no_members) } ∷ record { session = 2; tree = locked_notification (codes "L") } ∷ [];
    })
owner_gives_up = refl

pub nothing_to_give_up : step (with_queues two) (at 0 (Take 3 (call (codes "unlock") 5 (codes "L")))) ≡ answers (with_queues two) 3 (failure_tree (id 5) (codes "lock not held"))
nothing_to_give_up = refl

-- two locks are passed on, in ascending order of their names
pub both_are_given_on : step (with_queues both) (at 0 (Close 1 InputEnded))
    ≡ Some (record {
      state = record (with_queues ((codes "A", 2 ∷ []) ∷ (codes "B", 2 ∷ []) ∷ [])) { sessions = record { serial = 2; monitors = [] } ∷ record { serial = 3; monitors = [] } ∷ [] };
      sent = record { session = 2; tree = locked_notification (codes "A") } ∷ record { session = 2; tree = locked_notification (codes "B") } ∷ [];
    })
both_are_given_on = refl

-- so they are when out of memory
pub given_on_without_memory : step (with_queues two) (record { event = Take 1 (call (codes "lock") 1 (codes "B")); choice = record { moment = 0; draws = []; outcomes = record { number = 1; outcome = NoMemory } ∷ [] } })
    ≡ Some (record {
      state = record (with_queues ((codes "L", 2 ∷ []) ∷ [])) { sessions = record { serial = 2; monitors = [] } ∷ record { serial = 3; monitors = [] } ∷ [] };
      sent = record { session = 2; tree = locked_notification (codes "L") } ∷ [];
    })
given_on_without_memory = refl

-- ---- what is refused

pub lock_without_name : work_of (with_queues two) 1 (Call (id 1) (codes "lock") no_items) ≡ refused (id 1) (codes "syntax error")
lock_without_name = refl

pub lock_of_two_names : work_of (with_queues two) 1 (Call (id 1) (codes "lock") (item (string (codes "A")) (item (string (codes "B")) no_items))) ≡ refused (id 1) (codes "syntax error")
lock_of_two_names = refl

pub lock_of_a_number : work_of (with_queues two) 1 (Call (id 1) (codes "steal") (item (id 7) no_items)) ≡ refused (id 1) (codes "syntax error")
lock_of_a_number = refl

pub unlock_of_no_name : work_of (with_queues two) 1 (call (codes "unlock") 1 (codes "a b")) ≡ refused (id 1) (codes "syntax error")
unlock_of_no_name = refl

-- N queues of session 1 alone, each name one letter longer than the one before
abbrev many : ℕ → List ℕ → Queues
many zero name = []
many (suc n) name = (name, 1 ∷ []) ∷ many n (97 ∷ name)

pub too_many_locks : work_of (with_queues (many 256 (codes "a"))) 1 (call (codes "lock") 257 (codes "L")) ≡ refused (id 257) (codes "resources exhausted")
too_many_locks = refl

-- that it has asked for the lock comes first
pub requested_of_too_many : work_of (with_queues (many 256 (codes "a"))) 1 (call (codes "lock") 257 (codes "aaa")) ≡ refused (id 257) (codes "lock already requested")
requested_of_too_many = refl

pub last_lock : work_of (with_queues (many 255 (codes "a"))) 1 (call (codes "lock") 256 (codes "L")) ≡ Locks Lock (id 256) (codes "L")
last_lock = refl

-- ---- assert

abbrev assert : Items
assert = item (object (member (codes "lock") (string (codes "L")) (member (codes "op") (string (codes "assert")) no_members))) no_items

abbrev transacts : ℕ → Entry
transacts n = record { event = Take n (Call (id 2) (codes "transact") (item (string (codes "Net")) assert)); choice = record { moment = 0; draws = [] ∷ []; outcomes = [] } }

entries-empty : entries (empty {X = Row} {R = line_cmp}) ≡ []
entries-empty = nil_from_length _ (sym (len-entries empty) ∙ len-empty line_cmp Row)

entries-no_tables : entries (empty {X = Table} {R = name_cmp}) ≡ []
entries-no_tables = nil_from_length _ (sym (len-entries empty) ∙ len-empty name_cmp Table)

committed-nothing : committed net_schema empty [] empty ≡ Ok empty
committed-nothing = enough_committed net_schema empty [] empty (rw entries-empty refl) (rw (entries-empty, entries-no_tables) refl)

pub assert_by_owner : step (with_queues two) (transacts 1) ≡ answers (with_queues two) 1 (reply_tree (id 2) (array (item (object no_members) no_items)))
unfolding serde_json_on_literals
assert_by_owner = rw committed-nothing (rw entries-empty refl)

pub assert_by_waiter : step (with_queues two) (transacts 2) ≡ answers (with_queues two) 2 (reply_tree (id 2) (array (item (error_tree NotOwner) no_items)))
unfolding serde_json_on_literals
assert_by_waiter = rw entries-empty refl

-- by the owner that it was stolen from
pub assert_by_former_owner : step (with_queues stolen) (transacts 1) ≡ answers (with_queues stolen) 1 (reply_tree (id 2) (array (item (error_tree NotOwner) no_items)))
unfolding serde_json_on_literals
assert_by_former_owner = rw entries-empty refl
