-- Worked histories, and their databases.
use Rattle.std.proofs.Common.{◌≡◌, ℕ, List, [], ◌∷◌, Bool, true, false, cond, Some, None, Ok, refl, sym, ap, ◌∙◌, codes}
use Rattle.std.specs.Fmt.{digits}
use Rattle.std.specs.FinMap.{empty, get, remove, entries, same_map, get-empty, get-insert, get-remove}
use Rattle.std.specs.Ordering.{eq_by_cmp}
use Rattle.serde_json.specs.Data.{number, unsigned, string, array, object, no_members, member, Items, no_items, item}
use Rattle.serde_json.proofs.OnLiterals.{serde_json_on_literals}
use Rattle.ov_specs.specs.integrity.Committed.{committed}
use Rattle.ov_specs.specs.machine.Machine.{Event, Open, Take, Tick, Outcome, Committed, Exhausted, Failed, NoMemory, Attempt, Entry, opening}
use Rattle.ov_specs.specs.operations.MatchingRows.{count_result}
use Rattle.ov_specs.specs.operations.OpOutcome.{empty_result}
use Rattle.ov_specs.specs.operations.Transaction.{Completes, Waits, transaction}
use Rattle.ov_specs.specs.rows.Database.{Database, same_database}
use Rattle.ov_specs.specs.rows.Lines.{LineKey, line_cmp}
use Rattle.ov_specs.specs.values.Uuid.{Uuid}
use Rattle.ov_specs.specs.wire.Message.{Call}
use Rattle.ov_specs.proofs.laws.Committing.{enough_committed}
use Rattle.ov_specs.proofs.laws.LineKeys.{key_total, key_exact}
use Rattle.ov_laws.specs.Databases.{databases}
use Rattle.ov_examples.proofs.NetRows.{owns_none}
use Rattle.ov_examples.proofs.InsertRows.{net0, switch_table, entries-tables, numbered, insert_s1, insert_s2, select_of, with_s1, s1, insert_one, refused_changes_nothing, entries-with_s1, entries-nothing}
use Rattle.ov_examples.proofs.UpdateRows.{differ}

-- the databases of the history from an opening without rows
abbrev from_nothing : List Entry → List Database
from_nothing history = databases (opening net0 empty) history

abbrev at : ℕ → Event → Entry
at moment event = record { event = event; choice = record { moment = moment; draws = []; outcomes = [] } }

-- the session asks for these operations, at moment 0
abbrev transacts : ℕ → Items → List Uuid → List Attempt → Entry
transacts session operations draws outcomes = record {
  event = Take session (Call (number (unsigned 1)) (codes "transact") (item (string (codes "Net")) operations));
  choice = record { moment = 0; draws = draws; outcomes = outcomes };
}

abbrev came_to : ℕ → Outcome → Attempt
came_to n outcome = record { number = n; outcome = outcome }

-- ---- one transaction

pub nothing_has_happened : from_nothing [] ≡ empty ∷ []
nothing_has_happened = refl

-- session 1 inserts a switch
abbrev inserts : Outcome → Entry
inserts outcome = transacts 1 (item insert_s1 no_items) (numbered 1 ∷ numbered 2 ∷ []) (came_to 1 outcome ∷ [])

pub what_is_kept_comes_next : from_nothing (at 0 Open ∷ inserts Committed ∷ []) ≡ empty ∷ with_s1 ∷ []
unfolding digits serde_json_on_literals
what_is_kept_comes_next = rw insert_one (rw differ refl)

-- the store refuses it, or fails to keep it
pub what_is_exhausted_does_not : from_nothing (at 0 Open ∷ inserts Exhausted ∷ []) ≡ empty ∷ []
unfolding digits serde_json_on_literals
what_is_exhausted_does_not = rw insert_one (rw differ refl)

pub what_fails_does_not : from_nothing (at 0 Open ∷ inserts Failed ∷ []) ≡ empty ∷ []
unfolding digits serde_json_on_literals
what_fails_does_not = rw insert_one (rw differ refl)

pub what_runs_out_of_memory_does_not : from_nothing (at 0 Open ∷ inserts NoMemory ∷ []) ≡ empty ∷ []
unfolding digits serde_json_on_literals
what_runs_out_of_memory_does_not = refl

-- one of its operations fails
pub what_is_refused_does_not : from_nothing (at 0 Open ∷ transacts 1 (item insert_s1 (item (select_of (codes "Swich")) (item insert_s2 no_items))) (numbered 1 ∷ numbered 2 ∷ numbered 3 ∷ []) [] ∷ []) ≡ empty ∷ []
unfolding digits serde_json_on_literals
what_is_refused_does_not = rw refused_changes_nothing (rw entries-nothing refl)

-- ---- two in one entry

-- session 1 waits for a switch, and then deletes it
abbrev wait_then_delete : Items
wait_then_delete =
    item (object (member (codes "op") (string (codes "wait")) (member (codes "rows") (array no_items) (member (codes "table") (string (codes "Switch"))
    (member (codes "until") (string (codes "!=")) (member (codes "where") (array no_items) no_members))))))
    (item (object (member (codes "op") (string (codes "delete")) (member (codes "table") (string (codes "Switch")) (member (codes "where") (array no_items) no_members)))) no_items)

abbrev waits : Entry
waits = transacts 1 wait_then_delete (numbered 3 ∷ []) []

is_blocked : (age : ℕ) → transaction net0 empty owns_none (numbered 3 ∷ []) age wait_then_delete ≡ Waits None
is_blocked age = rw switch_table (rw entries-nothing refl)

pub what_waits_does_not : from_nothing (at 0 Open ∷ waits ∷ []) ≡ empty ∷ []
unfolding digits serde_json_on_literals
what_waits_does_not = rw (is_blocked 0) refl

pub time_that_passes_does_not : from_nothing (at 0 Open ∷ waits ∷ at 7 Tick ∷ []) ≡ empty ∷ []
unfolding digits serde_json_on_literals
time_that_passes_does_not = rw (is_blocked 0) (rw (is_blocked 7) refl)

-- without the switch
abbrev without_s1 : Database
without_s1 = remove with_s1 (codes "Switch", numbered 2)

entries-without_s1 : entries without_s1 ≡ []
entries-without_s1 = ap entries (same_map key_total key_exact without_s1 empty (λ q. gone q ∙ sym (get-empty line_cmp q))) ∙ entries-nothing
  where
    by : (b : Bool) → cond b None (cond b (Some s1) None) ≡ None
    by true = refl
    by false = refl

    gone : (q : LineKey) → get without_s1 q ≡ None
    gone q =
        get-remove key_total with_s1 (codes "Switch", numbered 2) q
        ∙ (ap (cond (eq_by_cmp line_cmp q (codes "Switch", numbered 2)) None) (get-insert key_total empty (codes "Switch", numbered 2) s1 q ∙ ap (cond (eq_by_cmp line_cmp q (codes "Switch", numbered 2)) (Some s1)) (get-empty line_cmp q))
        ∙ by (eq_by_cmp line_cmp q (codes "Switch", numbered 2)))

committed-without_s1 : committed net0 with_s1 (numbered 3) without_s1 ≡ Ok without_s1
committed-without_s1 = enough_committed net0 with_s1 (numbered 3) without_s1 (rw entries-without_s1 refl) (rw (entries-without_s1, entries-tables) refl)

met_wait_deletes : transaction net0 with_s1 owns_none (numbered 3 ∷ []) 0 wait_then_delete ≡ Completes (item empty_result (item (count_result 1) no_items)) without_s1
met_wait_deletes = rw switch_table (rw entries-with_s1 (rw entries-with_s1 (rw committed-without_s1 refl)))

differ_again : same_database with_s1 without_s1 ≡ false
differ_again = rw (entries-with_s1, entries-without_s1) refl

-- session 2 inserts the switch, and that is attempt 1; attempt 2 is the try of what waits
abbrev inserts_and_meets : Outcome → Entry
inserts_and_meets outcome = transacts 2 (item insert_s1 no_items) (numbered 1 ∷ numbered 2 ∷ []) (came_to 1 Committed ∷ came_to 2 outcome ∷ [])

pub both_come_in_order : from_nothing (at 0 Open ∷ at 0 Open ∷ waits ∷ inserts_and_meets Committed ∷ []) ≡ empty ∷ with_s1 ∷ without_s1 ∷ []
unfolding digits serde_json_on_literals
both_come_in_order = rw (is_blocked 0) (rw insert_one (rw differ (rw met_wait_deletes (rw differ_again refl))))

-- the store fails to keep the second one
pub the_first_comes_alone : from_nothing (at 0 Open ∷ at 0 Open ∷ waits ∷ inserts_and_meets Failed ∷ []) ≡ empty ∷ with_s1 ∷ []
unfolding digits serde_json_on_literals
the_first_comes_alone = rw (is_blocked 0) (rw insert_one (rw differ (rw met_wait_deletes (rw differ_again refl))))
