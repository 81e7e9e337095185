-- What is refused at once is what the machine refuses, branch by branch.
use Rattle.std.proofs.Common.{◌≡◌, ◌≢◌, ◌∙◌, Decides, List, ℕ, Bool, true, false, not, Option, Some, None, length, filter, ◌≤◌, ◌==◌, nat_le, arith, subst, if◌then◌else◌, codes, is_some, refl, sym, ap}
use Rattle.std.proofs.lemmas.Bool.Decides.{nat_tests}
use Rattle.std.proofs.lemmas.Slice.Eq.{bytes_eq-Decides}
use Rattle.std.specs.List.{list_any}
use Rattle.std.specs.Str.{bytes_eq}
use Rattle.serde_json.specs.Data.{Data, Items, no_items, item}
use Rattle.serde_json.specs.Find.{as_str, as_object}
use Rattle.serde_json.specs.Written.{compact_text}
use Rattle.ov_specs.specs.wire.Frame.{frame, failure_tree}
use Rattle.ov_specs.specs.locks.Queues.{LockCall, lock_name}
use Rattle.ov_specs.specs.values.Uuid.{is_id}
use Rattle.ov_specs.specs.monitors.Monitors.{added}
use Rattle.ov_specs.specs.machine.Machine.{State, Outstanding, Work, Transact, answered, refused, is_request, is_waiting, waiting_of, most_waiting, call_of, transact_work, transact_call, transact_call_on, schema_call_on, lock_call, lock_call_on, monitors_of, monitor_work, monitor_call, monitor_call_on, monitor_cancel_call}
use Rattle.ov_requests.specs.Waiting.{has_text}
use Rattle.ov_requests.specs.Asked.{IsWork}
use Rattle.ov_requests.specs.Params.{is_one_item, are_three_items}
use Rattle.ov_requests.specs.declared.answer.Work as code
use Rattle.ov_requests.specs.declared.answer.Work.TheVariants as kinds

-- a refusal is the work, if the work is refused with this text
pub refused_asked : (s : State) (session : ℕ) (id : Data) (text : List ℕ) (asked : Work) (w : code.Work) → w ≡ kinds.Answer (Some (frame (failure_tree id text))) → asked ≡ refused id text → IsWork s session asked w
refused_asked s session id text asked w is same = rw (is, same) refl

-- work that is the same
pub asked_so : (s : State) (session : ℕ) (a b : Work) (w : code.Work) → a ≡ b → IsWork s session b w → IsWork s session a w
asked_so s session a b w same is = subst (λ (x : Work). IsWork s session x w) (sym same) is

-- ---- names

pub eq_at : (a b n : List ℕ) (r : Bool) → r ≡ bytes_eq a b → b ≡ n → bytes_eq a n ≡ r
eq_at a b n r r_is is = ap (bytes_eq a) (sym is) ∙ sym r_is

is_false : (b : Bool) → true ≡ not b → b ≡ false
is_false true h = cc
is_false false h = refl

pub ne_at : (a b n : List ℕ) → true ≡ not (bytes_eq a b) → b ≡ n → bytes_eq a n ≡ false
ne_at a b n ne is = ap (bytes_eq a) (sym is) ∙ is_false (bytes_eq a b) ne

not_same : (r : Bool) (a b : List ℕ) → Decides r (a ≡ b) → a ≢ b → r ≡ false
not_same true a b tells other = absurd (other (tells.0 refl))
not_same false a b tells other = refl

differs : (a b : List ℕ) → a ≢ b → bytes_eq a b ≡ false
differs a b other = not_same (bytes_eq a b) a b (bytes_eq-Decides a b) other

-- a method that is none of these
pub unknown_method : (s : State) (session : ℕ) (id : Data) (method : List ℕ) (params : Items)
    → method ≢ codes "list_dbs"
    → method ≢ codes "get_schema"
    → method ≢ codes "transact"
    → bytes_eq method (codes "echo") ≡ false
    → method ≢ codes "lock"
    → method ≢ codes "steal"
    → method ≢ codes "unlock"
    → method ≢ codes "monitor"
    → method ≢ codes "monitor_cancel"
    → call_of s session id method params ≡ refused id (codes "unknown method")
unknown_method s session id method params not_list_dbs not_get_schema not_transact not_echo not_lock not_steal not_unlock not_monitor not_monitor_cancel =
    rw (differs method (codes "list_dbs") not_list_dbs, differs method (codes "get_schema") not_get_schema, differs method (codes "transact") not_transact, not_echo, differs method (codes "lock") not_lock, differs method (codes "steal") not_steal, differs method (codes "unlock") not_unlock, differs method (codes "monitor") not_monitor, differs method (codes "monitor_cancel") not_monitor_cancel) refl

-- ---- transactions

-- whether a transaction waits, by the text of its id
pub waiting_by_text : (s : State) (session : ℕ) (id : Data) (text : List ℕ) (waiting : List Outstanding) (r : Bool) → s.outstanding ≡ waiting → text ≡ compact_text id → r ≡ list_any (has_text session text) waiting → is_waiting s session id ≡ r
waiting_by_text s session id text waiting r same text_is r_is =
    ap (list_any (is_request session id)) same ∙ (ap (λ (t : List ℕ). list_any (has_text session t) waiting) (sym text_is) ∙ sym r_is)

pub transact_duplicate : (s : State) (session : ℕ) (id : Data) (operations : Items) → is_waiting s session id ≡ true → transact_work s session id operations ≡ refused id (codes "duplicate request id")
transact_duplicate s session id operations waits =
    ap (λ (b : Bool). if b then refused id (codes "duplicate request id") else (if nat_le most_waiting (waiting_of session s) then refused id (codes "resources exhausted") else Transact id operations)) waits

pub transact_exhausted : (s : State) (session : ℕ) (id : Data) (operations : Items) → is_waiting s session id ≡ false → nat_le most_waiting (waiting_of session s) ≡ true → transact_work s session id operations ≡ refused id (codes "resources exhausted")
transact_exhausted s session id operations waits many =
    ap (λ (b : Bool). if b then refused id (codes "duplicate request id") else (if nat_le most_waiting (waiting_of session s) then refused id (codes "resources exhausted") else Transact id operations)) waits
    ∙ ap (λ (b : Bool). if b then refused id (codes "resources exhausted") else Transact id operations) many

is_many : (n : ℕ) → 64 ≤ n → nat_le 64 n ≡ true
is_many n many = grind (arith, nat_tests)

pub many_waiting : (s : State) (session : ℕ) (waiting : List Outstanding) (n : ℕ) → s.outstanding ≡ waiting → n ≡ length (filter (λ o. o.session == session) waiting) → 64 ≤ n → nat_le most_waiting (waiting_of session s) ≡ true
many_waiting s session waiting n same count many = ap (λ (w : List Outstanding). nat_le most_waiting (length (filter (λ o. o.session == session) w))) same ∙ (ap (nat_le 64) (sym count) ∙ is_many n many)

-- the database that a call names
pub transact_named : (s : State) (session : ℕ) (id d : Data) (params operations : Items) (o : Option (List ℕ)) → params ≡ item d operations → as_str d ≡ o → transact_call s session id params ≡ transact_call_on s session id o operations
transact_named s session id d params operations o is name = ap (transact_call s session id) is ∙ ap (λ (n : Option (List ℕ)). transact_call_on s session id n operations) name

pub transact_here : (s : State) (session : ℕ) (id : Data) (name : List ℕ) (operations : Items) → bytes_eq name s.schema.name ≡ true → transact_call_on s session id (Some name) operations ≡ transact_work s session id operations
transact_here s session id name operations same = ap (λ (b : Bool). if b then transact_work s session id operations else refused id (codes "unknown database")) same

pub transact_elsewhere : (s : State) (session : ℕ) (id : Data) (name : List ℕ) (operations : Items) → bytes_eq name s.schema.name ≡ false → transact_call_on s session id (Some name) operations ≡ refused id (codes "unknown database")
transact_elsewhere s session id name operations other = ap (λ (b : Bool). if b then transact_work s session id operations else refused id (codes "unknown database")) other

-- ---- locks

pub lock_params : (s : State) (session : ℕ) (id : Data) (call : LockCall) (params : Items) → is_one_item params ≡ false → lock_call s session id call params ≡ refused id (codes "syntax error")
lock_params s session id call no_items few = refl
lock_params s session id call (item d no_items) few = cc
lock_params s session id call (item d (item e items)) few = refl

pub lock_named : (s : State) (session : ℕ) (id : Data) (call : LockCall) (params : Items) (d : Data) (o : Option (List ℕ)) → params ≡ item d no_items → as_str d ≡ o → lock_call s session id call params ≡ lock_call_on s session id call (lock_name o)
lock_named s session id call params d o is name = ap (lock_call s session id call) is ∙ ap (λ (n : Option (List ℕ)). lock_call_on s session id call (lock_name n)) name

pub lock_unnamed : (s : State) (session : ℕ) (id : Data) (call : LockCall) (name : List ℕ) → false ≡ is_id name → lock_call_on s session id call (lock_name (Some name)) ≡ refused id (codes "syntax error")
lock_unnamed s session id call name other = ap (λ (b : Bool). lock_call_on s session id call (if b then Some name else None)) (sym other)

-- ---- monitors

pub monitor_params : (s : State) (session : ℕ) (id : Data) (params : Items) → are_three_items params ≡ false → monitor_call s session id params ≡ refused id (codes "syntax error")
monitor_params s session id no_items few = refl
monitor_params s session id (item d no_items) few = refl
monitor_params s session id (item d (item e no_items)) few = refl
monitor_params s session id (item d (item e (item f no_items))) few = cc
monitor_params s session id (item d (item e (item f (item g items)))) few = refl

pub monitor_requests : (s : State) (session : ℕ) (id d name requests : Data) (params : Items) (b : Bool) → params ≡ item d (item name (item requests no_items)) → is_some (as_object requests) ≡ b → monitor_call s session id params ≡ (if b then monitor_call_on s session id (as_str d) name requests else refused id (codes "syntax error"))
monitor_requests s session id d name requests params b is object = ap (monitor_call s session id) is ∙ ap (λ (o : Bool). if o then monitor_call_on s session id (as_str d) name requests else refused id (codes "syntax error")) object

pub monitor_elsewhere : (s : State) (session : ℕ) (id : Data) (database : List ℕ) (name requests : Data) → bytes_eq database s.schema.name ≡ false → monitor_call_on s session id (Some database) name requests ≡ refused id (codes "unknown database")
monitor_elsewhere s session id database name requests other =
    ap (λ (b : Bool). if b then monitor_work s id name (added s.schema (monitors_of session s) name requests) else refused id (codes "unknown database")) other

pub monitor_here : (s : State) (session : ℕ) (id : Data) (database : List ℕ) (name requests : Data) → bytes_eq database s.schema.name ≡ true → monitor_call_on s session id (Some database) name requests ≡ monitor_work s id name (added s.schema (monitors_of session s) name requests)
monitor_here s session id database name requests same =
    ap (λ (b : Bool). if b then monitor_work s id name (added s.schema (monitors_of session s) name requests) else refused id (codes "unknown database")) same

pub cancel_params : (s : State) (session : ℕ) (id : Data) (params : Items) → is_one_item params ≡ false → monitor_cancel_call s session id params ≡ refused id (codes "syntax error")
cancel_params s session id no_items few = refl
cancel_params s session id (item d no_items) few = cc
cancel_params s session id (item d (item e items)) few = refl

-- ---- the schema

pub schema_elsewhere : (s : State) (id : Data) (name : List ℕ) → bytes_eq name s.schema.name ≡ false → schema_call_on s id (Some name) ≡ refused id (codes "unknown database")
schema_elsewhere s id name other = ap (λ (b : Bool). if b then answered id s.schema.tree else refused id (codes "unknown database")) other
