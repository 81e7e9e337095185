-- Worked steps and runs of the machine, by computation.
use Rattle.std.proofs.Common.{◌≡◌, ◌∷◌, [], List, ℕ, codes, Option, Some, None, refl, option_map}
use Rattle.std.specs.Fmt.{digits}
use Rattle.serde_json.proofs.OnLiterals.{serde_json_on_literals}
use Rattle.std.specs.FinMap.{empty}
use Rattle.ov_specs.specs.schema.SchemaTypes.{Schema}
use Rattle.serde_json.specs.Data.{null, number, unsigned, string, object, no_members, item, no_items}
use Rattle.ov_specs.specs.wire.Message.{Message, Call, Notification}
use Rattle.ov_specs.specs.wire.Frame.{frame, notification_tree}
use Rattle.ov_specs.specs.machine.Machine.{State, Event, Open, Take, Close, Tick, InputEnded, Memory, NoMemory, Committed, Entry, step, opening}
use Rattle.ov_specs.specs.machine.History.{run, out, requests, closed_by}

-- a schema of this name, without tables
abbrev pub net_schema : Schema
net_schema = record { name = codes "Net"; version = None; tables = empty; tree = null }

-- before any event, without rows
abbrev pub net : State
net = opening net_schema empty

-- with session 1 open
abbrev with_session : State
with_session = record net { sessions = record { serial = 1; monitors = [] } ∷ []; next = 2 }

abbrev pub at : ℕ → Event → Entry
at moment event = record { event = event; choice = record { moment = moment; draws = []; outcomes = [] } }

-- attempt 1 ran out of memory
abbrev without_memory : Event → Entry
without_memory event = record { event = event; choice = record { moment = 0; draws = []; outcomes = record { number = 1; outcome = NoMemory } ∷ [] } }

abbrev list_dbs : Message
list_dbs = Call (number (unsigned 0)) (codes "list_dbs") no_items

abbrev echo : Message
echo = Call (string (codes "x")) (codes "echo") (item (string (codes "a\"}")) (item (object no_members) no_items))

-- ---- a step of each event

pub open_takes_next_serial : step net (at 7 Open) ≡ Some (record { state = record with_session { moment = 7 }; sent = [] })
open_takes_next_serial = refl

pub close_ends_a_session : step with_session (at 0 (Close 1 InputEnded)) ≡ Some (record { state = record net { next = 2 }; sent = [] })
close_ends_a_session = refl

pub closed_sessions_are_not_closed_again : step net (at 0 (Close 1 InputEnded)) ≡ None
closed_sessions_are_not_closed_again = refl

pub tick_sets_the_moment : step with_session (at 50 Tick) ≡ Some (record { state = record with_session { moment = 50 }; sent = [] })
tick_sets_the_moment = refl

pub moments_do_not_go_back : step (record net { moment = 50 }) (at 49 Tick) ≡ None
moments_do_not_go_back = refl

pub notifications_are_not_answered : step with_session (at 0 (Take 1 (Notification (codes "m") no_items))) ≡ Some (record { state = with_session; sent = [] })
notifications_are_not_answered = refl

pub nothing_is_taken_of_a_closed_session : step net (at 0 (Take 1 list_dbs)) ≡ None
nothing_is_taken_of_a_closed_session = refl

pub want_of_memory_closes_the_session : step with_session (without_memory (Take 1 list_dbs)) ≡ Some (record { state = record net { next = 2 }; sent = [] })
want_of_memory_closes_the_session = refl

-- the store answers only what it was asked
pub no_store_call_no_outcome : step with_session (record { event = Take 1 list_dbs; choice = record { moment = 0; draws = []; outcomes = record { number = 1; outcome = Committed } ∷ [] } }) ≡ None
no_store_call_no_outcome = refl

-- there is no second attempt
pub no_second_attempt : step with_session (record { event = Take 1 list_dbs; choice = record { moment = 0; draws = []; outcomes = record { number = 2; outcome = NoMemory } ∷ [] } }) ≡ None
no_second_attempt = refl

-- nothing is drawn for an echo
pub no_draws_are_wanted : step with_session (record { event = Take 1 echo; choice = record { moment = 0; draws = [] ∷ []; outcomes = [] } }) ≡ None
no_draws_are_wanted = refl

-- nor when out of memory
pub no_draws_without_memory : step with_session (record { event = Take 1 echo; choice = record { moment = 0; draws = [] ∷ []; outcomes = record { number = 1; outcome = NoMemory } ∷ [] } }) ≡ None
no_draws_without_memory = refl

-- ---- runs, with their bytes out

abbrev bytes_out : List Entry → Option (List ℕ)
bytes_out history = option_map (λ t. out 1 t.sent) (run net history)

pub list_dbs_is_answered : bytes_out (at 0 Open ∷ at 0 (Take 1 list_dbs) ∷ []) ≡ Some (codes "{\"error\":null,\"id\":0,\"result\":[\"Net\"]}")
unfolding digits serde_json_on_literals
list_dbs_is_answered = refl

pub echo_is_answered : bytes_out (at 0 Open ∷ at 0 (Take 1 echo) ∷ []) ≡ Some (codes "{\"error\":null,\"id\":\"x\",\"result\":[\"a\\\"}\",{}]}")
unfolding digits serde_json_on_literals
echo_is_answered = refl

-- nothing comes between two frames
pub both_are_answered : bytes_out (at 0 Open ∷ at 3 (Take 1 list_dbs) ∷ at 3 (Take 1 echo) ∷ at 9 (Close 1 InputEnded) ∷ []) ≡ Some (codes "{\"error\":null,\"id\":0,\"result\":[\"Net\"]}{\"error\":null,\"id\":\"x\",\"result\":[\"a\\\"}\",{}]}")
unfolding digits serde_json_on_literals
both_are_answered = refl

pub other_methods_are_unknown : bytes_out (at 0 Open ∷ at 0 (Take 1 (Call (number (unsigned 1)) (codes "get_server_id") no_items)) ∷ []) ≡ Some (codes "{\"error\":\"unknown method\",\"id\":1,\"result\":null}")
unfolding digits serde_json_on_literals
other_methods_are_unknown = refl

-- a session that is opened again has a new serial
pub serials_are_not_used_again : option_map (λ t. t.state.sessions) (run net (at 0 Open ∷ at 0 (Close 1 InputEnded) ∷ at 0 Open ∷ [])) ≡ Some (record { serial = 2; monitors = [] } ∷ [])
serials_are_not_used_again = refl

pub requests_of_a_history : requests (at 0 Open ∷ at 0 (Take 1 list_dbs) ∷ at 0 (Take 2 echo) ∷ at 0 (Take 1 echo) ∷ []) 1 ≡ list_dbs ∷ echo ∷ []
requests_of_a_history = refl

pub cause_of_closing : closed_by net (at 0 Open ∷ at 0 (Take 1 list_dbs) ∷ at 0 (Close 1 InputEnded) ∷ []) 1 ≡ Some InputEnded
cause_of_closing = refl

pub memory_is_the_cause : closed_by net (at 0 Open ∷ without_memory (Take 1 list_dbs) ∷ []) 1 ≡ Some Memory
memory_is_the_cause = refl

-- another session is not closed by it
pub others_have_no_cause : closed_by net (at 0 Open ∷ at 0 Open ∷ at 0 (Close 1 InputEnded) ∷ []) 2 ≡ None
others_have_no_cause = refl

-- a session that is not open is not closed
pub no_cause_before_opening : closed_by net (at 0 (Close 1 InputEnded) ∷ []) 1 ≡ None
no_cause_before_opening = refl

-- ---- a notification's bytes

pub notification_bytes : frame (notification_tree (codes "locked") (item (string (codes "L")) no_items)) ≡ codes "{\"id\":null,\"method\":\"locked\",\"params\":[\"L\"]}"
unfolding digits serde_json_on_literals
notification_bytes = refl
