-- How the count of attempts rises: in the work on a message, in settling and in an event.
use Rattle.std.proofs.Common.{◌≡◌, ℕ, ◌+◌, ◌≤◌, List, length, refl, ap, ◌∙◌, false, Option, Some, None, arith}
use Rattle.std.specs.Prelude.{Result, Ok, Err}
use Rattle.ov_specs.specs.machine.Machine as machine
use Rattle.ov_specs.specs.machine.Machine.{State, Work, Answers, Transact, Cancels, Locks, Watches, unless_refused, monitor_work, monitor_cancel_work, monitors_of}
use Rattle.ov_specs.specs.locks.Queues.{call_refusal}
use Rattle.ov_specs.specs.monitors.Monitors.{Monitor, added, canceled}
use Rattle.ov_specs.specs.monitors.Requests.{MonitorFault}
use Rattle.serde_json.specs.Data.{Data}
use Rattle.ov_laws.specs.Attempts.{own_attempts, attempts_of, most_attempts}
use Rattle.ov_laws.specs.Making.{is_transaction}
use Rattle.ov_laws.proofs.Few.{event_few}
use Rattle.ov_requests.specs.Asked.{IsWork, IsWithoutDraws}
use Rattle.ov_requests.specs.declared.answer.Work as code
use Rattle.ov_requests.specs.declared.answer.Work.TheVariants as kinds
use Rattle.ov_live.specs.Counting.{RisesBy, CountsTries}

-- ---- the work on a message

-- one attempt was made, whatever its outcome
pub rises_by_one : (o : Option machine.Outcome) (old new : ℕ) → new ≡ old + 1 → RisesBy o 1 old new
rises_by_one None old new is = is
rises_by_one (Some machine.NoMemory) old new is = (omega (arith, is), omega (arith, is))
rises_by_one (Some machine.Committed) old new is = is
rises_by_one (Some machine.Exhausted) old new is = is
rises_by_one (Some machine.Failed) old new is = is

-- no attempt was made
pub rises_by_none : (o : Option machine.Outcome) (old new : ℕ) → new ≡ old → RisesBy o 0 old new
rises_by_none None old new is = omega (arith, is)
rises_by_none (Some machine.NoMemory) old new is = (omega (arith, is), omega (arith, is))
rises_by_none (Some machine.Committed) old new is = omega (arith, is)
rises_by_none (Some machine.Exhausted) old new is = omega (arith, is)
rises_by_none (Some machine.Failed) old new is = omega (arith, is)

-- the count rises by at most these attempts
rises_most : (o : Option machine.Outcome) (attempts old new : ℕ) → RisesBy o attempts old new → new ≤ old + attempts
rises_most None attempts old new is = omega (arith, is)
rises_most (Some machine.NoMemory) attempts old new is = is.1
rises_most (Some machine.Committed) attempts old new is = omega (arith, is)
rises_most (Some machine.Exhausted) attempts old new is = omega (arith, is)
rises_most (Some machine.Failed) attempts old new is = omega (arith, is)

-- a refusal, or work that asks for no transaction
plain_unless : (id : Data) (text : Option (List ℕ)) (w : Work) → is_transaction w ≡ false → is_transaction (unless_refused id text w) ≡ false
plain_unless id None w plain = plain
plain_unless id (Some text) w plain = refl

plain_monitor : (s : State) (id name : Data) (r : Result (List Monitor) MonitorFault) → is_transaction (monitor_work s id name r) ≡ false
plain_monitor s id name (Ok monitors) = refl
plain_monitor s id name (Err fault) = refl

plain_cancel : (id : Data) (r : Result (List Monitor) MonitorFault) → is_transaction (monitor_cancel_work id r) ≡ false
plain_cancel id (Ok monitors) = refl
plain_cancel id (Err fault) = refl

plain_answer : (s : State) (n : ℕ) (asked : Work) (bytes : Option (List ℕ)) → IsWork s n asked (kinds.Answer bytes) → is_transaction asked ≡ false
plain_answer s n (Answers trees) bytes is = refl
plain_answer s n (Transact id operations) bytes is = absurd is
plain_answer s n (Cancels id) bytes is = absurd is
plain_answer s n (Locks call id name) bytes is = absurd is
plain_answer s n (Watches id result monitors) bytes is = absurd is

-- work for which nothing is drawn asks for no transaction
pub undrawn_is_plain : (s : State) (n : ℕ) (asked : Work) (work : code.Work) → IsWork s n asked work → IsWithoutDraws work → is_transaction asked ≡ false
undrawn_is_plain s n asked (kinds.Answer bytes) is undrawn = plain_answer s n asked bytes is
undrawn_is_plain s n asked (kinds.Transact id operations) is undrawn = absurd undrawn
undrawn_is_plain s n asked (kinds.Cancel id text) is undrawn = ap is_transaction is.0
undrawn_is_plain s n asked (kinds.Lock call id name) is undrawn = ap is_transaction is ∙ plain_unless id (call_refusal _ name n s.queues) (Locks _ id name) refl
undrawn_is_plain s n asked (kinds.Monitor id name requests) is undrawn = ap is_transaction is ∙ plain_monitor s id name (added s.schema (monitors_of n s) name requests)
undrawn_is_plain s n asked (kinds.CancelMonitor id name) is undrawn = ap is_transaction is ∙ plain_cancel id (canceled (monitors_of n s) name)

pub undrawn_makes_none : (s : State) (n : ℕ) (asked : Work) (work : code.Work) → IsWork s n asked work → IsWithoutDraws work → own_attempts asked ≡ 0
undrawn_makes_none s n asked work is undrawn = rw (undrawn_is_plain s n asked work is undrawn) refl

-- ---- an event

-- the count rises by few
pub counts_few : (s : State) (c : machine.Choice) (event : machine.Event) (old new : ℕ) → CountsTries s c event old new → new ≤ old + most_attempts event (length s.outstanding)
counts_few s c machine.Open old new is = omega (arith, is)
counts_few s c (machine.Take n message) old new is =
    omega (arith, rises_most (machine.listed 1 c.outcomes).outcome (attempts_of s c (machine.Take n message)) old new is, event_few s c (machine.Take n message))
counts_few s c (machine.Close n cause) old new is = omega (arith, is)
counts_few s c machine.Tick old new is = omega (arith, is, event_few s c machine.Tick)
