-- What a message asks for, in the code as in the definitions.
use Rattle.std.specs.Prelude.{◌≡◌, ℕ, map, option_to_list}
use Rattle.serde_json.specs.Written.{compact_text}
use Rattle.ov_specs.specs.wire.Frame.{frame}
use Rattle.ov_specs.specs.locks.Queues.{call_refusal}
use Rattle.ov_specs.specs.machine.Machine.{State, Work, Answers, Transact, Cancels, Locks, unless_refused, monitors_of, monitor_work, monitor_cancel_work}
use Rattle.ov_specs.specs.monitors.Monitors.{added, canceled}
use Rattle.ov_locks.specs.Calls.{lock_call_view}
use Rattle.ov_requests.specs.declared.answer.Work as code
use Rattle.ov_requests.specs.declared.answer.Work.TheVariants as kinds

-- The work of the code, of a session in a state, is what the machine is asked for: its frame is the machine's answer, or it
-- is the same transaction, or to cancel the one with the same id; a call on a lock or a monitor is refused if the machine
-- refuses it.
abbrev pub IsWork : State → ℕ → Work → code.Work → Type 0
IsWork s session (Answers trees) (kinds.Answer bytes) = map frame trees ≡ option_to_list bytes
IsWork s session asked (kinds.Answer bytes) = ⊥
IsWork s session asked (kinds.Transact id operations) = asked ≡ Transact id operations
IsWork s session asked (kinds.Cancel id text) = (asked ≡ Cancels id) × (text ≡ compact_text id)
IsWork s session asked (kinds.Lock call id name) =
    asked ≡ unless_refused id (call_refusal (lock_call_view call) name session s.queues) (Locks (lock_call_view call) id name)
IsWork s session asked (kinds.Monitor id name requests) =
    asked ≡ monitor_work s id name (added s.schema (monitors_of session s) name requests)
IsWork s session asked (kinds.CancelMonitor id name) = asked ≡ monitor_cancel_work id (canceled (monitors_of session s) name)

-- nothing is drawn for it
abbrev pub IsWithoutDraws : code.Work → Type 0
IsWithoutDraws (kinds.Transact id operations) = ⊥
IsWithoutDraws work = Unit {0}
