-- What is answered when a lock or a monitor is refused.
use Rattle.std.proofs.Common.{◌≡◌, ◌≢◌, List, [], ℕ, Option, Some, Result, Err, refl, sym, ap, ◌∙◌}
use Rattle.std.specs.Prelude.{IfSome}
use Rattle.ov_locks.specs.Refusing.{fault_text}
use Rattle.ov_locks.specs.declared.fault.LockFault.{LockFault}
use Rattle.ov_locks.specs.declared.fault.LockFault.TheVariants as lock
use Rattle.ov_specs.specs.monitors.Monitors.{Monitor}
use Rattle.ov_specs.specs.monitors.Requests.{MonitorFault, monitor_fault_text}
use Rattle.ov_specs.specs.monitors.Requests as spec
use Rattle.ov_watch.specs.Views.{IsWatchResult, fault_view}
use Rattle.ov_watch.specs.declared.fault.WatchFault.{WatchFault}
use Rattle.ov_watch.specs.declared.fault.WatchFault.TheVariants as watch

-- the text of a lock's fault is why the call is refused
pub lock_refused : (fault : LockFault) (refusal : Option (List ℕ)) (text : List ℕ) → fault ≢ lock.Memory → IfSome (fault_text fault) (λ t. refusal ≡ Some t) → IfSome (fault_text fault) (λ t. text ≡ t) → refusal ≡ Some text
lock_refused lock.AlreadyRequested refusal text other why is = why ∙ ap Some (sym is)
lock_refused lock.NotHeld refusal text other why is = why ∙ ap Some (sym is)
lock_refused lock.Limit refusal text other why is = why ∙ ap Some (sym is)
lock_refused lock.Memory refusal text other why is = absurd (other refl)

-- that of a monitor's fault is the text of the fault that is given
pub monitor_refused : (fault : WatchFault) (given : Result (List Monitor) MonitorFault) (text : List ℕ) → fault ≢ watch.Memory → IsWatchResult {A = Unit {0}} (λ _. []) given (Err fault) → IfSome (fault_view fault) (λ f. text ≡ monitor_fault_text f)
    → (f : MonitorFault) × (given ≡ Err f) × (text ≡ monitor_fault_text f)
monitor_refused watch.Syntax given text other why is = (spec.Syntax, why, is)
monitor_refused watch.UnknownTable given text other why is = (spec.UnknownTable, why, is)
monitor_refused watch.UnknownColumn given text other why is = (spec.UnknownColumn, why, is)
monitor_refused watch.Duplicate given text other why is = (spec.Duplicate, why, is)
monitor_refused watch.Unknown given text other why is = (spec.Unknown, why, is)
monitor_refused watch.Limit given text other why is = (spec.Limit, why, is)
monitor_refused watch.Memory given text other why is = absurd (other refl)
