-- The monitors of the sessions, as contracts see them.
use Rattle.std.specs.Prelude.{◌≡◌, ℕ, ◌==◌, List, [], unwrap_or, if◌then◌else◌, Result, Ok, Err}
use Rattle.std.specs.BTreeMap.{is_at}
use Rattle.std.specs.Coded.{Coded, coded×, coded_ℕ, coded_list}
use Rattle.std.specs.Map.{lookup}
use Rattle.std.specs.Ordering.{nat_cmp}
use Rattle.ov_specs.specs.codes.MonitorCode.{monitor_code}
use Rattle.ov_specs.specs.monitors.Monitors.{Monitor}
use Rattle.ov_specs.specs.monitors.Requests.{MonitorFault}
use Rattle.ov_watch.specs.declared.fault.WatchFault.{WatchFault}
use Rattle.ov_watch.specs.Views.{IsWatchResult}

-- the monitors of each session that has, or had, any, by its serial
abbrev pub Watching : Type 0
Watching = List (ℕ × List Monitor)

-- those of one session, in order of creation
abbrev pub monitors_at : ℕ → Watching → List Monitor
monitors_at session watching = unwrap_or (lookup (is_at (nat_cmp session)) watching) []

-- the session then has these monitors, and each other session those that it had
abbrev pub WatchesWith : ℕ → List Monitor → Watching → Watching → Type 0
WatchesWith session monitors old new =
    (other : ℕ) → monitors_at other new ≡ (if other == session then monitors else monitors_at other old)

-- each session has the same monitors
abbrev pub SameWatching : Watching → Watching → Type 0
SameWatching old new = (other : ℕ) → monitors_at other new ≡ monitors_at other old

-- The session has the monitors that are given. If a fault is given instead, or an allocation failed, nothing is changed.
abbrev pub WatchesAsGiven : ℕ → Result (List Monitor) MonitorFault → Watching → Result (Unit {0}) WatchFault → Watching → Type 0
WatchesAsGiven session given old (Ok _) new =
    (monitors : List Monitor) × (given ≡ Ok monitors) × WatchesWith session monitors old new
WatchesAsGiven session given old (Err fault) new = IsWatchResult {A = Unit {0}} (λ _. []) given (Err fault) × (new ≡ old)

-- how a model stores the monitors of the sessions
abbrev pub watching_code : Coded Watching
watching_code = coded_list (coded× coded_ℕ (coded_list monitor_code))
