-- How a request for a monitor changes the watchers, step by step.
use Rattle.std.proofs.Common.{◌≡◌, ℕ, ◌≤◌, ◌<◌, nat_le, List, length, true, false, Option, Some, None, is_some, refl, ap, ◌∙◌, arith}
use Rattle.std.proofs.lemmas.Bool.Decides.{nat_tests}
use Rattle.std.specs.Prelude.{Result, Err}
use Rattle.std.specs.List.{list_any}
use Rattle.serde_json.specs.Data.{Data}
use Rattle.ov_specs.specs.monitors.Monitors.{Monitor, is_named, with_monitor, added_of, added}
use Rattle.ov_specs.specs.monitors.Requests as spec
use Rattle.ov_specs.specs.monitors.Requests.{TableRequests, MonitoredTable, MonitorFault, requests_read, monitored_tables}
use Rattle.ov_specs.specs.schema.SchemaTypes.{Schema}
use Rattle.ov_watch.specs.declared.fault.WatchFault.{WatchFault}
use Rattle.ov_watch.specs.declared.fault.WatchFault.TheVariants.{Syntax, UnknownTable, UnknownColumn, Duplicate, Unknown, Limit, Memory}
use Rattle.ov_watch.specs.Views.{IsWatchResult}

is_full : (n : ℕ) → 64 ≤ n → nat_le 64 n ≡ true
is_full n h = grind (arith, nat_tests, h)

has_room : (n : ℕ) → n < 64 → nat_le 64 n ≡ false
has_room n h = grind (arith, nat_tests, h)

module _ (schema : Schema) (monitors : List Monitor) (id requests : Data) (asked : List TableRequests) (read : requests_read requests ≡ Some asked) where
  of_asked : added schema monitors id requests ≡ added_of schema monitors id (Some asked)
  of_asked = ap (added_of schema monitors id) read

  pub duplicate : list_any (is_named id) monitors ≡ true → added schema monitors id requests ≡ Err spec.Duplicate
  duplicate there = of_asked ∙ rw there refl

  pub full : list_any (is_named id) monitors ≡ false → 64 ≤ length monitors → added schema monitors id requests ≡ Err spec.Limit
  full absent many = of_asked ∙ rw (absent, is_full (length monitors) many) refl

  pub judged : list_any (is_named id) monitors ≡ false → length monitors < 64 → added schema monitors id requests ≡ with_monitor monitors id (monitored_tables schema asked)
  judged absent few = of_asked ∙ rw (absent, has_room (length monitors) few) refl

-- a fault of the tables is the fault of the whole
pub refused : {A B : Type 0} (seen : A → List Monitor) (tables_seen : B → List MonitoredTable) (monitors : List Monitor) (id : Data) (tables : Result (List MonitoredTable) MonitorFault) (all : Result (List Monitor) MonitorFault) (fault : WatchFault)
    → all ≡ with_monitor monitors id tables → IsWatchResult tables_seen tables (Err fault) → IsWatchResult seen all (Err fault)
refused seen tables_seen monitors id tables all Syntax is h = is ∙ ap (with_monitor monitors id) h
refused seen tables_seen monitors id tables all UnknownTable is h = is ∙ ap (with_monitor monitors id) h
refused seen tables_seen monitors id tables all UnknownColumn is h = is ∙ ap (with_monitor monitors id) h
refused seen tables_seen monitors id tables all Duplicate is h = is ∙ ap (with_monitor monitors id) h
refused seen tables_seen monitors id tables all Unknown is h = is ∙ ap (with_monitor monitors id) h
refused seen tables_seen monitors id tables all Limit is h = is ∙ ap (with_monitor monitors id) h
refused seen tables_seen monitors id tables all Memory is h = tt

pub not_there : {X : Type 0} (o : Option X) → is_some o ≡ false → o ≡ None
not_there None h = refl
not_there (Some x) h = cc
