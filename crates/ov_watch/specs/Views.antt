-- Requests, objects and faults of the code as those of the definitions.
use Rattle.std.specs.Prelude.{◌≡◌, ℕ, List, Bool, true, false, Option, Some, None, unwrap_or, Result, Ok, Err, refl}
use Rattle.std.specs.Coded.{Coded, code_by}
use Rattle.serde_json.specs.Data.{Data, object, Members, no_members, member}
use Rattle.serde_json.specs.Find.{as_object}
use Rattle.ov_specs.specs.codes.TreeCode.{tree_code}
use Rattle.ov_specs.specs.monitors.Requests as spec
use Rattle.ov_watch.specs.declared.fault.WatchFault.{WatchFault}
use Rattle.ov_watch.specs.declared.fault.WatchFault.TheVariants as fault
use Rattle.ov_watch.specs.declared.request.ColumnChoice.{ColumnChoice}
use Rattle.ov_watch.specs.declared.request.ColumnChoice.TheVariants.{NotNamed, Named}
use Rattle.ov_watch.specs.declared.select.Kind.{Kind}
use Rattle.ov_watch.specs.declared.select.Kind.TheVariants as kind
use Rattle.ov_watch.specs.declared.select.MonitorSelect.{MonitorSelect}

-- ---- requests

-- which kinds of change are reported
abbrev pub select_view : MonitorSelect → spec.MonitorSelect
select_view s = record { initial = s.initial; insert = s.insert; delete = s.delete; modify = s.modify }

-- whether this one is reported
abbrev pub selects : Kind → spec.MonitorRequest → Bool
selects kind.Initial r = r.select.initial
selects kind.Insert r = r.select.insert
selects kind.Delete r = r.select.delete
selects kind.Modify r = r.select.modify

-- the named columns, or none if they are not named
abbrev pub column_choice_view : ColumnChoice → Option (List (List ℕ))
column_choice_view NotNamed = None
column_choice_view (Named names) = Some names.items

-- ---- objects

-- members as a model stores them: like those of an object
abbrev pub members_code : Coded Members
members_code = code_by Data tree_code object (λ d. unwrap_or (as_object d) no_members) (λ _. refl)

-- no member
abbrev pub has_no_members : Members → Bool
has_no_members no_members = true
has_no_members (member _ _ _) = false

-- ---- faults

-- the error that a client receives; a failed allocation is not reported to it
abbrev pub fault_view : WatchFault → Option spec.MonitorFault
fault_view fault.Syntax = Some spec.Syntax
fault_view fault.UnknownTable = Some spec.UnknownTable
fault_view fault.UnknownColumn = Some spec.UnknownColumn
fault_view fault.Duplicate = Some spec.Duplicate
fault_view fault.Unknown = Some spec.Unknown
fault_view fault.Limit = Some spec.Limit
fault_view fault.Memory = None

-- What is returned, or the fault instead; "out of memory" may be returned in any case.
abbrev pub IsWatchResult : {A B : Type 0} → (A → B) → Result B spec.MonitorFault → Result A WatchFault → Type 0
IsWatchResult seen given (Ok a) = given ≡ Ok (seen a)
IsWatchResult seen given (Err fault.Syntax) = given ≡ Err spec.Syntax
IsWatchResult seen given (Err fault.UnknownTable) = given ≡ Err spec.UnknownTable
IsWatchResult seen given (Err fault.UnknownColumn) = given ≡ Err spec.UnknownColumn
IsWatchResult seen given (Err fault.Duplicate) = given ≡ Err spec.Duplicate
IsWatchResult seen given (Err fault.Unknown) = given ≡ Err spec.Unknown
IsWatchResult seen given (Err fault.Limit) = given ≡ Err spec.Limit
IsWatchResult seen given (Err fault.Memory) = Unit {0}
