-- The functions, the parts of a condition and the faults of the code, as those of the definitions.
use Rattle.std.specs.Prelude.{◌≡◌, Result, Ok, Err}
use Rattle.serde_json.specs.View.{view}
use Rattle.ov_specs.specs.operations.Conditions as conditions
use Rattle.ov_atoms.specs.declared.fault.AtomFault.{AtomFault}
use Rattle.ov_atoms.specs.declared.fault.AtomFault.TheVariants as atom
use Rattle.ov_conds.specs.declared.fault.ConditionFault.{ConditionFault}
use Rattle.ov_conds.specs.declared.fault.ConditionFault.TheVariants.{Syntax, UnknownColumn, Memory, Clash}
use Rattle.ov_conds.specs.declared.function.Function.{Function}
use Rattle.ov_conds.specs.declared.function.Function.TheVariants as function
use Rattle.ov_conds.specs.declared.triple.Triple.{Triple}

-- a function
abbrev pub function_view : Function → conditions.Function
function_view function.Less = conditions.Less
function_view function.LessOrEqual = conditions.LessOrEqual
function_view function.Greater = conditions.Greater
function_view function.GreaterOrEqual = conditions.GreaterOrEqual
function_view function.Equal = conditions.Equal
function_view function.NotEqual = conditions.NotEqual
function_view function.Includes = conditions.Includes
function_view function.Excludes = conditions.Excludes

-- the parts of a condition
abbrev pub triple_view : Triple → conditions.Triple
triple_view t = record { column = t.column.now; word = t.word.now; value = view t.value.now }

-- why a value cannot be read, as the fault of its condition
abbrev pub fault_of : AtomFault → ConditionFault
fault_of atom.Syntax = Syntax
fault_of atom.Clash = Clash
fault_of atom.Memory = Memory

-- what is read, or the fault instead; "out of memory" may be returned in any case
abbrev pub IsConditionRead : {A : Type 0} → Result A conditions.ConditionFault → Result A ConditionFault → Type 0
IsConditionRead read (Ok a) = read ≡ Ok a
IsConditionRead read (Err Syntax) = read ≡ Err conditions.BadCondition
IsConditionRead read (Err UnknownColumn) = read ≡ Err conditions.NoColumn
IsConditionRead read (Err Clash) = read ≡ Err conditions.Clash
IsConditionRead read (Err Memory) = Unit {0}
