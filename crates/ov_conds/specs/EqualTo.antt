-- The value that a condition asks for in a column.
use Rattle.std.specs.Prelude.{◌≡◌, true, if◌then◌else◌, List, ℕ, Option, Some, None}
use Rattle.std.specs.Str.{bytes_eq}
use Rattle.ov_specs.specs.operations.Conditions.{Condition, Function, Equal, holds, entry_value}
use Rattle.ov_specs.specs.rows.Database.{Row}
use Rattle.ov_specs.specs.rows.Lines.{LineKey}
use Rattle.ov_specs.specs.values.Value.{Datum}

-- the value, if a column is to be equal to it
abbrev pub equal_value : Function → Datum → Option Datum
equal_value Equal value = Some value
equal_value f value = None

-- the value that the column of this name is to be equal to
abbrev pub equals : List ℕ → Condition → Option Datum
equals column c = if bytes_eq c.column column then equal_value c.function c.value else None

-- each row that meets the condition has this value in the column of this name
abbrev pub IsValueIn : List ℕ → Datum → Condition → Type 0
IsValueIn column value c = (row : LineKey × Row) → holds (entry_value row) c ≡ true → entry_value row column ≡ Some value
