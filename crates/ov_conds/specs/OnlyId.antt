-- The identifier that a condition asks for: at most one row meets it.
use Rattle.std.specs.Prelude.{◌≡◌, true, if◌then◌else◌, Option, None, codes}
use Rattle.std.specs.Str.{bytes_eq}
use Rattle.ov_specs.specs.operations.Conditions.{Condition, Function, Equal, holds, entry_value}
use Rattle.ov_specs.specs.rows.Database.{Row}
use Rattle.ov_specs.specs.rows.Lines.{LineKey}
use Rattle.ov_specs.specs.values.Uuid.{Uuid}
use Rattle.ov_specs.specs.values.Value.{Datum}
use Rattle.ov_conds.specs.Compared.{elements_of, uuid_of}

-- the identifier that a column is to be equal to
abbrev pub equal_uuid : Function → Datum → Option Uuid
equal_uuid Equal value = uuid_of (elements_of value)
equal_uuid f value = None

-- the identifier that `_uuid` is to be equal to
abbrev pub only_id : Condition → Option Uuid
only_id c = if bytes_eq c.column (codes "_uuid") then equal_uuid c.function c.value else None

-- each row that meets the condition has this identifier
abbrev pub IsOnlyOf : Uuid → Condition → Type 0
IsOnlyOf id c = (row : LineKey × Row) → holds (entry_value row) c ≡ true → row.0.1 ≡ id
