-- The values of a row, which does not store those that are their columns' defaults.
use Rattle.std.specs.Prelude.{ℕ, ◌%◌, ◌/◌, ◌==◌, List, [], ◌∷◌, Option, Some, None, if◌then◌else◌}
use Rattle.ov_specs.specs.values.Value.{Datum}

-- The values of the columns that have these defaults. Each column has a bit of the marks, the lowest for the first: a column
-- whose bit is set has its default, and any other the next of the row's own. Own values that are left follow.
abbrev pub spread : ℕ → List Datum → List Datum → List Datum
spread marks [] own = own
spread marks (default ∷ defaults) [] = if marks % 2 == 1 then default ∷ spread (marks / 2) defaults [] else []
spread marks (default ∷ defaults) (datum ∷ own) =
    if marks % 2 == 1 then default ∷ spread (marks / 2) defaults (datum ∷ own) else datum ∷ spread (marks / 2) defaults own

-- the values that have no mark
abbrev pub own_among : ℕ → List Datum → List Datum
own_among marks [] = []
own_among marks (datum ∷ values) = if marks % 2 == 1 then own_among (marks / 2) values else datum ∷ own_among (marks / 2) values

-- a value before others; nothing if there is no such value
abbrev pub before : Option Datum → List Datum → List Datum
before None rest = []
before (Some datum) rest = datum ∷ rest
