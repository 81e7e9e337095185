-- Places for new rows, made before the rows are put there.
use Rattle.std.specs.Prelude.{◌≡◌, Some, None, true}
use Rattle.std.specs.FinMap.{get, contains_key}
use Rattle.ov_specs.specs.rows.Database.{Database, Row}
use Rattle.ov_specs.specs.rows.Lines.{LineKey}
use Rattle.ov_stored.specs.Changing.{Delta}

-- there is a row at each key that the changes give a row
abbrev pub HasPlacesFor : Delta → Database → Type 0
HasPlacesFor delta database = (key : LineKey) (row : Row) → get delta key ≡ Some (Some row) → contains_key database key ≡ true

-- the two have the same rows at all keys that are not changed
abbrev pub IsSameBeside : Delta → Database → Database → Type 0
IsSameBeside delta a b = (key : LineKey) → get delta key ≡ None → get b key ≡ get a key
