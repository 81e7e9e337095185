-- The text of a row's columns, which is the body of its line.
use Rattle.std.specs.Prelude.{◌≡◌, true, ℕ, List, ◌∷◌, map, Some}
use Rattle.std.specs.FinMap.{get, entries}
use Rattle.json.specs.Token.{Token, key}
use Rattle.serde_json.specs.Data.{Data}
use Rattle.ov_specs.specs.rows.Database.{Columns, object_of, written_column}
use Rattle.ov_specs.specs.values.Value.{Datum, Kinds, is_of}
use Rattle.ov_specs.specs.values.Writing.{tree}
use Rattle.ov_atoms.specs.Tokens.{tokens_of}

-- the object of all columns, each with its written value
abbrev pub body_of : Columns → Data
body_of columns = object_of (map written_column (entries columns))

-- each value is of some kinds, as in every table
abbrev pub AreOfKinds : Columns → Type 0
AreOfKinds columns =
    (name : List ℕ) (datum : Datum) → get columns name ≡ Some datum → (kinds : Kinds) × (is_of kinds datum ≡ true)

-- the tokens of one column; for private clauses
abbrev pub column_tokens : List ℕ × Datum → List Token
column_tokens column = key column.0 ∷ tokens_of (tree column.1)
