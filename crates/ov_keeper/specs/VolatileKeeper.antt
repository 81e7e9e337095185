-- What an open of a keeper without a device finds.
use Rattle.std.specs.Prelude.{◌≡◌, ℕ, List}
use Rattle.ov_specs.specs.rows.Cells.{CellLines, Stored, InCells}

-- what the keeper holds, by the text of its schema and its rows
abbrev pub contents_of : List ℕ × CellLines → Stored
contents_of (schema, lines) = record { schema = schema; lines = InCells lines }

-- an open finds exactly that
abbrev pub finds : List ℕ × CellLines → Stored → Type 0
finds keeper held = held ≡ contents_of keeper
