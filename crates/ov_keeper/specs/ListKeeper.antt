-- What a keeper in memory holds.
use Rattle.std.specs.Prelude.{◌≡◌, List, map, refl}
use Rattle.std.specs.FinMap.{from_entries}
use Rattle.ov_specs.specs.rows.Cells.{CellLines, Stored, rewritten}
use Rattle.ov_keeper.specs.declared.cell_line.CellLine.{CellLine}
use Rattle.ov_keeper.specs.declared.list.ListKeeper.{ListKeeper}
use Rattle.ov_keeper.specs.Views.{changes_view, cell_line_entry}

-- what the keeper holds
abbrev pub contents_of : ListKeeper → Stored
contents_of keeper = rewritten keeper.schema (changes_view keeper.made.items)

-- an open of the keeper finds exactly these contents
abbrev pub finds : ListKeeper → Stored → Type 0
finds keeper held = held ≡ contents_of keeper

-- the rows of a list, by their keys
abbrev pub lines_of : List CellLine → CellLines
lines_of lines = from_entries (map cell_line_entry lines)

-- an open finds exactly these contents, so it finds some
pub some_contents : (contents : Stored) → ∥ ((held : Stored) × (held ≡ contents)) ∥₁
some_contents contents = ∣ (contents, refl) ∣₁
