-- Borrowed rows as those of the definitions.
use Rattle.std.specs.Prelude.{ℕ, List}
use Rattle.ov_specs.specs.rows.Database.{Row}
use Rattle.ov_specs.specs.rows.Lines.{LineKey}
use Rattle.ov_specs.specs.values.Uuid.{Uuid}
use Rattle.ov_rows.specs.declared.row_view.RowView.{RowView}

-- the row, with its identifier
abbrev pub lent_row : RowView → Uuid × Row
lent_row r = (r.id.now, r.row.now)

-- the row, with its key in the table of this name
abbrev pub lent_row_of : List ℕ → RowView → LineKey × Row
lent_row_of table r = ((table, r.id.now), r.row.now)
