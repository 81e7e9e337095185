-- What is shown of borrowed rows, for private clauses.
use Rattle.std.specs.Prelude.{ℕ, List, []}
use Rattle.ov_rows.specs.Lending.{lent_row_of}
use Rattle.ov_rows.specs.declared.row_view.RowView.{RowView}
use Rattle.ov_specs.specs.operations.Select.{projection}
use Rattle.ov_specs.specs.values.Value.{Datum}

-- these columns of the row; none of them holds the name of its table
abbrev pub shown_of : List (List ℕ) → RowView → List (List ℕ × Datum)
shown_of names r = projection names (lent_row_of [] r)
