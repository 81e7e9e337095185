-- What is shown of a row, column by column.
use Rattle.std.specs.Prelude.{ℕ, List, option_map, option_to_list}
use Rattle.ov_specs.specs.operations.Conditions.{entry_value}
use Rattle.ov_specs.specs.rows.Database.{Row}
use Rattle.ov_specs.specs.rows.Lines.{LineKey}
use Rattle.ov_specs.specs.values.Value.{Datum}

-- the row's column of this name with its value, if the row has one
abbrev pub shown_column : LineKey × Row → List ℕ → List (List ℕ × Datum)
shown_column r name = option_to_list (option_map (λ datum. (name, datum)) (entry_value r name))
