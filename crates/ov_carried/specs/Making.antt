-- Rows that are made by their keys, one after another; for private clauses.
use Rattle.std.specs.Prelude.{Option, Some, None, option_map}
use Rattle.std.specs.FinMap.{insert}
use Rattle.ov_specs.specs.rows.Database.{Row, Database}
use Rattle.ov_specs.specs.rows.Lines.{LineKey}

-- with this row at the key, if there is one
abbrev pub with_row : LineKey → Option Row → Database → Database
with_row key None rows = rows
with_row key (Some row) rows = insert rows key row

-- what is made of a key, under the key
abbrev pub keyed : (LineKey → Option Row) → LineKey → Option (LineKey × Row)
keyed made key = option_map (λ row. (key, row)) (made key)
