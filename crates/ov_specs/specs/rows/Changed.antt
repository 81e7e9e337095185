-- A database before and after changes of its rows.
use Rattle.std.specs.Prelude.{◌≡◌, List, Option, unwrap_or}
use Rattle.std.specs.FinMap.{get, from_sorted}
use Rattle.ov_specs.specs.rows.Database.{Row, Database}
use Rattle.ov_specs.specs.rows.Lines.{LineKey, line_cmp}

-- each change gives the row at its key, or none, and all other rows are as before; the changes are in ascending order
abbrev pub IsAfter : List (LineKey × Option Row) → Database → Database → Type 0
IsAfter changes before after =
    (key : LineKey) → get after key ≡ unwrap_or (get (from_sorted {R = line_cmp} changes) key) (get before key)
