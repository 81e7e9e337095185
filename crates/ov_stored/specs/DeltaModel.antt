-- Changes of a database as a model stores them.
use Rattle.std.specs.Prelude.{List, Option}
use Rattle.std.specs.Coded.{Coded, coded×, coded_ℕ, coded_list, coded_option}
use Rattle.std.specs.FinMap as map
use Rattle.ov_specs.specs.rows.Database.{Row}
use Rattle.ov_specs.specs.rows.Lines.{LineKey, line_cmp}
use Rattle.ov_rows.specs.Resident.{row_code}
use Rattle.ov_stored.specs.Changing.{Delta}

-- the changes of an ascending list
abbrev pub delta_of : List (LineKey × Option Row) → Delta
delta_of es = map.from_sorted {R = line_cmp} es

-- changes as a map
abbrev pub delta_code : Coded Delta
delta_code = map.code (coded× (coded_list coded_ℕ) (coded_list coded_ℕ)) (coded_option row_code)
