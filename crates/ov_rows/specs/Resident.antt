-- Rows and databases as models store them.
use Rattle.std.specs.Prelude.{ℕ, List, String, refl}
use Rattle.std.specs.declared.alloc.Global.{Global}
use Rattle.std.specs.Coded.{Coded, code_by, coded×, coded_ℕ, coded_list}
use Rattle.std.specs.FinMap as map
use Rattle.ov_specs.specs.rows.Database.{Columns, Database, Row}
use Rattle.ov_specs.specs.rows.Lines.{LineKey, line_cmp}
use Rattle.ov_specs.specs.codes.ValueCode.{datum_code}
use Rattle.ov_specs.specs.values.Uuid.{Uuid}
use Rattle.ov_rows.specs.Named.{named}
use Rattle.ov_rows.specs.Nested.{OfTable, TableRows, id_cmp, all_rows}

-- the rows of an ascending list
abbrev pub database_of : List (LineKey × Row) → Database
database_of es = map.from_sorted {R = line_cmp} es

-- the rows of a table, of an ascending list
abbrev pub table_rows_of : {V : Type 0} → List (Uuid × V) → OfTable V
table_rows_of es = map.from_sorted {R = id_cmp} es

-- the rows of all tables, of an ascending list of them
abbrev pub nested_of : {V : Type 0} → List (String Global × OfTable V) → map.FinMap line_cmp V
nested_of ts = map.from_sorted {R = line_cmp} (all_rows (named ts))

-- ---- how a model stores them

-- columns as a map
abbrev pub columns_code : Coded Columns
columns_code = map.code (coded_list coded_ℕ) datum_code

-- a row as a pair
abbrev pub row_code : Coded Row
row_code =
    code_by (List ℕ × Columns) (coded× (coded_list coded_ℕ) columns_code) (λ r. (r.version, r.columns))
    (λ p. record { version = p.0; columns = p.1 }) (λ _. refl)

-- a database as a map
abbrev pub database_code : Coded Database
database_code = map.code (coded× (coded_list coded_ℕ) (coded_list coded_ℕ)) row_code

-- the rows of a table as a map
abbrev pub table_rows_code : Coded TableRows
table_rows_code = map.code (coded_list coded_ℕ) row_code
