-- The two stored formats: what their tables hold, and what it stands for.
use Rattle.std.specs.Prelude.{◌≡◌, ◌⊎◌, ◌&&◌, ◌-◌, ◌+◌, ℕ, ℤ, Bool, true, List, [], ◌∷◌, length, map, find, codes, unwrap_or, option_map, IsUtf8, if◌then◌else◌}
use Rattle.std.specs.List.{AllByRecursion, list_any}
use Rattle.std.specs.Ordering.{is_eq}
use Rattle.std.specs.FinMap.{from_entries}
use Rattle.sqlite.specs.declared.types.Value.TheVariants.{Int, Text, Blob}
use Rattle.sqlite.specs.Order.{Row, column, value_cmp}
use Rattle.sqlite_value.specs.Order.{bytes}
use Rattle.sqlite.specs.Tree.{Trees, rowid}
use Rattle.sqlite_trees.specs.Objects.{catalog_tree, number_in}
use Rattle.sqlite_schema.specs.Names.{same_name}
use Rattle.sqlite_catalog.specs.Listing.{is_table_row}
use Rattle.sqlite.specs.Effect.{Database}
use Rattle.ov_specs.specs.rows.Lines.{LineKey, LineBody, Lines}
use Rattle.ov_specs.specs.rows.Cells.{Head, Cell, CellLines, Stored, Whole, InCells, cell_lines, have_heads}
use Rattle.ov_tables.specs.Tables.{HasLineTables, HasCellTables}

-- a row with a number
abbrev pub HasNumber : Row → Type 0
HasNumber r = (n : ℤ) × (column r 0 ≡ Int n)

-- a row of a table of rows begins with its number, a table's name and an identifier
pub record IsKeyed (r : Row) : Type 0 where
  pub number : ℤ
  pub tbl : List ℕ
  pub id : List ℕ
  pub number_is : column r 0 ≡ Int number
  pub tbl_is : column r 1 ≡ Text tbl
  pub id_is : column r 2 ≡ Blob id
  pub named : IsUtf8 tbl
  pub id_sixteen : length id ≡ 16

-- the key of such a row
abbrev pub row_key : Row → LineKey
row_key r = (bytes (column r 1), bytes (column r 2))

-- a row of `line`: its number and key, the version and the body
pub record IsLine (r : Row) : Type 0 where
  pub keyed : IsKeyed r
  pub ver : List ℕ
  pub body : List ℕ
  pub ver_is : column r 3 ≡ Blob ver
  pub body_is : column r 4 ≡ Blob body
  pub ver_sixteen : length ver ≡ 16

-- the key and the rest of a row of `line`
abbrev pub entry : Row → LineKey × LineBody
entry r = (row_key r, (bytes (column r 3), bytes (column r 4)))

-- a row of `head`: its number and key, and the version
pub record IsHead (r : Row) : Type 0 where
  pub keyed : IsKeyed r
  pub ver : List ℕ
  pub ver_is : column r 3 ≡ Blob ver
  pub ver_sixteen : length ver ≡ 16

-- the line of `head` that a row is
abbrev pub head_of : Row → Head
head_of r = record { key = row_key r; version = bytes (column r 3) }

-- a row of `cell`: its number and key, the name of a column, and the body
pub record IsCell (r : Row) : Type 0 where
  pub keyed : IsKeyed r
  pub col : List ℕ
  pub body : List ℕ
  pub col_is : column r 3 ≡ Text col
  pub body_is : column r 4 ≡ Blob body
  pub col_named : IsUtf8 col

-- the line of `cell` that a row is
abbrev pub cell_of : Row → Cell
cell_of r = record { key = row_key r; column = bytes (column r 3); body = bytes (column r 4) }

-- the row of `meta` that names format n, which is 1 or 2, by its digit
pub record IsFormatRow (n : ℕ) (r : Row) : Type 0 where
  pub number : ℤ
  pub number_is : column r 0 ≡ Int number
  pub key : column r 1 ≡ Text (codes "format")
  pub value : column r 2 ≡ Blob ((48 + n) ∷ [])
  pub known : (n ≡ 1) ⊎ (n ≡ 2)

-- the row of `meta` that has the text of the schema
pub record IsSchemaRow (text : List ℕ) (r : Row) : Type 0 where
  pub number : ℤ
  pub number_is : column r 0 ≡ Int number
  pub key : column r 1 ≡ Text (codes "schema")
  pub value : column r 2 ≡ Blob text
  pub utf8 : IsUtf8 text

-- `meta` has these two rows and no others
pub record IsMeta (n : ℕ) (text : List ℕ) (rows : List Row) : Type 0 where
  pub first : Row
  pub second : Row
  pub all : rows ≡ first ∷ second ∷ []
  pub are : (IsFormatRow n first × IsSchemaRow text second)
      ⊎ (IsSchemaRow text first × IsFormatRow n second)

-- the row has the text of the schema
abbrev pub is_schema_row : Row → Bool
is_schema_row r = is_eq (value_cmp (column r 1) (Text (codes "schema")))

-- the schema's text that the rows of `meta` give
abbrev pub stored_schema : List Row → List ℕ
stored_schema rows = unwrap_or (option_map (λ r. bytes (column r 2)) (find is_schema_row rows)) []

-- the row names format 2
abbrev pub is_cells_row : Row → Bool
is_cells_row r =
    is_eq (value_cmp (column r 1) (Text (codes "format")))
    && is_eq (value_cmp (column r 2) (Blob ((48 + 2) ∷ [])))

-- the lines that the rows of `line` are
abbrev pub stored_lines : List Row → Lines
stored_lines rows = from_entries (map entry rows)

-- a row of the list of objects is that of the table of this name (SQLite: sqlite_schema)
abbrev pub lists_table : List ℕ → Row → Bool
lists_table name r = is_table_row r && same_name (bytes (column r 2)) name

-- the number of the tree of the table of this name, which is below that of its row in the list of objects
unfoldable pub tree_listed : List ℕ → Trees → ℕ
tree_listed name db =
    number_in (rowid (unwrap_or (find (lists_table name) (db catalog_tree)) [])) - 1

-- the rows of the table of this name
unfoldable pub rows_listed : List ℕ → Trees → List Row
rows_listed name db = db (tree_listed name db)

-- the rows of `meta`
abbrev pub rows_of_meta : Trees → List Row
rows_of_meta = rows_listed (codes "meta")

-- the rows of `line`
abbrev pub rows_of_line : Trees → List Row
rows_of_line = rows_listed (codes "line")

-- the rows of `head`
abbrev pub rows_of_head : Trees → List Row
rows_of_head = rows_listed (codes "head")

-- the rows of `cell`
abbrev pub rows_of_cell : Trees → List Row
rows_of_cell = rows_listed (codes "cell")

-- the rows that `head` and `cell` are
abbrev pub stored_cells : Trees → CellLines
stored_cells trees =
    cell_lines (map head_of (rows_of_head trees)) (map cell_of (rows_of_cell trees))

-- what the tables hold, in the format that `meta` names
abbrev pub stored_in : Trees → Stored
stored_in trees = record {
  schema = stored_schema (rows_of_meta trees);
  lines = if list_any is_cells_row (rows_of_meta trees)
      then InCells (stored_cells trees) else Whole (stored_lines (rows_of_line trees));
}

-- the database is one of stored format 1
pub record IsLineFormat (text : List ℕ) (db : Database) : Type 0 where
  pub schema : HasLineTables db.schema
  pub meta : IsMeta 1 text (rows_of_meta db.trees)
  pub lines : AllByRecursion IsLine (rows_of_line db.trees)

-- the database is one of stored format 2: each cell has its head
pub record IsCellFormat (text : List ℕ) (db : Database) : Type 0 where
  pub schema : HasCellTables db.schema
  pub meta : IsMeta 2 text (rows_of_meta db.trees)
  pub heads : AllByRecursion IsHead (rows_of_head db.trees)
  pub cells : AllByRecursion IsCell (rows_of_cell db.trees)
  pub owned : have_heads (map head_of (rows_of_head db.trees)) (map cell_of (rows_of_cell db.trees))
      ≡ true

-- the database is one of the two formats
abbrev pub IsFormat : List ℕ → Database → Type 0
IsFormat text db = IsLineFormat text db ⊎ IsCellFormat text db

-- `meta` names the format whose tables are not there
abbrev pub NamesOther : Database → Type 0
NamesOther db =
    (text : List ℕ)
    × ((HasLineTables db.schema × IsMeta 2 text (rows_of_meta db.trees))
    ⊎ (HasCellTables db.schema × IsMeta 1 text (rows_of_meta db.trees)))
