-- The tables of the stored formats, as `sqlite` understands their texts.
use Rattle.std.specs.Prelude.{◌≡◌, ◌⊎◌, true, false, not, ◌&&◌, ◌||◌, ◌==◌, [], ◌∷◌, ◌++◌, find, Option, Some, None, option_map, unwrap_or, codes, Bool, List, ℕ}
use Rattle.std.specs.List.{list_any, list_all}
use Rattle.sqlite.specs.Collation.TheVariants.{Binary}
use Rattle.sqlite.specs.declared.types.Value.TheVariants.{Null}
use Rattle.sqlite.specs.Table.{Table}
use Rattle.sqlite.specs.Schema.{Schema}
use Rattle.sqlite.specs.Kind.{Kind}
use Rattle.sqlite.specs.Kind.TheVariants.{Text, Any}
use Rattle.sqlite_schema.specs.declared.schema.Column.{Column}
use Rattle.sqlite_schema.specs.declared.schema.Index.{Index}
use Rattle.sqlite_schema.specs.declared.schema.Reference.{Reference}
use Rattle.sqlite_schema.specs.Names.{same_name}
use Rattle.sqlite.specs.Change.{created, is_used}
use Rattle.sqlite.specs.Does.{lacks_sequence}

-- a column without rules (SQLite: CREATE TABLE)
abbrev pub loose : List ℕ → Kind → Column
loose name kind = record {
  name = name;
  kind = kind;
  is_strict = false;
  not_null = false;
  default = Null;
  collation = Binary;
}

-- a table with no rule except its primary key, which is not the number of a row (SQLite: CREATE TABLE)
abbrev pub plain_table : List ℕ → ℕ → List Column → List ℕ → Table
plain_table name tree columns key = record {
  name = name;
  tree = tree;
  columns = columns;
  key = None;
  primary = key;
  uniques = key ∷ [];
  orders = (record { digits = 0 }) ∷ [];
  checks = [];
  references = [];
  computed = [];
  stamps = record { places = []; terms = []; formats = [] };
  is_counted = false;
}

-- meta(k TEXT PRIMARY KEY, v BLOB)
abbrev pub meta_table : ℕ → Table
meta_table tree =
    plain_table (codes "meta") tree (loose (codes "k") Text ∷ loose (codes "v") Any ∷ []) (1 ∷ [])

-- line(tbl TEXT, id BLOB, ver BLOB, body BLOB, PRIMARY KEY(tbl,id))
abbrev pub line_table : ℕ → Table
line_table tree =
    plain_table (codes "line") tree
    (loose (codes "tbl") Text ∷ loose (codes "id") Any
    ∷ loose (codes "ver") Any ∷ loose (codes "body") Any ∷ [])
    (1 ∷ 2 ∷ [])

-- head(tbl TEXT, id BLOB, ver BLOB, PRIMARY KEY(tbl,id))
abbrev pub head_table : ℕ → Table
head_table tree =
    plain_table (codes "head") tree
    (loose (codes "tbl") Text ∷ loose (codes "id") Any ∷ loose (codes "ver") Any ∷ [])
    (1 ∷ 2 ∷ [])

-- cell(tbl TEXT, id BLOB, col TEXT, body BLOB, PRIMARY KEY(tbl,id,col))
abbrev pub cell_table : ℕ → Table
cell_table tree =
    plain_table (codes "cell") tree
    (loose (codes "tbl") Text ∷ loose (codes "id") Any
    ∷ loose (codes "col") Text ∷ loose (codes "body") Any ∷ [])
    (1 ∷ 2 ∷ 3 ∷ [])

-- the schema of an empty file (SQLite)
abbrev pub no_schema : Schema
no_schema = record { tables = []; indexes = []; views = [] }

-- the schema with `meta` after everything that is there, as CREATE TABLE makes it
abbrev pub with_meta : Schema → Schema
with_meta schema = created schema (meta_table 0)

-- the schema with the tables of the rows after everything that is there
abbrev pub with_row_tables : Schema → Schema
with_row_tables schema = created (created schema (head_table 0)) (cell_table 0)

-- the schema with the three tables of stored format 2 after everything that is there
abbrev pub with_ours : Schema → Schema
with_ours schema = with_row_tables (with_meta schema)

-- a foreign key that names the table of this name, which need not exist
abbrev pub is_key_to : List ℕ → Reference → Bool
is_key_to name ref = same_name name ref.parent

-- there is room for a table of this name: no table, index or view has the name, and no foreign key names it
pub record HasFreeName (schema : Schema) (name : List ℕ) : Type 0 where
  pub free : is_used schema name ≡ false
  pub keys : list_any (λ t. list_any (is_key_to name) t.references) schema.tables ≡ false

-- there is room for the tables of stored format 2. If rows are counted, the table of the counts exists, so that none is made
-- besides (SQLite: AUTOINCREMENT, sqlite_sequence)
pub record HasFreeNames (schema : Schema) : Type 0 where
  pub meta : HasFreeName schema (codes "meta")
  pub head : HasFreeName schema (codes "head")
  pub cell : HasFreeName schema (codes "cell")
  pub counts : lacks_sequence schema ≡ false

-- the table of this name, as SQLite looks for it
abbrev pub table_of : Schema → List ℕ → Option Table
table_of schema name = find (λ t. same_name t.name name) schema.tables

-- the number of its tree
abbrev pub tree_number : Schema → List ℕ → ℕ
tree_number schema name = unwrap_or (option_map (λ t. t.tree) (table_of schema name)) 0

-- a foreign key that points to the table with this tree
abbrev pub points_to : ℕ → Schema → Reference → Bool
points_to tree schema ref =
    unwrap_or (option_map (λ t. t.tree == tree) (table_of schema ref.parent)) false

-- a table without a foreign key to the one with this tree, so that no change of that one reaches it
abbrev pub is_apart : ℕ → Schema → Table → Bool
is_apart tree schema t = not (list_any (points_to tree schema) t.references)

-- the name of the index that SQLite makes of the primary key of the table of this name (SQLite: "sqlite_autoindex")
abbrev pub key_index : List ℕ → List ℕ
key_index name = codes "sqlite_autoindex_" ++ name ++ codes "_1"

-- an index that forbids no row of the table with this tree, or is that of its primary key, which has this name
abbrev pub is_allowed : List ℕ → ℕ → Index → Bool
is_allowed key tree i = not (i.is_unique && (i.table == tree)) || same_name key i.name

-- the schema has this table under its name, and no other with its tree; no foreign key points to it, and no other index forbids
-- rows of it
pub record HasTable (schema : Schema) (table : Table) : Type 0 where
  pub named : table_of schema table.name ≡ Some table
  pub alone : list_all (λ t. not (t.tree == table.tree) || same_name t.name table.name) schema.tables
      ≡ true
  pub apart : list_all (is_apart table.tree schema) schema.tables ≡ true
  pub allowed : list_all (is_allowed (key_index table.name) table.tree) schema.indexes ≡ true

-- nothing else concerns the table, and the index of its primary key has this name
abbrev pub IsAlone : Schema → Table → List ℕ → Type 0
IsAlone schema table key =
    (list_all (λ t. not (t.tree == table.tree) || same_name t.name table.name) schema.tables ≡ true)
    × (list_all (is_apart table.tree schema) schema.tables ≡ true)
    × (list_all (is_allowed key table.tree) schema.indexes ≡ true)

-- The database has the two tables of stored format 1, and room for those of format 2. It may have other tables, indexes and
-- views.
pub record HasLineTables (schema : Schema) : Type 0 where
  pub meta : HasTable schema (meta_table (tree_number schema (codes "meta")))
  pub line : HasTable schema (line_table (tree_number schema (codes "line")))
  pub head : HasFreeName schema (codes "head")
  pub cell : HasFreeName schema (codes "cell")
  pub counts : lacks_sequence schema ≡ false

-- the database has the three tables of stored format 2. It may have other tables, indexes and views
pub record HasCellTables (schema : Schema) : Type 0 where
  pub meta : HasTable schema (meta_table (tree_number schema (codes "meta")))
  pub head : HasTable schema (head_table (tree_number schema (codes "head")))
  pub cell : HasTable schema (cell_table (tree_number schema (codes "cell")))

-- the database has the tables of one of the two formats
abbrev pub HasOurTables : Schema → Type 0
HasOurTables schema = HasLineTables schema ⊎ HasCellTables schema

-- the trees of the tables of the rows in stored format 2
abbrev pub row_trees : Schema → List ℕ
row_trees schema = tree_number schema (codes "head") ∷ tree_number schema (codes "cell") ∷ []

-- the trees of the tables of stored format 2
abbrev pub cell_trees : Schema → List ℕ
cell_trees schema = tree_number schema (codes "meta") ∷ row_trees schema

-- the trees of the tables of stored format 1
abbrev pub line_trees : Schema → List ℕ
line_trees schema = tree_number schema (codes "meta") ∷ tree_number schema (codes "line") ∷ []

-- ---- statements

-- makes `meta`
abbrev pub create_meta : List ℕ
create_meta = codes "CREATE TABLE meta(k TEXT PRIMARY KEY, v BLOB)"

-- makes `line`
abbrev pub create_line : List ℕ
create_line = codes "CREATE TABLE line(tbl TEXT, id BLOB, ver BLOB, body BLOB, PRIMARY KEY(tbl,id))"

-- makes `head`
abbrev pub create_head : List ℕ
create_head = codes "CREATE TABLE head(tbl TEXT, id BLOB, ver BLOB, PRIMARY KEY(tbl,id))"

-- makes `cell`
abbrev pub create_cell : List ℕ
create_cell =
    codes "CREATE TABLE cell(tbl TEXT, id BLOB, col TEXT, body BLOB, PRIMARY KEY(tbl,id,col))"

-- adds a row to `meta`
abbrev pub meta_insert_text : List ℕ
meta_insert_text = codes "INSERT INTO meta(k,v) VALUES(?1,?2)"

-- reads `meta`, each row with its number
abbrev pub meta_select_text : List ℕ
meta_select_text = codes "SELECT rowid,k,v FROM meta"

-- empties `meta`
abbrev pub meta_clear_text : List ℕ
meta_clear_text = codes "DELETE FROM meta"

-- reads `line`, each row with its number
abbrev pub line_select_text : List ℕ
line_select_text = codes "SELECT rowid,tbl,id,ver,body FROM line"

-- empties `line`
abbrev pub line_clear_text : List ℕ
line_clear_text = codes "DELETE FROM line"

-- adds a row to `head`
abbrev pub head_insert_text : List ℕ
head_insert_text = codes "INSERT INTO head(tbl,id,ver) VALUES(?1,?2,?3)"

-- removes the row of a key from `head`
abbrev pub head_delete_text : List ℕ
head_delete_text = codes "DELETE FROM head WHERE tbl=?1 AND id=?2"

-- gives the row of a key in `head` another version
abbrev pub head_update_text : List ℕ
head_update_text = codes "UPDATE head SET ver=?3 WHERE tbl=?1 AND id=?2"

-- reads `head`, each row with its number
abbrev pub head_select_text : List ℕ
head_select_text = codes "SELECT rowid,tbl,id,ver FROM head"

-- empties `head`
abbrev pub head_clear_text : List ℕ
head_clear_text = codes "DELETE FROM head"

-- adds a row to `cell`
abbrev pub cell_insert_text : List ℕ
cell_insert_text = codes "INSERT INTO cell(tbl,id,col,body) VALUES(?1,?2,?3,?4)"

-- removes the rows of a key from `cell`
abbrev pub cell_delete_text : List ℕ
cell_delete_text = codes "DELETE FROM cell WHERE tbl=?1 AND id=?2"

-- gives the cell of a key and a column another body
abbrev pub cell_update_text : List ℕ
cell_update_text = codes "UPDATE cell SET body=?4 WHERE tbl=?1 AND id=?2 AND col=?3"

-- reads `cell`, each row with its number
abbrev pub cell_select_text : List ℕ
cell_select_text = codes "SELECT rowid,tbl,id,col,body FROM cell"

-- reads the cells of a key
abbrev pub cells_of_text : List ℕ
cells_of_text = codes "SELECT col,body FROM cell WHERE tbl=?1 AND id=?2"

-- empties `cell`
abbrev pub cell_clear_text : List ℕ
cell_clear_text = codes "DELETE FROM cell"
