-- The database: rows by their tables and identifiers, and the lines that they are stored as.
use Rattle.std.specs.Prelude.{◌≡◌, ℕ, ◌&&◌, Bool, false, List, [], ◌∷◌, map, option_map}
use Rattle.std.specs.Cmp.Lexicographic.{pointwise}
use Rattle.std.specs.FinMap.{FinMap, get, keys, entries}
use Rattle.std.specs.Ordering.{eq_by_cmp}
use Rattle.serde_json.specs.Data.{Data, object, Members, no_members, put}
use Rattle.ov_specs.specs.wire.Frame.{frame}
use Rattle.ov_specs.specs.rows.Lines.{LineKey, LineBody, line_cmp, Lines}
use Rattle.std.specs.Str.{bytes_eq}
use Rattle.ov_specs.specs.schema.SchemaTypes.{name_cmp}
use Rattle.ov_specs.specs.values.Uuid.{Uuid}
use Rattle.ov_specs.specs.values.Value as value
use Rattle.ov_specs.specs.values.Value.{Atom, atom_cmp, Datum, Atoms, Pairs, set_of}
use Rattle.ov_specs.specs.values.Writing.{tree}

-- the values of a row, by the names of its columns (RFC 7047, 5.1, <row>)
abbrev pub Columns : Type 0
Columns = FinMap name_cmp Datum

-- a row: its version, and its columns but `_uuid` and `_version` (RFC 7047, 3.2)
pub record Row : Type 0 where
  pub version : Uuid
  pub columns : Columns

-- the rows, by the name of their table and their identifier
abbrev pub Database : Type 0
Database = FinMap line_cmp Row

-- a set of one identifier (RFC 7047, 5.1, <uuid>)
abbrev pub one_uuid : Uuid → Datum
one_uuid id = Atoms (set_of (value.Uuid id ∷ []))

-- ---- what is stored of it

-- the members, each put at the place of its name
abbrev pub placed : Members → List (List ℕ × Data) → Members
placed members [] = members
placed members (m ∷ ms) = placed (put m.0 m.1 members) ms

-- the object of these members, in ascending order of their names
abbrev pub object_of : List (List ℕ × Data) → Data
object_of members = object (placed no_members members)

-- a column with its written value (RFC 7047, 5.1, <row>)
abbrev pub written_column : List ℕ × Datum → List ℕ × Data
written_column column = (column.0, tree column.1)

-- a row as it is stored: its version, and the compact text of all columns' written values
abbrev pub line_of : Row → LineBody
line_of row = (row.version, frame (object_of (map written_column (entries row.columns))))

-- the lines are those of the database's rows
abbrev pub AreLinesOf : Database → Lines → Type 0
AreLinesOf database lines = (key : LineKey) → get lines key ≡ option_map line_of (get database key)

-- ---- whether two databases are one

-- the same atom (RFC 7047, 5.1, <atom>)
abbrev pub same_atom : Atom → Atom → Bool
same_atom a b = eq_by_cmp atom_cmp a b

-- the same pair (RFC 7047, 5.1, <pair>)
abbrev pub same_pair : Atom × Atom → Atom × Atom → Bool
same_pair p q = same_atom p.0 q.0 && same_atom p.1 q.1

-- the same set or map (RFC 7047, 5.1, <value>)
abbrev pub same_datum : Datum → Datum → Bool
same_datum (Atoms a) (Atoms b) = pointwise same_atom (keys a) (keys b)
same_datum (Pairs a) (Pairs b) = pointwise same_pair (entries a) (entries b)
same_datum a b = false

-- the same values in the same columns (RFC 7047, 5.1, <row>)
abbrev pub same_columns : List (List ℕ × Datum) → List (List ℕ × Datum) → Bool
same_columns a b = pointwise (λ c d. bytes_eq c.0 d.0 && same_datum c.1 d.1) a b

-- the same version and columns
abbrev pub same_row : Row → Row → Bool
same_row a b = bytes_eq a.version b.version && same_columns (entries a.columns) (entries b.columns)

-- the same key
abbrev pub same_key : LineKey → LineKey → Bool
same_key a b = bytes_eq a.0 b.0 && bytes_eq a.1 b.1

-- the same rows at the same keys
abbrev pub same_database : Database → Database → Bool
same_database a b = pointwise (λ r s. same_key r.0 s.0 && same_row r.1 s.1) (entries a) (entries b)
