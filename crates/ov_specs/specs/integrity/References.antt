-- The references between the rows of a database (RFC 7047, 3.2, <base-type>, refTable and refType).
use Rattle.std.specs.Prelude.{◌&&◌, not, List, [], ◌++◌, map, Bool, Option, Some, None}
use Rattle.std.specs.List.{filter_map, flat_map, list_any}
use Rattle.std.specs.FinMap.{get, keys, values, entries}
use Rattle.ov_specs.specs.rows.Database.{Columns, Row, Database, same_key}
use Rattle.ov_specs.specs.rows.Lines.{LineKey}
use Rattle.ov_specs.specs.schema.SchemaTypes.{Reference, BaseType, ColumnType, Column, Table, Schema}
use Rattle.ov_specs.specs.values.Value.{Atom, Uuid, Datum, Atoms, Pairs}

-- the row that is referred to; a weak reference does not keep it (RFC 7047, 3.2, <base-type>, refType)
pub record Target : Type 0 where
  pub key : LineKey
  pub is_strong : Bool

-- a reference, and the row that has it
pub record RowReference : Type 0 where
  pub from : LineKey
  pub to : Target

-- ---- what a row refers to

-- an identifier refers to the row that it names, if its type has a table to refer to (RFC 7047, 3.2, <base-type>, refTable)
abbrev pub target_of : Option Reference → Atom → Option Target
target_of (Some refers) (Uuid id) = Some (record { key = (refers.table, id); is_strong = refers.is_strong })
target_of refers a = None

-- what these atoms of one type refer to
abbrev pub atom_targets : BaseType → List Atom → List Target
atom_targets b atoms = filter_map (target_of b.refers) atoms

-- what these values of a map refer to
abbrev pub value_targets : Option BaseType → List Atom → List Target
value_targets None atoms = []
value_targets (Some b) atoms = atom_targets b atoms

-- what a value of the type refers to: the atoms of a set, the keys and the values of a map (RFC 7047, 3.2, <type>)
abbrev pub datum_targets : ColumnType → Datum → List Target
datum_targets t (Atoms atoms) = atom_targets t.key (keys atoms)
datum_targets t (Pairs pairs) = atom_targets t.key (keys pairs) ++ value_targets t.value (values pairs)

-- what the value of a column refers to
abbrev pub column_targets : Option Column → Datum → List Target
column_targets None datum = []
column_targets (Some column) datum = datum_targets column.type_of datum

-- what the columns of a row of the table refer to
abbrev pub targets_in : Option Table → Columns → List Target
targets_in None columns = []
targets_in (Some table) columns = flat_map (λ c. column_targets (get table.columns c.0) c.1) (entries columns)

-- what a row refers to
abbrev pub row_targets : Schema → LineKey × Row → List Target
row_targets schema r = targets_in (get schema.tables r.0.0) r.1.columns

-- the row refers strongly to the one of this key
abbrev pub refers_strongly : Schema → LineKey × Row → LineKey → Bool
refers_strongly schema r to = list_any (λ target. target.is_strong && same_key target.key to) (row_targets schema r)

-- the row refers weakly to the one of this key
abbrev pub refers_weakly : Schema → LineKey × Row → LineKey → Bool
refers_weakly schema r to = list_any (λ target. not target.is_strong && same_key target.key to) (row_targets schema r)

-- ---- all of them

-- the references of a row
abbrev pub row_references : Schema → LineKey × Row → List RowReference
row_references schema r = map (λ target. record { from = r.0; to = target }) (row_targets schema r)

-- the references of all rows
abbrev pub references : Schema → Database → List RowReference
references schema rows = flat_map (row_references schema) (entries rows)
