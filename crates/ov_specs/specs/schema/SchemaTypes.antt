-- What an accepted schema says of tables and columns (RFC 7047, 3.2).
use Rattle.std.specs.Prelude.{ℕ, ℤ, Bool, List, Option, Some, None}
use Rattle.std.specs.declared.cmp.Ordering.{Ordering}
use Rattle.std.specs.Ordering.{nat_cmp}
use Rattle.std.specs.Cmp.Lexicographic.{slice_cmp}
use Rattle.std.specs.FinMap.{FinMap}
use Rattle.serde_json.specs.Data.{Data}
use Rattle.ov_specs.specs.values.Value.{AtomKind, AtomSet, Kinds, Single, Pair}

-- names in the order of their bytes
abbrev pub name_cmp : List ℕ → List ℕ → Ordering
name_cmp = slice_cmp nat_cmp

-- the table that an identifier refers to; a weak reference does not keep its row (RFC 7047, 3.2, <base-type>)
pub record Reference : Type 0 where
  pub table : List ℕ
  pub is_strong : Bool

-- An atomic type with its constraints; None means no such constraint. Ranges include their ends, and lengths count
-- characters (RFC 7047, 3.2, <base-type>).
pub record BaseType : Type 0 where
  pub kind : AtomKind
  pub choices : Option AtomSet
  pub least : Option ℤ
  pub greatest : Option ℤ
  pub shortest : Option ℤ
  pub longest : Option ℤ
  pub refers : Option Reference

-- the type of a column: a map has a type for its values, and None as `max` means "unlimited" (RFC 7047, 3.2, <type>)
pub record ColumnType : Type 0 where
  pub key : BaseType
  pub value : Option BaseType
  pub min : ℤ
  pub max : Option ℤ

-- a column (RFC 7047, 3.2, <column-schema>)
pub record Column : Type 0 where
  pub type_of : ColumnType
  pub is_ephemeral : Bool
  pub is_mutable : Bool

-- A table: its columns by their names, `_uuid` and `_version` among them (RFC 7047, 3.2, <table-schema>).
pub record Table : Type 0 where
  pub columns : FinMap name_cmp Column
  pub max_rows : Option ℤ
  pub is_root : Bool
  pub indexes : List (List (List ℕ))

-- a schema: its tables by their names, and the tree that it was read from, whole (RFC 7047, 3.2, <database-schema>)
pub record Schema : Type 0 where
  pub name : List ℕ
  pub version : Option (List ℕ)
  pub tables : FinMap name_cmp Table
  pub tree : Data

-- the kinds of a column's keys, and of its values if it has any (RFC 7047, 3.2, <type>)
abbrev pub kinds_with : AtomKind → Option BaseType → Kinds
kinds_with key None = Single key
kinds_with key (Some value) = Pair key value.kind

-- what a column of the type holds (RFC 7047, 3.2, <type>)
abbrev pub kinds_of : ColumnType → Kinds
kinds_of t = kinds_with t.key.kind t.value
