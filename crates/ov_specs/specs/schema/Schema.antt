-- Which schemas are accepted, and which refusal each of the others gets (RFC 7047, 3.2).
use Rattle.std.specs.Prelude.{◌≡◌, ℕ, ℤ, pos, int_lt, nat_le, Bool, true, false, not, ◌&&◌, ◌||◌, ◌==◌, List, [], ◌∷◌, if◌then◌else◌, Option, Some, None, is_some, is_none, codes, length, ◌++◌, map, option_map, unwrap_or, Result, Ok, Err}
use Rattle.std.specs.FinMap.{from_entries}
use Rattle.std.specs.List.{list_all, list_any}
use Rattle.std.specs.Str.{bytes_eq}
use Rattle.serde_json.specs.Data.{Data}
use Rattle.ov_specs.specs.wire.Tree.{has_real}
use Rattle.ov_specs.specs.values.Value.{AtomKind, Integers, Uuids, Atom, AtomSet, set_of}
use Rattle.ov_specs.specs.values.Uuid.{is_id, no_names}
use Rattle.ov_specs.specs.values.Reading.{atoms_read}
use Rattle.ov_specs.specs.schema.SchemaShape.{TypeName, Kind, Real, BaseShape, Most, AtMost, Unlimited, TypeShape, ColumnShape, TableShape, SchemaShape, plain_base, schema_shape}
use Rattle.ov_specs.specs.schema.SchemaTypes.{Reference, BaseType, ColumnType, Column, Table, Schema}

-- why a tree is no schema; the first that applies is the answer, but a number that is no integer comes before all
pub data SchemaRefusal : Type 0 where
  BadMember : SchemaRefusal  -- a member is missing or of a wrong kind, or a range stands beside another type than its own
  BadName : SchemaRefusal
  BadVersion : SchemaRefusal
  NoColumns : SchemaRefusal
  BadRange : SchemaRefusal
  RealNotSupported : SchemaRefusal
  UnknownRefTable : SchemaRefusal
  BadRefType : SchemaRefusal
  BadEnum : SchemaRefusal
  BadIndex : SchemaRefusal
  StrongWeakMap : SchemaRefusal

-- nothing in the list
abbrev pub is_empty : {A : Type 0} → List A → Bool
is_empty [] = true
is_empty (a ∷ rest) = false

-- ---- places of a schema

-- the value is there and passes the test
abbrev pub is_some_and : {A : Type 0} → (A → Bool) → Option A → Bool
is_some_and test None = false
is_some_and test (Some a) = test a

-- some table passes
abbrev pub any_table : (List ℕ → TableShape → Bool) → SchemaShape → Bool
any_table test s = list_any (λ t. test t.0 t.1) s.tables

-- some column of some table passes
abbrev pub any_column : (List ℕ → ColumnShape → Bool) → SchemaShape → Bool
any_column test = any_table (λ name t. list_any (λ c. test c.0 c.1) t.columns)

-- the type of some column passes
abbrev pub any_type : (TypeShape → Bool) → SchemaShape → Bool
any_type test = any_column (λ name c. test c.type_of)

-- a key type or a value type of some column passes
abbrev pub any_base : (BaseShape → Bool) → SchemaShape → Bool
any_base test = any_type (λ t. test t.key || is_some_and test t.value)

-- ---- names and versions

-- a name that is no <id>, or begins with an underscore, as do the columns that each table has (RFC 7047, 3.2)
abbrev pub is_bad_name : List ℕ → Bool
is_bad_name [] = true
is_bad_name (c ∷ cs) = (c == 95) || not (is_id (c ∷ cs))

-- a bad name of the schema, of a table or of a column (RFC 7047, 3.2)
abbrev pub has_bad_name : SchemaShape → Bool
has_bad_name s = is_bad_name s.name || any_table (λ name t. is_bad_name name) s || any_column (λ name c. is_bad_name name) s

-- RFC 7047, 3.1, <version>
abbrev pub is_digit : ℕ → Bool
is_digit c = nat_le 48 c && nat_le c 57

-- one digit or more (RFC 7047, 3.1, <version>)
abbrev pub is_number : List ℕ → Bool
is_number part = not (is_empty part) && list_all is_digit part

-- the character, put before the first part
abbrev pub before_parts : ℕ → List (List ℕ) → List (List ℕ)
before_parts c [] = []
before_parts c (part ∷ parts) = (c ∷ part) ∷ parts

-- the parts of a text between its dots: one more part than dots
abbrev pub split_at_dots : List ℕ → List (List ℕ)
split_at_dots [] = [] ∷ []
split_at_dots (c ∷ cs) = if c == 46 then [] ∷ split_at_dots cs else before_parts c (split_at_dots cs)

-- three numbers separated by dots (RFC 7047, 3.1, <version>)
abbrev pub is_version : List ℕ → Bool
is_version text = let parts = split_at_dots text in (length parts == 3) && list_all is_number parts

-- a version that is not three numbers separated by dots (RFC 7047, 3.1, <version>)
abbrev pub has_bad_version : SchemaShape → Bool
has_bad_version s = is_some_and (λ v. not (is_version v)) s.version

-- a table without columns
abbrev pub has_no_columns : SchemaShape → Bool
has_no_columns = any_table (λ name t. is_empty t.columns)

-- ---- ranges

-- both are there, and the least is above the greatest
abbrev pub above : Option ℤ → Option ℤ → Bool
above None greatest = false
above (Some least) None = false
above (Some least) (Some greatest) = int_lt greatest least

-- it is there, and below n
abbrev pub below : ℤ → Option ℤ → Bool
below n o = is_some_and (λ z. int_lt z n) o

-- a least above its greatest, or a negative length (RFC 7047, 3.2, <base-type>)
abbrev pub is_bad_base_range : BaseShape → Bool
is_bad_base_range b =
    above b.least b.greatest || below (pos 0) b.shortest || below (pos 0) b.longest || above b.shortest b.longest

-- a `max` below 1 (RFC 7047, 3.2, <type>)
abbrev pub is_bad_most : Most → Bool
is_bad_most (AtMost n) = int_lt n (pos 1)
is_bad_most Unlimited = false

-- a `min` that is neither 0 nor 1, or a bad `max`; a good `max` is at least 1, so no `min` is above it (RFC 7047, 3.2, <type>)
abbrev pub is_bad_count : TypeShape → Bool
is_bad_count t = is_some_and (λ n. int_lt n (pos 0) || int_lt (pos 1) n) t.min || is_some_and is_bad_most t.max

-- a bad range, a bad count, or `maxRows` below 1 (RFC 7047, 3.2)
abbrev pub has_bad_range : SchemaShape → Bool
has_bad_range s = any_base is_bad_base_range s || any_type is_bad_count s || any_table (λ name t. below (pos 1) t.max_rows) s

-- ---- types

-- "real", which this server refuses (RFC 7047, 3.2, <atomic-type> has it)
abbrev pub is_real_type : TypeName → Bool
is_real_type (Kind of) = false
is_real_type Real = true

-- "uuid" (RFC 7047, 3.2, <atomic-type>)
abbrev pub is_uuid_type : TypeName → Bool
is_uuid_type (Kind Uuids) = true
is_uuid_type name = false

-- a table of this name
abbrev pub has_table : SchemaShape → List ℕ → Bool
has_table s name = list_any (λ t. bytes_eq t.0 name) s.tables

-- a `refTable` that names no table (RFC 7047, 3.2, <base-type>)
abbrev pub has_unknown_ref_table : SchemaShape → Bool
has_unknown_ref_table s = any_base (λ b. is_some_and (λ name. not (has_table s name)) b.ref_table) s

-- "strong" or "weak" (RFC 7047, 3.2, <base-type>, refType)
abbrev pub is_strength : List ℕ → Bool
is_strength word = bytes_eq word (codes "strong") || bytes_eq word (codes "weak")

-- any other `refType`; a `refType` without `refTable`; a `refTable` on a type other than "uuid" (RFC 7047, 3.2, <base-type>)
abbrev pub is_bad_reference : BaseShape → Bool
is_bad_reference b =
    is_some_and (λ word. not (is_strength word)) b.ref_type
    || (is_some b.ref_type && is_none b.ref_table)
    || (is_some b.ref_table && not (is_uuid_type b.of))

-- it reads, as at least one atom
abbrev pub is_set_of_one_or_more : Option (List Atom) → Bool
is_set_of_one_or_more None = false
is_set_of_one_or_more (Some []) = false
is_set_of_one_or_more (Some (a ∷ atoms)) = true

-- it reads as a set of at least one atom of the type; no row has a name here (RFC 7047, 3.2, <base-type>, enum)
abbrev pub reads_as_choices : TypeName → Data → Bool
reads_as_choices (Kind of) d = is_set_of_one_or_more (atoms_read no_names of d)
reads_as_choices Real d = false

-- an `enum` that does not read so (RFC 7047, 3.2, <base-type>)
abbrev pub is_bad_enum : BaseShape → Bool
is_bad_enum b = is_some_and (λ d. not (reads_as_choices b.of d)) b.choices

-- ---- indexes

-- the column of this name, other than `_uuid` and `_version`
abbrev pub column_named : List (List ℕ × ColumnShape) → List ℕ → Option ColumnShape
column_named [] name = None
column_named (c ∷ cs) name = if bytes_eq c.0 name then Some c.1 else column_named cs name

-- the column is there, and not ephemeral (RFC 7047, 3.2, <table-schema>, indexes)
abbrev pub is_lasting : Option ColumnShape → Bool
is_lasting None = false
is_lasting (Some c) = not c.is_ephemeral

-- a name occurs twice in the list
abbrev pub has_twice : List (List ℕ) → Bool
has_twice [] = false
has_twice (name ∷ names) = list_any (λ other. bytes_eq other name) names || has_twice names

-- an empty index, or one with a name of no column, of an ephemeral column, or a name twice (RFC 7047, 3.2, <table-schema>,
-- indexes)
abbrev pub is_bad_index : TableShape → List (List ℕ) → Bool
is_bad_index t index =
    is_empty index || list_any (λ name. not (is_lasting (column_named t.columns name))) index || has_twice index

-- a bad index of some table (RFC 7047, 3.2, <table-schema>)
abbrev pub has_bad_index : SchemaShape → Bool
has_bad_index = any_table (λ name t. list_any (is_bad_index t) t.indexes)

-- ---- maps

-- a weak reference (RFC 7047, 3.2, <base-type>, refType)
abbrev pub is_weak : BaseShape → Bool
is_weak b = is_some b.ref_table && is_some_and (λ word. bytes_eq word (codes "weak")) b.ref_type

-- a strong reference; one without `refType` is strong (RFC 7047, 3.2, <base-type>, refType)
abbrev pub is_strong : BaseShape → Bool
is_strong b = is_some b.ref_table && not (is_weak b)

-- a map with a strong reference on one side and a weak one on the other
abbrev pub is_strong_weak : TypeShape → Bool
is_strong_weak t = is_some_and (λ value. (is_strong t.key && is_weak value) || (is_weak t.key && is_strong value)) t.value

-- ---- the refusals in their order

-- the first answer whose test holds
abbrev pub first_that_holds : {A : Type 0} → List (Bool × A) → Option A
first_that_holds [] = None
first_that_holds (p ∷ ps) = if p.0 then Some p.1 else first_that_holds ps

-- the first refusal that applies anywhere, once all members are there and of the right kinds
abbrev pub refusal_of_shape : SchemaShape → Option SchemaRefusal
refusal_of_shape s = first_that_holds (
    (has_bad_name s, BadName)
    ∷ (has_bad_version s, BadVersion)
    ∷ (has_no_columns s, NoColumns)
    ∷ (has_bad_range s, BadRange)
    ∷ (any_base (λ b. is_real_type b.of) s, RealNotSupported)
    ∷ (has_unknown_ref_table s, UnknownRefTable)
    ∷ (any_base is_bad_reference s, BadRefType)
    ∷ (any_base is_bad_enum s, BadEnum)
    ∷ (has_bad_index s, BadIndex)
    ∷ (any_type is_strong_weak s, StrongWeakMap)
    ∷ [])

-- ---- the schema that is accepted

-- the set of an `enum` (RFC 7047, 3.2, <base-type>)
abbrev pub choices_of : TypeName → Option Data → Option AtomSet
choices_of (Kind of) (Some d) = option_map set_of (atoms_read no_names of d)
choices_of name d = None

-- the atomic type of a name; no accepted schema has "real" (RFC 7047, 3.2, <atomic-type>)
abbrev pub kind_named : TypeName → AtomKind
kind_named (Kind of) = of
kind_named Real = Integers

-- the reference of a base type, if it has one (RFC 7047, 3.2, <base-type>)
abbrev pub reference_of : BaseShape → Option Reference
reference_of b = option_map (λ table. record { table = table; is_strong = is_strong b }) b.ref_table

-- RFC 7047, 3.2, <base-type>
abbrev pub accepted_base : BaseShape → BaseType
accepted_base b = record {
  kind = kind_named b.of;
  choices = choices_of b.of b.choices;
  least = b.least;
  greatest = b.greatest;
  shortest = b.shortest;
  longest = b.longest;
  refers = reference_of b;
}

-- 1 if `max` is absent, None if it is "unlimited" (RFC 7047, 3.2, <type>)
abbrev pub max_of : Option Most → Option ℤ
max_of None = Some (pos 1)
max_of (Some (AtMost n)) = Some n
max_of (Some Unlimited) = None

-- `min` is 1 if it is absent (RFC 7047, 3.2, <type>)
abbrev pub accepted_type : TypeShape → ColumnType
accepted_type t = record {
  key = accepted_base t.key;
  value = option_map accepted_base t.value;
  min = unwrap_or t.min (pos 1);
  max = max_of t.max;
}

-- a column that holds weak references is mutable, whatever its schema says
abbrev pub accepted_column : ColumnShape → Column
accepted_column c = record {
  type_of = accepted_type c.type_of;
  is_ephemeral = c.is_ephemeral;
  is_mutable = c.is_mutable || is_weak c.type_of.key || is_some_and is_weak c.type_of.value;
}

-- `_uuid` and `_version`: scalars of type "uuid" without references (RFC 7047, 3.2)
abbrev pub own_column : Column
own_column =
    accepted_column (record {
      type_of = record { key = plain_base (Kind Uuids); value = None; min = None; max = None };
      is_ephemeral = false;
      is_mutable = false;
    })

-- the columns that each table has (RFC 7047, 3.2)
abbrev pub own_columns : List (List ℕ × Column)
own_columns = (codes "_uuid", own_column) ∷ (codes "_version", own_column) ∷ []

-- if no table is a root table, every table is one (RFC 7047, 3.2, <table-schema>, isRoot)
abbrev pub accepted_table : Bool → TableShape → Table
accepted_table some_root t = record {
  columns = from_entries (own_columns ++ map (λ c. (c.0, accepted_column c.1)) t.columns);
  max_rows = t.max_rows;
  is_root = t.is_root || not some_root;
  indexes = t.indexes;
}

-- the schema of these members (RFC 7047, 3.2, <database-schema>)
abbrev pub accepted_schema : Data → SchemaShape → Schema
accepted_schema d s =
    let some_root = any_table (λ name t. t.is_root) s in
    record {
      name = s.name;
      version = s.version;
      tables = from_entries (map (λ t. (t.0, accepted_table some_root t.1)) s.tables);
      tree = d;
    }

-- the schema, unless it is refused
abbrev pub refused_or : Schema → Option SchemaRefusal → Result Schema SchemaRefusal
refused_or schema None = Ok schema
refused_or schema (Some refusal) = Err refusal

-- the schema of the members, or its refusal; a member that is missing or of a wrong kind is refused first
abbrev pub judged : Data → Option SchemaShape → Result Schema SchemaRefusal
judged d None = Err BadMember
judged d (Some s) = refused_or (accepted_schema d s) (refusal_of_shape s)

-- The schema that a tree is, or why it is none. A number that is no 64-bit integer comes before all else (RFC 7047, 3.2; the
-- refusals are this server's).
abbrev pub accepted : Data → Result Schema SchemaRefusal
accepted d = if has_real d then Err RealNotSupported else judged d (schema_shape d)

-- the schema is what its own tree reads as
pub record IsAccepted (schema : Schema) : Type 0 where
  pub is : accepted schema.tree ≡ Ok schema
