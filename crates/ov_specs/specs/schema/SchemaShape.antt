-- The members of a schema's tree, of the right kinds and not yet judged (RFC 7047, 3.2).
use Rattle.std.specs.Prelude.{ℕ, ℤ, Bool, true, false, not, ◌&&◌, ◌||◌, List, [], ◌∷◌, if◌then◌else◌, Option, Some, None, is_some, option_map, option_and_then, unwrap_or, codes}
use Rattle.std.specs.Str.{bytes_eq}
use Rattle.serde_json.specs.Data.{Data, Members, no_members, member}
use Rattle.serde_json.specs.Find.{get, as_number, as_bool, as_str, as_object, as_i64}
use Rattle.ov_specs.specs.values.Value.{AtomKind, Integers, Booleans, Texts, Uuids}
use Rattle.ov_specs.specs.values.Reading.{list_read}

-- an atomic type's name; "real" is known, and refused later (RFC 7047, 3.2, <atomic-type>)
pub data TypeName : Type 0 where
  Kind : (of : AtomKind) → TypeName
  Real : TypeName

-- the members of a base type (RFC 7047, 3.2, <base-type>)
pub record BaseShape : Type 0 where
  pub of : TypeName
  pub choices : Option Data
  pub least : Option ℤ
  pub greatest : Option ℤ
  pub shortest : Option ℤ
  pub longest : Option ℤ
  pub ref_table : Option (List ℕ)
  pub ref_type : Option (List ℕ)

-- the greatest count of a type (RFC 7047, 3.2, <type>, max)
pub data Most : Type 0 where
  AtMost : (n : ℤ) → Most
  Unlimited : Most

-- the members of a type (RFC 7047, 3.2, <type>)
pub record TypeShape : Type 0 where
  pub key : BaseShape
  pub value : Option BaseShape
  pub min : Option ℤ
  pub max : Option Most

-- the members of a column (RFC 7047, 3.2, <column-schema>)
pub record ColumnShape : Type 0 where
  pub type_of : TypeShape
  pub is_ephemeral : Bool
  pub is_mutable : Bool

-- the members of a table, its columns in the order of the tree (RFC 7047, 3.2, <table-schema>)
pub record TableShape : Type 0 where
  pub columns : List (List ℕ × ColumnShape)
  pub max_rows : Option ℤ
  pub is_root : Bool
  pub indexes : List (List (List ℕ))

-- the members of a schema, its tables in the order of the tree (RFC 7047, 3.2, <database-schema>)
pub record SchemaShape : Type 0 where
  pub name : List ℕ
  pub version : Option (List ℕ)
  pub tables : List (List ℕ × TableShape)

-- ---- members

-- what comes next, if this is there
abbrev pub where_read : {A B : Type 0} → Option A → (A → Option B) → Option B
where_read o next = option_and_then next o

-- a member that may be absent, and must read if it is there
abbrev pub optional : {A : Type 0} → (Data → Option A) → Option Data → Option (Option A)
optional reader None = Some None
optional reader (Some d) = option_map Some (reader d)

-- a number of 64 bits (RFC 7047, 3.1, <integer>)
abbrev pub whole_number : Data → Option ℤ
whole_number d = option_and_then as_i64 (as_number d)

-- each member with its name, if all of them read
abbrev pub each_member : {A : Type 0} → (Data → Option A) → Members → Option (List (List ℕ × A))
each_member reader no_members = Some []
each_member reader (member k d ms) = option_and_then (λ a. option_map (λ rest. (k, a) ∷ rest) (each_member reader ms)) (reader d)

-- the members of an object, if all of them read
abbrev pub named_parts : {A : Type 0} → (Data → Option A) → Data → Option (List (List ℕ × A))
named_parts reader d = option_and_then (each_member reader) (as_object d)

-- ---- types

-- RFC 7047, 3.2, <atomic-type>
abbrev pub type_name : List ℕ → Option TypeName
type_name word =
    if bytes_eq word (codes "integer") then Some (Kind Integers)
    else if bytes_eq word (codes "boolean") then Some (Kind Booleans)
    else if bytes_eq word (codes "string") then Some (Kind Texts)
    else if bytes_eq word (codes "uuid") then Some (Kind Uuids)
    else if bytes_eq word (codes "real") then Some Real
    else None

-- "integer", which alone has minInteger and maxInteger (RFC 7047, 3.2, <base-type>)
abbrev pub is_integer_type : TypeName → Bool
is_integer_type (Kind Integers) = true
is_integer_type name = false

-- "string", which alone has minLength and maxLength (RFC 7047, 3.2, <base-type>)
abbrev pub is_text_type : TypeName → Bool
is_text_type (Kind Texts) = true
is_text_type name = false

-- a base type that is only a name (RFC 7047, 3.2, <base-type>)
abbrev pub plain_base : TypeName → BaseShape
plain_base name = record {
  of = name;
  choices = None;
  least = None;
  greatest = None;
  shortest = None;
  longest = None;
  ref_table = None;
  ref_type = None;
}

-- a range stands only beside its own type (RFC 7047, 3.2, <base-type>)
abbrev pub ranges_fit : BaseShape → Bool
ranges_fit b =
    (is_integer_type b.of || (not (is_some b.least) && not (is_some b.greatest)))
    && (is_text_type b.of || (not (is_some b.shortest) && not (is_some b.longest)))

-- the base type, if its ranges stand beside their types (RFC 7047, 3.2, <base-type>)
abbrev pub where_ranges_fit : BaseShape → Option BaseShape
where_ranges_fit b = if ranges_fit b then Some b else None

-- a base type that is an object (RFC 7047, 3.2, <base-type>)
abbrev pub base_members : Data → Option BaseShape
base_members d =
    where_read (option_and_then type_name (option_and_then as_str (get (codes "type") d))) (λ name.
    where_read (optional whole_number (get (codes "minInteger") d)) (λ least.
    where_read (optional whole_number (get (codes "maxInteger") d)) (λ greatest.
    where_read (optional whole_number (get (codes "minLength") d)) (λ shortest.
    where_read (optional whole_number (get (codes "maxLength") d)) (λ longest.
    where_read (optional as_str (get (codes "refTable") d)) (λ table.
    where_read (optional as_str (get (codes "refType") d)) (λ strength.
    where_ranges_fit (record {
      of = name;
      choices = get (codes "enum") d;
      least = least;
      greatest = greatest;
      shortest = shortest;
      longest = longest;
      ref_table = table;
      ref_type = strength;
    }))))))))

-- an atomic type's name, or an object (RFC 7047, 3.2)
abbrev pub named_or : {A : Type 0} → (BaseShape → A) → (Data → Option A) → Data → Option (List ℕ) → Option A
named_or plain members d None = members d
named_or plain members d (Some word) = option_map (λ name. plain (plain_base name)) (type_name word)

-- RFC 7047, 3.2, <base-type>
abbrev pub base_shape : Data → Option BaseShape
base_shape d = named_or (λ b. b) base_members d (as_str d)

-- "unlimited" if it is a text, else a number (RFC 7047, 3.2, <type>, max)
abbrev pub most_of : Option (List ℕ) → Data → Option Most
most_of None d = option_map AtMost (whole_number d)
most_of (Some word) d = if bytes_eq word (codes "unlimited") then Some Unlimited else None

-- RFC 7047, 3.2, <type>, max
abbrev pub most : Data → Option Most
most d = most_of (as_str d) d

-- a type that is an object (RFC 7047, 3.2, <type>)
abbrev pub type_members : Data → Option TypeShape
type_members d =
    where_read (option_and_then base_shape (get (codes "key") d)) (λ key.
    where_read (optional base_shape (get (codes "value") d)) (λ value.
    where_read (optional whole_number (get (codes "min") d)) (λ min.
    where_read (optional most (get (codes "max") d)) (λ max.
    Some (record { key = key; value = value; min = min; max = max })))))

-- RFC 7047, 3.2, <type>
abbrev pub type_shape : Data → Option TypeShape
type_shape d = named_or (λ b. record { key = b; value = None; min = None; max = None }) type_members d (as_str d)

-- ---- columns, tables, the schema

-- RFC 7047, 3.2, <column-schema>
abbrev pub column_shape : Data → Option ColumnShape
column_shape d =
    where_read (option_and_then type_shape (get (codes "type") d)) (λ type_of.
    where_read (optional as_bool (get (codes "ephemeral") d)) (λ ephemeral.
    where_read (optional as_bool (get (codes "mutable") d)) (λ mutable.
    Some (record { type_of = type_of; is_ephemeral = unwrap_or ephemeral false; is_mutable = unwrap_or mutable true }))))

-- RFC 7047, 3.2, <table-schema>
abbrev pub table_shape : Data → Option TableShape
table_shape d =
    where_read (option_and_then (named_parts column_shape) (get (codes "columns") d)) (λ columns.
    where_read (optional whole_number (get (codes "maxRows") d)) (λ max_rows.
    where_read (optional as_bool (get (codes "isRoot") d)) (λ root.
    where_read (optional (list_read (list_read as_str)) (get (codes "indexes") d)) (λ indexes.
    Some (record { columns = columns; max_rows = max_rows; is_root = unwrap_or root false; indexes = unwrap_or indexes [] })))))

-- The members, or None if one is missing or of a wrong kind anywhere in the tree; others are ignored (RFC 7047, 3.2,
-- <database-schema>; that `version` may be absent is this server's choice).
abbrev pub schema_shape : Data → Option SchemaShape
schema_shape d =
    where_read (option_and_then as_str (get (codes "name") d)) (λ name.
    where_read (optional as_str (get (codes "version") d)) (λ version.
    where_read (optional as_str (get (codes "cksum") d)) (λ cksum.
    where_read (option_and_then (named_parts table_shape) (get (codes "tables") d)) (λ tables.
    Some (record { name = name; version = version; tables = tables })))))
