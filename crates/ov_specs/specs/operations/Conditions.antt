-- The conditions of a "where", and whether a row meets one (RFC 7047, 5.1, <condition>).
use Rattle.std.specs.Prelude.{pos, ℤ, int_lt, int_le, nat_eq, ◌&&◌, ◌||◌, not, is_none, List, [], ◌∷◌, ℕ, Bool, true, false, if◌then◌else◌, Option, Some, None, option_map, option_and_then, unwrap_or, codes, Result, Ok, Err}
use Rattle.std.specs.List.{list_all}
use Rattle.std.specs.FinMap.{get, contains_key, keys, entries}
use Rattle.serde_json.specs.Data.{Data, Items, no_items, item}
use Rattle.serde_json.specs.Find.{as_str, as_array}
use Rattle.ov_specs.specs.rows.Database.{Columns, Row, same_atom, same_datum, one_uuid}
use Rattle.ov_specs.specs.rows.Lines.{LineKey}
use Rattle.std.specs.Str.{bytes_eq}
use Rattle.ov_specs.specs.operations.Errors.{OpError, SyntaxError, UnknownColumn, ConstraintViolation}
use Rattle.ov_specs.specs.values.Reading as reading
use Rattle.ov_specs.specs.values.Reading.{Reading, Reads, reads}
use Rattle.ov_specs.specs.schema.Schema.{is_some_and}
use Rattle.ov_specs.specs.schema.SchemaTypes.{ColumnType, Column, Table, kinds_of}
use Rattle.ov_specs.specs.values.Results.{result_map}
use Rattle.ov_specs.specs.values.Uuid.{Uuid, Names}
use Rattle.ov_specs.specs.values.Value.{AtomKind, Integers, Booleans, Texts, Uuids, Atom, Integer, AtomMap, Datum, Atoms, Pairs, count, is_of}

-- ---- conditions

-- "<", "<=", ">", ">=", "==", "!=", "includes", "excludes" (RFC 7047, 5.1, <function>)
pub data Function : Type 0 where
  Less : Function
  LessOrEqual : Function
  Greater : Function
  GreaterOrEqual : Function
  Equal : Function
  NotEqual : Function
  Includes : Function
  Excludes : Function

-- a column of the table, how it is compared, and with what (RFC 7047, 5.1, <condition>)
pub record Condition : Type 0 where
  pub column : List ℕ
  pub function : Function
  pub value : Datum

-- why a tree is no condition: it is malformed, names no column, or has a key with two values
pub data ConditionFault : Type 0 where
  BadCondition : ConditionFault
  NoColumn : ConditionFault
  Clash : ConditionFault

-- the error of the operation (RFC 7047, 5.2; which one is this server's choice)
abbrev pub condition_error : ConditionFault → OpError
condition_error BadCondition = SyntaxError
condition_error NoColumn = UnknownColumn
condition_error Clash = ConstraintViolation

-- ---- reading one

-- [column,word,value], not yet judged: the form of conditions and mutations (RFC 7047, 5.1, <condition> and <mutation>)
pub record Triple : Type 0 where
  pub column : List ℕ
  pub word : List ℕ
  pub value : Data

-- with two texts in front (RFC 7047, 5.1, <condition>)
abbrev pub triple : Option (List ℕ) → Option (List ℕ) → Data → Option Triple
triple None word value = None
triple (Some column) None value = None
triple (Some column) (Some word) value = Some (record { column = column; word = word; value = value })

-- exactly three items (RFC 7047, 5.1, <condition>)
abbrev pub three_items : Items → Option Triple
three_items no_items = None
three_items (item column no_items) = None
three_items (item column (item word no_items)) = None
three_items (item column (item word (item value no_items))) = triple (as_str column) (as_str word) value
three_items (item column (item word (item value (item more rest)))) = None

-- an array of three (RFC 7047, 5.1, <condition>)
abbrev pub triple_read : Data → Option Triple
triple_read d = option_and_then three_items (as_array d)

-- the function of a word (RFC 7047, 5.1, <function>)
abbrev pub function_of : List ℕ → Option Function
function_of word =
    if bytes_eq word (codes "<") then Some Less
    else (if bytes_eq word (codes "<=") then Some LessOrEqual
    else (if bytes_eq word (codes ">") then Some Greater
    else (if bytes_eq word (codes ">=") then Some GreaterOrEqual
    else (if bytes_eq word (codes "==") then Some Equal
    else (if bytes_eq word (codes "!=") then Some NotEqual
    else (if bytes_eq word (codes "includes") then Some Includes
    else (if bytes_eq word (codes "excludes") then Some Excludes
    else None)))))))

-- the number 1
abbrev is_one : ℤ → Bool
is_one n = int_le (pos 1) n && int_le n (pos 1)

-- the number 0
abbrev pub is_zero : ℤ → Bool
is_zero n = int_le (pos 0) n && int_le n (pos 0)

-- at most one atom or pair (RFC 7047, 3.2, <type>, max)
abbrev at_most_one : ColumnType → Bool
at_most_one t = unwrap_or (option_map is_one t.max) false

-- exactly one atom (RFC 7047, 3.2, <type>)
abbrev pub is_scalar : ColumnType → Bool
is_scalar t = is_none t.value && is_one t.min && at_most_one t

-- one atom or none (RFC 7047, 3.2, <type>)
abbrev pub is_optional : ColumnType → Bool
is_optional t = is_none t.value && is_zero t.min && at_most_one t

-- an integer (RFC 7047, 3.2, <atomic-type>)
abbrev pub is_integers : AtomKind → Bool
is_integers Integers = true
is_integers Booleans = false
is_integers Texts = false
is_integers Uuids = false

-- the function is a relation of two numbers (RFC 7047, 5.1, <function>)
abbrev pub is_relation : Function → Bool
is_relation Less = true
is_relation LessOrEqual = true
is_relation Greater = true
is_relation GreaterOrEqual = true
is_relation Equal = false
is_relation NotEqual = false
is_relation Includes = false
is_relation Excludes = false

-- the column has one integer (RFC 7047, 5.1, <function>), or at most one (ovsdb-server(7))
abbrev pub allows_relations : ColumnType → Bool
allows_relations t = (is_scalar t || is_optional t) && is_integers t.key.kind

-- the function is allowed on the column: a relation only on such a one, the others on every type (RFC 7047, 5.1, <function>)
abbrev pub allows_function : ColumnType → Function → Bool
allows_function t f = if is_relation f then allows_relations t else true

-- the function of the word, if it is allowed on the column (RFC 7047, 5.1, <function>)
abbrev pub function_on : ColumnType → List ℕ → Option Function
function_on t word = option_and_then (λ f. if allows_function t f then Some f else None) (function_of word)

-- the value has one atom if the column is a scalar or the function is a relation
abbrev pub has_right_count : ColumnType → Function → Datum → Bool
has_right_count t f value = if is_scalar t || is_relation f then nat_eq (count value) 1 else true

-- the value that was read, of the right count
abbrev pub value_read : ColumnType → Function → Reading Datum → Result Datum ConditionFault
value_read t f reading.Unreadable = Err BadCondition
value_read t f reading.Clashing = Err Clash
value_read t f (Reads value) = if has_right_count t f value then Ok value else Err BadCondition

-- the condition with this value
abbrev pub with_value : List ℕ → Function → Result Datum ConditionFault → Result Condition ConditionFault
with_value column f value = result_map (λ read. record { column = column; function = f; value = read }) value

-- The condition with this function. Its value is read by the kinds of the column, and not by its constraints.
abbrev pub with_function : Names → ColumnType → Triple → Option Function → Result Condition ConditionFault
with_function names t c None = Err BadCondition
with_function names t c (Some f) = with_value c.column f (value_read t f (reads names (kinds_of t) c.value))

-- the condition on this column (RFC 7047, 5.1, <condition>)
abbrev pub condition_on : Names → Triple → Option Column → Result Condition ConditionFault
condition_on names c None = Err NoColumn
condition_on names c (Some column) = with_function names column.type_of c (function_on column.type_of c.word)

-- the condition on a column of the table (RFC 7047, 5.1, <condition>)
abbrev pub condition_of : Names → Table → Option Triple → Result Condition ConditionFault
condition_of names table None = Err BadCondition
condition_of names table (Some c) = condition_on names c (get table.columns c.column)

-- The condition that a tree is, or the first fault: its shape, its column, the function on that column, its value (this
-- server's order, over RFC 7047, 5.1, <condition>).
abbrev pub condition_read : Names → Table → Data → Result Condition ConditionFault
condition_read names table d = condition_of names table (triple_read d)

-- the table has the column of the condition, and the value is of its kinds, within their bounds (RFC 7047, 5.1, <condition>)
abbrev pub suits_condition : Table → Condition → Bool
suits_condition table c = is_some_and (λ column. is_of (kinds_of column.type_of) c.value) (get table.columns c.column)

-- ---- whether a row meets it

-- the number of a set of one integer (RFC 7047, 5.1, <function>)
abbrev pub lone_integer : List Atom → Option ℤ
lone_integer (Integer n ∷ []) = Some n
lone_integer atoms = None

-- the number of a column that holds one (RFC 7047, 5.1, <function>)
abbrev pub number_in : Datum → Option ℤ
number_in (Atoms atoms) = lone_integer (keys atoms)
number_in (Pairs pairs) = None

-- two numbers, and they pass the test (RFC 7047, 5.1, <function>)
abbrev pub are_numbers_so : (ℤ → ℤ → Bool) → Option ℤ → Option ℤ → Bool
are_numbers_so test None n = false
are_numbers_so test (Some m) None = false
are_numbers_so test (Some m) (Some n) = test m n

-- the map has the pair (RFC 7047, 5.1, <function>)
abbrev pub has_pair : AtomMap → Atom × Atom → Bool
has_pair pairs p = unwrap_or (option_map (same_atom p.1) (get pairs p.0)) false

-- every atom, or every pair, of the value is in the column (RFC 7047, 5.1, <function>)
abbrev pub includes : Datum → Datum → Bool
includes (Atoms column) (Atoms value) = list_all (contains_key column) (keys value)
includes (Pairs column) (Pairs value) = list_all (has_pair column) (entries value)
includes column value = false

-- no atom, or no pair, of the value is in the column (RFC 7047, 5.1, <function>)
abbrev pub excludes : Datum → Datum → Bool
excludes (Atoms column) (Atoms value) = list_all (λ a. not (contains_key column a)) (keys value)
excludes (Pairs column) (Pairs value) = list_all (λ p. not (has_pair column p)) (entries value)
excludes column value = true

-- what a column holds, compared with a value (RFC 7047, 5.1, <function>)
abbrev pub compares : Function → Datum → Datum → Bool
compares Less column value = are_numbers_so int_lt (number_in column) (number_in value)
compares LessOrEqual column value = are_numbers_so int_le (number_in column) (number_in value)
compares Greater column value = are_numbers_so int_lt (number_in value) (number_in column)
compares GreaterOrEqual column value = are_numbers_so int_le (number_in value) (number_in column)
compares Equal column value = same_datum column value
compares NotEqual column value = not (same_datum column value)
compares Includes column value = includes column value
compares Excludes column value = excludes column value

-- What a column of a row holds, by the identifier, the version and the other columns of the row (RFC 7047, 3.2).
abbrev pub column_value : Uuid → Uuid → Columns → List ℕ → Option Datum
column_value id version columns name =
    if bytes_eq name (codes "_uuid") then Some (one_uuid id)
    else (if bytes_eq name (codes "_version") then Some (one_uuid version)
    else get columns name)

-- the value of a row's column, `_uuid` and `_version` too (RFC 7047, 3.2)
abbrev pub entry_value : LineKey × Row → List ℕ → Option Datum
entry_value r = column_value r.0.1 r.1.version r.1.columns

-- the row, seen by what each of its columns holds, meets the condition (RFC 7047, 5.1, <condition>)
abbrev pub holds : (List ℕ → Option Datum) → Condition → Bool
holds row c = unwrap_or (option_map (λ column. compares c.function column c.value) (row c.column)) false
