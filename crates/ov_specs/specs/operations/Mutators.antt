-- The mutations of a "mutate", and what they make of a column (RFC 7047, 5.1, <mutation>).
use Rattle.std.specs.Prelude.{ℕ, ℤ, ◌+ℤ◌, ◌-ℤ◌, ◌*ℤ◌, int_div, int_rem, ◌&&◌, ◌||◌, not, is_none, is_some, List, [], ◌∷◌, ◌++◌, map, filter, Bool, false, if◌then◌else◌, Option, Some, None, option_and_then, codes, Result, Ok, Err}
use Rattle.std.specs.List.{list_any, list_all}
use Rattle.std.specs.FinMap.{get, contains_key, keys, entries}
use Rattle.serde_json.specs.Data.{Data}
use Rattle.ov_specs.specs.operations.Conditions.{Triple, triple_read, is_zero, is_scalar, is_integers, number_in, has_pair}
use Rattle.ov_specs.specs.rows.Database.{same_atom}
use Rattle.ov_specs.specs.schema.Fitting.{fits}
use Rattle.ov_specs.specs.schema.Schema.{is_empty}
use Rattle.std.specs.Str.{bytes_eq}
use Rattle.ov_specs.specs.operations.Errors.{OpError, SyntaxError, UnknownColumn, ConstraintViolation}
use Rattle.ov_specs.specs.values.Reading as reading
use Rattle.ov_specs.specs.values.Reading.{Reading, Reads, tagged, reads}
use Rattle.ov_specs.specs.schema.SchemaTypes.{ColumnType, Column, Table, kinds_of}
use Rattle.ov_specs.specs.values.Results.{result_map}
use Rattle.ov_specs.specs.values.Uuid.{Names}
use Rattle.ov_specs.specs.values.Value.{Integers, is_in_64_bits, is_atom_of, is_of, Single, Pair, Kinds, Atom, Integer, Boolean, Text, Uuid, Datum, Atoms, Pairs, set_of, map_of}

-- ---- mutations

-- "+=", "-=", "*=", "/=", "%=" (RFC 7047, 5.1, <mutator>)
pub data Operator : Type 0 where
  Plus : Operator
  Minus : Operator
  Times : Operator
  Over : Operator
  Modulo : Operator

-- "+=" to "%=", "insert", "delete" (RFC 7047, 5.1, <mutator>)
pub data Mutator : Type 0 where
  Computes : (operator : Operator) → Mutator
  Inserts : Mutator
  Deletes : Mutator

-- What is done to a value: its numbers are computed, elements are inserted, or elements are deleted. A set that is deleted
-- from a map is a set of keys (RFC 7047, 5.1, <mutator>).
pub data Change : Type 0 where
  Compute : (operator : Operator) (by : ℤ) → Change
  Insert : (elements : Datum) → Change
  Delete : (elements : Datum) → Change

-- the name and the type of a column of the table, and what is done to it (RFC 7047, 5.1, <mutation>)
pub record Mutation : Type 0 where
  pub column : List ℕ
  pub type_of : ColumnType
  pub change : Change

-- why a tree is no mutation: it is malformed, names no column, has a key with two values, or its column is not mutable
pub data MutationFault : Type 0 where
  BadMutation : MutationFault
  NoColumn : MutationFault
  Clash : MutationFault
  NotMutable : MutationFault

-- the error of the operation (RFC 7047, 5.2; which one is this server's choice)
abbrev pub mutation_error : MutationFault → OpError
mutation_error BadMutation = SyntaxError
mutation_error NoColumn = UnknownColumn
mutation_error Clash = ConstraintViolation
mutation_error NotMutable = ConstraintViolation

-- ---- reading one

-- the mutator of a word (RFC 7047, 5.1, <mutator>)
abbrev pub mutator_of : List ℕ → Option Mutator
mutator_of word =
    if bytes_eq word (codes "+=") then Some (Computes Plus)
    else (if bytes_eq word (codes "-=") then Some (Computes Minus)
    else (if bytes_eq word (codes "*=") then Some (Computes Times)
    else (if bytes_eq word (codes "/=") then Some (Computes Over)
    else (if bytes_eq word (codes "%=") then Some (Computes Modulo)
    else (if bytes_eq word (codes "insert") then Some Inserts
    else (if bytes_eq word (codes "delete") then Some Deletes
    else None))))))

-- the mutator is allowed on the column: computing on integers, scalar or set, the others on sets and maps (RFC 7047, 5.1,
-- <mutator>)
abbrev pub allows_mutator : ColumnType → Mutator → Bool
allows_mutator t (Computes operator) = is_none t.value && is_integers t.key.kind
allows_mutator t Inserts = not (is_scalar t)
allows_mutator t Deletes = not (is_scalar t)

-- the mutator of the word, if it is allowed on the column (RFC 7047, 5.1, <mutator>)
abbrev pub mutator_on : ColumnType → List ℕ → Option Mutator
mutator_on t word = option_and_then (λ m. if allows_mutator t m then Some m else None) (mutator_of word)

-- a value that reads, as what is done
abbrev pub change_with : (Datum → Change) → Reading Datum → Result Change MutationFault
change_with change reading.Unreadable = Err BadMutation
change_with change reading.Clashing = Err Clash
change_with change (Reads elements) = Ok (change elements)

-- computing with a number, if there is one (RFC 7047, 5.1, <mutation>)
abbrev pub compute_with : Operator → Option ℤ → Result Change MutationFault
compute_with operator None = Err BadMutation
compute_with operator (Some by) = Ok (Compute operator by)

-- the number of one integer, read as for a scalar (RFC 7047, 5.1, <mutation>)
abbrev pub integer_of : Reading Datum → Option ℤ
integer_of reading.Unreadable = None
integer_of reading.Clashing = None
integer_of (Reads value) = number_in value

-- what is deleted from a column: on a map, a tree that begins with "map" is a map, and any other is a set of its keys (this
-- server's rule, over RFC 7047, 5.1, <mutation>)
abbrev pub deleted_kinds : Kinds → Data → Kinds
deleted_kinds (Single kind) d = Single kind
deleted_kinds (Pair key value) d = if is_some (tagged (codes "map") d) then Pair key value else Single key

-- what is done, with the value that a tree stands for: one integer, or elements (RFC 7047, 5.1, <mutation>)
abbrev pub change_read : Names → ColumnType → Mutator → Data → Result Change MutationFault
change_read names t (Computes operator) d = compute_with operator (integer_of (reads names (Single Integers) d))
change_read names t Inserts d = change_with Insert (reads names (kinds_of t) d)
change_read names t Deletes d = change_with Delete (reads names (deleted_kinds (kinds_of t) d) d)

-- the mutation of this column
abbrev pub with_change : List ℕ → ColumnType → Result Change MutationFault → Result Mutation MutationFault
with_change column t change = result_map (λ made. record { column = column; type_of = t; change = made }) change

-- the mutation with this mutator (RFC 7047, 5.1, <mutation>)
abbrev pub with_mutator : Names → ColumnType → Triple → Option Mutator → Result Mutation MutationFault
with_mutator names t m None = Err BadMutation
with_mutator names t m (Some mutator) = with_change m.column t (change_read names t mutator m.value)

-- the mutation of this column, which is mutable (RFC 7047, 5.1, <mutation>)
abbrev pub mutation_on : Names → Triple → Option Column → Result Mutation MutationFault
mutation_on names m None = Err NoColumn
mutation_on names m (Some column) =
    if column.is_mutable then with_mutator names column.type_of m (mutator_on column.type_of m.word) else Err NotMutable

-- the mutation of a column of the table (RFC 7047, 5.1, <mutation>)
abbrev pub mutation_of : Names → Table → Option Triple → Result Mutation MutationFault
mutation_of names table None = Err BadMutation
mutation_of names table (Some m) = mutation_on names m (get table.columns m.column)

-- The mutation that a tree is, or the first fault: its shape, its column, whether that is mutable, the mutator on it, its
-- value (this server's order, over RFC 7047, 5.1, <mutation>).
abbrev pub mutation_read : Names → Table → Data → Result Mutation MutationFault
mutation_read names table d = mutation_of names table (triple_read d)

-- Elements of the column's kinds, or only of the kind of its keys if they are deleted from a map; and a number of 64 bits if
-- the column holds integers (RFC 7047, 5.1, <mutation>).
abbrev pub suits_change : ColumnType → Change → Bool
suits_change t (Compute operator by) = allows_mutator t (Computes operator) && is_in_64_bits by
suits_change t (Insert elements) = is_of (kinds_of t) elements
suits_change t (Delete elements) = is_of (kinds_of t) elements || is_of (Single t.key.kind) elements

-- what is done suits the column (RFC 7047, 5.1, <mutation>)
abbrev pub suits_mutation : Mutation → Bool
suits_mutation m = suits_change m.type_of m.change

-- ---- what it makes of a value

-- why a value can't be mutated (RFC 7047, 5.2.4)
pub data MutateError : Type 0 where
  Domain : MutateError
  Range : MutateError
  Constraint : MutateError

-- unbounded whole numbers; a division truncates toward zero, and a remainder has the sign of the dividend (RFC 7047, 5.1,
-- <mutator>)
abbrev pub computed : Operator → ℤ → ℤ → ℤ
computed Plus by n = n +ℤ by
computed Minus by n = n -ℤ by
computed Times by n = n *ℤ by
computed Over by n = int_div n by
computed Modulo by n = int_rem n by

-- the same for an atom; atoms other than numbers stay
abbrev pub computed_atom : Operator → ℤ → Atom → Atom
computed_atom operator by (Integer n) = Integer (computed operator by n)
computed_atom operator by (Boolean b) = Boolean b
computed_atom operator by (Text text) = Text text
computed_atom operator by (Uuid bytes) = Uuid bytes

-- a division by zero (RFC 7047, 5.2.4, "domain error")
abbrev pub divides_by_zero : Operator → ℤ → Bool
divides_by_zero Plus by = false
divides_by_zero Minus by = false
divides_by_zero Times by = false
divides_by_zero Over by = is_zero by
divides_by_zero Modulo by = is_zero by

-- two of the atoms are equal (RFC 7047, 5.1, <set>)
abbrev pub has_equal_two : List Atom → Bool
has_equal_two [] = false
has_equal_two (a ∷ atoms) = list_any (same_atom a) atoms || has_equal_two atoms

-- the value, if it fits the column (RFC 7047, 5.2.4, "constraint violation")
abbrev pub fitting : ColumnType → Datum → Result Datum MutateError
fitting t d = if fits t d then Ok d else Err Constraint

-- the set of the results, which are numbers of 64 bits, no two equal, and fit the column (RFC 7047, 5.2.4)
abbrev pub of_results : ColumnType → List Atom → Result Datum MutateError
of_results t results =
    if not (list_all (is_atom_of Integers) results) then Err Range
    else (if has_equal_two results then Err Constraint else fitting t (Atoms (set_of results)))

-- each number of a set is computed; in an empty set nothing is divided (RFC 7047, 5.1, <mutator>)
abbrev pub all_computed : ColumnType → Operator → ℤ → List Atom → Result Datum MutateError
all_computed t operator by atoms =
    if divides_by_zero operator by && not (is_empty atoms) then Err Domain
    else of_results t (map (computed_atom operator by) atoms)

-- the union; a key that a map has keeps its value (RFC 7047, 5.1, <mutator>)
abbrev pub inserted : Datum → Datum → Datum
inserted (Atoms column) (Atoms elements) = Atoms (set_of (keys column ++ keys elements))
inserted (Pairs column) (Pairs elements) = Pairs (map_of (entries column ++ entries elements))
inserted column elements = column

-- the difference; a map loses equal pairs, or the pairs with these keys (RFC 7047, 5.1, <mutator>)
abbrev pub deleted : Datum → Datum → Datum
deleted (Atoms column) (Atoms elements) = Atoms (set_of (filter (λ a. not (contains_key elements a)) (keys column)))
deleted (Pairs column) (Pairs elements) = Pairs (map_of (filter (λ p. not (has_pair elements p)) (entries column)))
deleted (Pairs column) (Atoms elements) = Pairs (map_of (filter (λ p. not (contains_key elements p.0)) (entries column)))
deleted (Atoms column) (Pairs elements) = Atoms column

-- What a change makes of the value of a column: the first of a domain, a range and a constraint error that applies, or a
-- value that fits (RFC 7047, 5.2.4).
abbrev pub mutated : ColumnType → Change → Datum → Result Datum MutateError
mutated t (Compute operator by) (Atoms column) = all_computed t operator by (keys column)
mutated t (Compute operator by) (Pairs column) = Err Constraint
mutated t (Insert elements) column = fitting t (inserted column elements)
mutated t (Delete elements) column = fitting t (deleted column elements)
