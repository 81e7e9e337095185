-- Worked conditions. Maps do not compute, so lookups in them and their listings are rewritten by their laws. More examples
-- are in the tests, in conditions.rt.
use Rattle.std.proofs.Common.{◌≡◌, ℕ, pos, List, [], ◌∷◌, map, length, Bool, true, false, T, Option, Some, None, Result, Ok, Err, option_map, refl, ap, ◌∙◌, codes}
use Rattle.std.specs.Str.{is_utf8, chars}
use Rattle.std.specs.Cmp.Lexicographic.{nat_list_cmp_total}
use Rattle.std.specs.FinMap.{FinMap, get, from_entries, find, keys, len, len-entries, is_sorted, get-from_entries}
use Rattle.serde_json.specs.Read.{read}
use Rattle.serde_json.proofs.OnLiterals.{serde_json_on_literals}
use Rattle.ov_specs.specs.operations.Conditions.{Function, Less, LessOrEqual, Greater, GreaterOrEqual, Equal, Includes, Excludes, Condition, ConditionFault, BadCondition, NoColumn, condition_read, compares, column_value, holds}
use Rattle.ov_specs.specs.rows.Database.{Columns, one_uuid}
use Rattle.ov_specs.specs.values.Uuid.{no_names}
use Rattle.ov_specs.specs.schema.SchemaTypes.{BaseType, Column, Table, name_cmp}
use Rattle.ov_specs.specs.values.Value.{AtomKind, Integers, Texts, Atom, Integer, Text, atom_cmp, marked, Datum, Atoms, Pairs, set_of, map_of}
use Rattle.ov_specs.proofs.laws.Order.{atom_cmp_total}
use Rattle.ov_specs.proofs.laws.ReadingBack.{keys-set_of, entries-from_entries}

-- ---- values of numbers, and maps from texts to numbers

abbrev numbers : List ℕ → List Atom
numbers ns = map (λ n. Integer (pos n)) ns

abbrev set : List ℕ → Datum
set ns = Atoms (set_of (numbers ns))

abbrev pairs : List (List ℕ × ℕ) → List (Atom × Atom)
pairs ps = map (λ p. (Text p.0, Integer (pos p.1))) ps

abbrev table : List (List ℕ × ℕ) → Datum
table ps = Pairs (map_of (pairs ps))

has : (xs : List Atom) (a : Atom) → get (set_of xs) a ≡ find atom_cmp a (map marked xs)
has xs a = get-from_entries atom_cmp_total (map marked xs) a

at : (ps : List (Atom × Atom)) (key : Atom) → get (map_of ps) key ≡ find atom_cmp key ps
at ps key = get-from_entries atom_cmp_total ps key

-- ---- sets

abbrev one_two : Datum
one_two = set (1 ∷ 2 ∷ [])

pub includes_one_of_two : compares Includes one_two (set (2 ∷ 3 ∷ [])) ≡ false
includes_one_of_two = rw (keys-set_of (numbers (2 ∷ 3 ∷ [])) tt) (rw (has (numbers (1 ∷ 2 ∷ [])) (Integer (pos 2)), has (numbers (1 ∷ 2 ∷ [])) (Integer (pos 3))) refl)

pub excludes_one_of_two : compares Excludes one_two (set (2 ∷ 3 ∷ [])) ≡ false
excludes_one_of_two = rw (keys-set_of (numbers (2 ∷ 3 ∷ [])) tt) (rw (has (numbers (1 ∷ 2 ∷ [])) (Integer (pos 2))) refl)

-- the empty set is included and excluded by each
pub excludes_nothing : compares Excludes one_two (set []) ≡ true
excludes_nothing = rw (keys-set_of [] tt) refl

pub includes_nothing : compares Includes one_two (set []) ≡ true
includes_nothing = rw (keys-set_of [] tt) refl

pub equals_no_part : compares Equal one_two (set (1 ∷ [])) ≡ false
equals_no_part = rw (keys-set_of (numbers (1 ∷ 2 ∷ [])) tt, keys-set_of (numbers (1 ∷ [])) tt) refl

-- ---- maps

abbrev a1 : List ℕ × ℕ
a1 = (codes "a", 1)

abbrev b2 : List ℕ × ℕ
b2 = (codes "b", 2)

abbrev a2 : List ℕ × ℕ
a2 = (codes "a", 2)

-- one of its keys with another value is no pair of a map
pub excludes_another_value : compares Excludes (table (a1 ∷ b2 ∷ [])) (table (a2 ∷ [])) ≡ true
excludes_another_value = rw (entries-from_entries (pairs (a2 ∷ [])) tt) (rw (at (pairs (a1 ∷ b2 ∷ [])) (Text (codes "a"))) refl)

pub includes_no_other_value : compares Includes (table (a1 ∷ b2 ∷ [])) (table (a2 ∷ [])) ≡ false
includes_no_other_value = rw (entries-from_entries (pairs (a2 ∷ [])) tt) (rw (at (pairs (a1 ∷ b2 ∷ [])) (Text (codes "a"))) refl)

-- ---- numbers

abbrev six : Datum
six = set (6 ∷ [])

abbrev as_listed : (ns : List ℕ) → T (is_sorted atom_cmp (map marked (numbers ns))) → keys (set_of (numbers ns)) ≡ numbers ns
as_listed ns h = keys-set_of (numbers ns) h

pub not_less_than_itself : compares Less six six ≡ false
not_less_than_itself = rw (as_listed (6 ∷ []) tt) refl

pub less_or_equal_to_itself : compares LessOrEqual six six ≡ true
less_or_equal_to_itself = rw (as_listed (6 ∷ []) tt) refl

-- how the column compares with 4, 5 and 6
abbrev against_4_5_6 : Function → Datum → List Bool
against_4_5_6 f d = map (λ n. compares f d (set (n ∷ []))) (4 ∷ 5 ∷ 6 ∷ [])

abbrev five : Datum
five = set (5 ∷ [])

pub five_is_less : against_4_5_6 Less five ≡ false ∷ false ∷ true ∷ []
five_is_less = rw (as_listed (4 ∷ []) tt, as_listed (5 ∷ []) tt, as_listed (6 ∷ []) tt) refl

pub five_is_less_or_equal : against_4_5_6 LessOrEqual five ≡ false ∷ true ∷ true ∷ []
five_is_less_or_equal = rw (as_listed (4 ∷ []) tt, as_listed (5 ∷ []) tt, as_listed (6 ∷ []) tt) refl

pub five_is_greater : against_4_5_6 Greater five ≡ true ∷ false ∷ false ∷ []
five_is_greater = rw (as_listed (4 ∷ []) tt, as_listed (5 ∷ []) tt, as_listed (6 ∷ []) tt) refl

pub five_is_greater_or_equal : against_4_5_6 GreaterOrEqual five ≡ true ∷ true ∷ false ∷ []
five_is_greater_or_equal = rw (as_listed (4 ∷ []) tt, as_listed (5 ∷ []) tt, as_listed (6 ∷ []) tt) refl

-- no relation holds of an empty column
abbrev never : List Bool
never = false ∷ false ∷ false ∷ []

pub nothing_is_less : against_4_5_6 Less (set []) ≡ never
nothing_is_less = rw (as_listed [] tt) refl

pub nothing_is_less_or_equal : against_4_5_6 LessOrEqual (set []) ≡ never
nothing_is_less_or_equal = rw (as_listed [] tt) refl

pub nothing_is_greater : against_4_5_6 Greater (set []) ≡ never
nothing_is_greater = rw (as_listed [] tt, as_listed (4 ∷ []) tt, as_listed (5 ∷ []) tt, as_listed (6 ∷ []) tt) refl

pub nothing_is_greater_or_equal : against_4_5_6 GreaterOrEqual (set []) ≡ never
nothing_is_greater_or_equal = rw (as_listed [] tt, as_listed (4 ∷ []) tt, as_listed (5 ∷ []) tt, as_listed (6 ∷ []) tt) refl

-- ---- reading

abbrev plain : AtomKind → BaseType
plain kind = record { kind = kind; choices = None; least = None; greatest = None; shortest = None; longest = None; refers = None }

abbrev column : Option BaseType → AtomKind → ℕ → Option ℕ → Column
column value kind min max = record { type_of = record { key = plain kind; value = value; min = pos min; max = option_map pos max }; is_ephemeral = false; is_mutable = true }

abbrev listed : List (List ℕ × Column)
listed =
    (codes "load", column None Integers 1 (Some 1)) ∷ (codes "tag", column None Integers 0 (Some 1))
    ∷ (codes "tags", column None Integers 0 None) ∷ (codes "ids", column (Some (plain Integers)) Texts 0 None) ∷ []

pub columns : FinMap name_cmp Column
columns = from_entries listed

column_is : (name : List ℕ) → get columns name ≡ find name_cmp name listed
unfolding columns
column_is name = get-from_entries nat_list_cmp_total listed name

abbrev switch : Table
switch = record { columns = columns; max_rows = None; is_root = true; indexes = [] }

abbrev condition : List ℕ → Option (Result Condition ConditionFault)
condition text = option_map (condition_read no_names switch) (read text)

pub len-one : (a : Atom) → len (set_of (a ∷ [])) ≡ 1
len-one a = len-entries (set_of (a ∷ [])) ∙ ap length (entries-from_entries (marked a ∷ []) tt)

len-of : (xs : List Atom) → T (is_sorted atom_cmp (map marked xs)) → len (set_of xs) ≡ length (map marked xs)
len-of xs h = len-entries (set_of xs) ∙ ap length (entries-from_entries (map marked xs) h)

abbrev load_below_5 : Condition
load_below_5 = record { column = codes "load"; function = Less; value = set (5 ∷ []) }

pub reads_below : condition (codes "[\"load\",\"<\",5]") ≡ Some (Ok load_below_5)
unfolding serde_json_on_literals
reads_below = rw (column_is (codes "load")) (rw (len-one (Integer (pos 5))) refl)

-- the value is read by the kinds of the column, and not by its constraints
pub set_of_two_for_an_optional : condition (codes "[\"tag\",\"==\",[\"set\",[5,6]]]") ≡ Some (Ok (record { column = codes "tag"; function = Equal; value = set (5 ∷ 6 ∷ []) }))
unfolding serde_json_on_literals
set_of_two_for_an_optional = rw (column_is (codes "tag")) refl

-- a relation is allowed on at most one integer
pub relation_on_an_optional : condition (codes "[\"tag\",\"<\",5]") ≡ Some (Ok (record { column = codes "tag"; function = Less; value = set (5 ∷ []) }))
unfolding serde_json_on_literals
relation_on_an_optional = rw (column_is (codes "tag")) (rw (len-one (Integer (pos 5))) refl)

pub relation_on_a_set : condition (codes "[\"tags\",\"<\",5]") ≡ Some (Err BadCondition)
unfolding serde_json_on_literals
relation_on_a_set = rw (column_is (codes "tags")) refl

-- and its value has one atom
pub relation_to_nothing : condition (codes "[\"tag\",\">=\",[\"set\",[]]]") ≡ Some (Err BadCondition)
unfolding serde_json_on_literals
relation_to_nothing = rw (column_is (codes "tag")) (rw (len-of [] tt) refl)

pub relation_to_two : condition (codes "[\"tag\",\"<\",[\"set\",[5,6]]]") ≡ Some (Err BadCondition)
unfolding serde_json_on_literals
relation_to_two = rw (column_is (codes "tag")) (rw (len-of (numbers (5 ∷ 6 ∷ [])) tt) refl)

-- shape, column, function and value are looked at in this order
pub no_such_column : condition (codes "[\"nowhere\",\"===\",1]") ≡ Some (Err NoColumn)
unfolding serde_json_on_literals
no_such_column = rw (column_is (codes "nowhere")) refl

-- a part of the value that does not read counts before a clash
pub unread_before_clash : condition (codes "[\"ids\",\"==\",[\"map\",[[\"a\",1],[\"a\",2],[1,1]]]]") ≡ Some (Err BadCondition)
unfolding is_utf8 chars serde_json_on_literals
unread_before_clash = rw (column_is (codes "ids")) refl

-- ---- rows

pub holds_by_its_column : holds (λ name. Some (set (4 ∷ []))) load_below_5 ≡ true
holds_by_its_column = rw (as_listed (4 ∷ []) tt, as_listed (5 ∷ []) tt) refl

-- of a port with tag 5 and one without a tag, the first is below 10
abbrev tag_below_10 : Condition
tag_below_10 = record { column = codes "tag"; function = Less; value = set (10 ∷ []) }

pub holds_of_a_tag : holds (λ name. Some (set (5 ∷ []))) tag_below_10 ≡ true
holds_of_a_tag = rw (as_listed (5 ∷ []) tt, as_listed (10 ∷ []) tt) refl

pub holds_of_no_tag : holds (λ name. Some (set [])) tag_below_10 ≡ false
holds_of_no_tag = rw (as_listed [] tt) refl

-- an identifier is a column of each row
pub own_identifier : (id version : List ℕ) (others : Columns) → column_value id version others (codes "_uuid") ≡ Some (one_uuid id)
own_identifier id version others = refl
