-- Worked mutations. Maps do not compute, so lookups in them and their listings are rewritten by their laws. More examples
-- are in the tests, in mutations.rt.
use Rattle.std.proofs.Common.{◌≡◌, ◌^◌, ◌-◌, ℕ, ℤ, pos, negsuc, List, [], ◌∷◌, map, length, true, false, T, Option, Some, None, Result, Ok, Err, Bool, cond, option_map, refl, sym, ap, ◌∙◌, codes}
use Rattle.std.specs.Str.{is_utf8, chars}
use Rattle.std.specs.Cmp.Lexicographic.{nat_list_cmp_total}
use Rattle.std.specs.FinMap.{FinMap, get, keys, entries, from_entries, find, len, len-entries, is_sorted, same_map, get-from_entries}
use Rattle.std.specs.Ordering.{eq_by_cmp}
use Rattle.serde_json.specs.Read.{read}
use Rattle.serde_json.proofs.OnLiterals.{serde_json_on_literals}
use Rattle.ov_specs.specs.operations.Mutators.{Plus, Times, Over, Modulo, Change, Compute, Insert, Delete, Mutation, MutationFault, Clash, NotMutable, mutation_read, Domain, Range, Constraint, mutated}
use Rattle.ov_specs.specs.schema.Fitting.{fits}
use Rattle.ov_specs.specs.values.Uuid.{no_names}
use Rattle.ov_specs.specs.schema.SchemaTypes.{BaseType, ColumnType, Column, Table, name_cmp}
use Rattle.ov_specs.specs.values.Value.{AtomKind, Integers, Texts, Atom, Integer, Text, atom_cmp, marked, Datum, Atoms, Pairs, set_of, map_of}
use Rattle.ov_specs.proofs.laws.Order.{atom_cmp_total, atom_cmp-IsAntisymmetric}
use Rattle.ov_specs.proofs.laws.ReadingBack.{keys-set_of, entries-from_entries}

-- ---- columns and values

abbrev plain : AtomKind → BaseType
plain kind = record { kind = kind; choices = None; least = None; greatest = None; shortest = None; longest = None; refers = None }

abbrev type : Option BaseType → AtomKind → ℕ → Option ℕ → ColumnType
type value kind min max = record { key = plain kind; value = value; min = pos min; max = option_map pos max }

abbrev scalar : ColumnType
scalar = type None Integers 1 (Some 1)

abbrev sets : ColumnType
sets = type None Integers 0 None

abbrev maps : ColumnType
maps = type (Some (plain Integers)) Texts 0 None

abbrev set : List ℤ → Datum
set ns = Atoms (set_of (map Integer ns))

abbrev pairs : List (List ℕ × ℕ) → List (Atom × Atom)
pairs ps = map (λ p. (Text p.0, Integer (pos p.1))) ps

abbrev table : List (List ℕ × ℕ) → Datum
table ps = Pairs (map_of (pairs ps))

keys-set : (ns : List ℤ) → T (is_sorted atom_cmp (map marked (map Integer ns))) → keys (set_of (map Integer ns)) ≡ map Integer ns
keys-set ns h = keys-set_of (map Integer ns) h

len-set : (ns : List ℤ) → T (is_sorted atom_cmp (map marked (map Integer ns))) → len (set_of (map Integer ns)) ≡ length (map marked (map Integer ns))
len-set ns h = len-entries (set_of (map Integer ns)) ∙ ap length (entries-from_entries (map marked (map Integer ns)) h)

len-table : (ps : List (List ℕ × ℕ)) → T (is_sorted atom_cmp (pairs ps)) → len (map_of (pairs ps)) ≡ length (pairs ps)
len-table ps h = len-entries (map_of (pairs ps)) ∙ ap length (entries-from_entries (pairs ps) h)

at : (ps : List (List ℕ × ℕ)) (key : List ℕ) → get (map_of (pairs ps)) (Text key) ≡ find atom_cmp (Text key) (pairs ps)
at ps key = get-from_entries atom_cmp_total (pairs ps) (Text key)

abbrev least : ℤ
least = negsuc (2 ^ 63 - 1)

abbrev greatest : ℤ
greatest = pos (2 ^ 63 - 1)

-- ---- computing

fits_scalar : (n : ℤ) → fits scalar (set (n ∷ [])) ≡ true
fits_scalar n = rw (len-set (n ∷ []) tt, keys-set (n ∷ []) tt) refl

-- a division truncates toward zero, and a remainder has the sign of the dividend
pub over : mutated scalar (Compute Over (pos 2)) (set (negsuc 6 ∷ [])) ≡ Ok (set (negsuc 2 ∷ []))
over = rw (keys-set (negsuc 6 ∷ []) tt) (rw (fits_scalar (negsuc 2)) refl)

pub modulo : mutated scalar (Compute Modulo (pos 2)) (set (negsuc 6 ∷ [])) ≡ Ok (set (negsuc 0 ∷ []))
modulo = rw (keys-set (negsuc 6 ∷ []) tt) (rw (fits_scalar (negsuc 0)) refl)

-- the least number of 64 bits
pub least_over_minus_one : mutated scalar (Compute Over (negsuc 0)) (set (least ∷ [])) ≡ Err Range
least_over_minus_one = rw (keys-set (least ∷ []) tt) refl

pub least_modulo_minus_one : mutated scalar (Compute Modulo (negsuc 0)) (set (least ∷ [])) ≡ Ok (set (pos 0 ∷ []))
least_modulo_minus_one = rw (keys-set (least ∷ []) tt) (rw (fits_scalar (pos 0)) refl)

-- no number can be divided by zero, and nothing can
pub divided_by_zero : mutated scalar (Compute Over (pos 0)) (set (pos 7 ∷ [])) ≡ Err Domain
divided_by_zero = rw (keys-set (pos 7 ∷ []) tt) refl

pub nothing_is_divided : mutated sets (Compute Over (pos 0)) (set []) ≡ Ok (set [])
nothing_is_divided = rw (keys-set [] tt) (rw (len-set [] tt) (rw (keys-set [] tt) refl))

-- both results are 1
pub equal_results : mutated sets (Compute Over (pos 2)) (set (pos 2 ∷ pos 3 ∷ [])) ≡ Err Constraint
equal_results = rw (keys-set (pos 2 ∷ pos 3 ∷ []) tt) refl

-- a result out of range counts before two that are equal
pub range_before_equal : mutated sets (Compute Times greatest) (set (pos 2 ∷ pos 3 ∷ [])) ≡ Err Range
range_before_equal = rw (keys-set (pos 2 ∷ pos 3 ∷ []) tt) refl

-- ---- sets

has : (ns : List ℤ) (n : ℤ) → get (set_of (map Integer ns)) (Integer n) ≡ find atom_cmp (Integer n) (map marked (map Integer ns))
has ns n = get-from_entries atom_cmp_total (map marked (map Integer ns)) (Integer n)

-- a column that may not be empty
abbrev one_or_more : ColumnType
one_or_more = type None Integers 1 None

abbrev one_two : List ℤ
one_two = pos 1 ∷ pos 2 ∷ []

pub last_goes : mutated one_or_more (Delete (set one_two)) (set one_two) ≡ Err Constraint
last_goes = rw (keys-set one_two tt) (rw (has one_two (pos 1), has one_two (pos 2)) (rw (len-set [] tt) refl))

-- ---- maps

abbrev a1 : List ℕ × ℕ
a1 = (codes "a", 1)

abbrev a5 : List ℕ × ℕ
a5 = (codes "a", 5)

abbrev b2 : List ℕ × ℕ
b2 = (codes "b", 2)

entries-table : (ps : List (List ℕ × ℕ)) → T (is_sorted atom_cmp (pairs ps)) → entries (map_of (pairs ps)) ≡ pairs ps
entries-table ps h = entries-from_entries (pairs ps) h

-- a key that is there keeps its value
first_stands : (b : Bool) (x y : Atom) (rest : Option Atom) → cond b (Some x) (cond b (Some y) rest) ≡ cond b (Some x) rest
first_stands true x y rest = refl
first_stands false x y rest = refl

a1-stands : map_of (pairs (a1 ∷ a5 ∷ b2 ∷ [])) ≡ map_of (pairs (a1 ∷ b2 ∷ []))
a1-stands = same_map atom_cmp_total atom_cmp-IsAntisymmetric _ _ (λ q.
    get-from_entries atom_cmp_total (pairs (a1 ∷ a5 ∷ b2 ∷ [])) q
    ∙ (first_stands (eq_by_cmp atom_cmp q (Text (codes "a"))) (Integer (pos 1)) (Integer (pos 5)) (find atom_cmp q (pairs (b2 ∷ [])))
    ∙ sym (get-from_entries atom_cmp_total (pairs (a1 ∷ b2 ∷ [])) q)))

pub insert_pairs : mutated maps (Insert (table (a5 ∷ b2 ∷ []))) (table (a1 ∷ [])) ≡ Ok (table (a1 ∷ b2 ∷ []))
insert_pairs =
    rw (entries-table (a1 ∷ []) tt, entries-table (a5 ∷ b2 ∷ []) tt)
    (rw a1-stands (rw (len-table (a1 ∷ b2 ∷ []) tt, entries-table (a1 ∷ b2 ∷ []) tt) refl))

-- only an equal pair goes
pub delete_another_value : mutated maps (Delete (table (a5 ∷ []))) (table (a1 ∷ [])) ≡ Ok (table (a1 ∷ []))
delete_another_value = rw (entries-table (a1 ∷ []) tt) (rw (at (a5 ∷ []) (codes "a")) (rw (len-table (a1 ∷ []) tt, entries-table (a1 ∷ []) tt) refl))

-- ---- reading

abbrev plain_column : ColumnType → Column
plain_column t = record { type_of = t; is_ephemeral = false; is_mutable = true }

abbrev listed : List (List ℕ × Column)
listed =
    (codes "tags", plain_column sets) ∷ (codes "ids", plain_column maps) ∷ (codes "fixed", record (plain_column scalar) { is_mutable = false }) ∷ []

pub columns : FinMap name_cmp Column
columns = from_entries listed

column_is : (name : List ℕ) → get columns name ≡ find name_cmp name listed
unfolding columns
column_is name = get-from_entries nat_list_cmp_total listed name

abbrev switch : Table
switch = record { columns = columns; max_rows = None; is_root = true; indexes = [] }

abbrev mutation : List ℕ → Option (Result Mutation MutationFault)
mutation text = option_map (mutation_read no_names switch) (read text)

abbrev of_column : List ℕ → ColumnType → Change → Option (Result Mutation MutationFault)
of_column column t change = Some (Ok (record { column = column; type_of = t; change = change }))

pub reads_plus_of_a_set : mutation (codes "[\"tags\",\"+=\",[\"set\",[2]]]") ≡ of_column (codes "tags") sets (Compute Plus (pos 2))
unfolding serde_json_on_literals
reads_plus_of_a_set = rw (column_is (codes "tags")) (rw (keys-set (pos 2 ∷ []) tt) refl)

pub reads_delete_of_one_key : mutation (codes "[\"ids\",\"delete\",\"a\"]") ≡ of_column (codes "ids") maps (Delete (Atoms (set_of (Text (codes "a") ∷ []))))
unfolding is_utf8 chars serde_json_on_literals
reads_delete_of_one_key = rw (column_is (codes "ids")) refl

-- a tree that begins with "map" is tried as a map alone
pub clash_in_delete : mutation (codes "[\"ids\",\"delete\",[\"map\",[[\"a\",1],[\"a\",5]]]]") ≡ Some (Err Clash)
unfolding is_utf8 chars serde_json_on_literals
clash_in_delete = rw (column_is (codes "ids")) refl

-- shape, column, whether that is mutable, mutator and value are looked at in this order
pub not_mutable : mutation (codes "[\"fixed\",\"++\",2]") ≡ Some (Err NotMutable)
unfolding serde_json_on_literals
not_mutable = rw (column_is (codes "fixed")) refl
