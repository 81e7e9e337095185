-- What is read of a condition or a mutation suits its column, and so does what a mutation makes.
use Rattle.std.proofs.Common.{◌≡◌, ◌&&◌, ◌||◌, List, ℕ, Bool, true, false, Option, Some, None, Result, Ok, Err, if◌then◌else◌, ℤ, [], ◌∷◌, ◌++◌, map, not, is_some, is_none, codes, refl, sym, ap, subst, ◌∙◌}
use Rattle.std.proofs.lemmas.Bool.{and_parts, and_from}
use Rattle.std.proofs.lemmas.List.Folds.{list_all-append}
use Rattle.std.specs.List.{list_all}
use Rattle.std.specs.FinMap.{get, keys, entries, contains_key}
use Rattle.serde_json.specs.Data.{Data}
use Rattle.ov_specs.specs.operations.Conditions.{ConditionFault, BadCondition, Condition, Function, Triple, lone_integer, number_in, is_integers, has_pair, triple_read, function_on, has_right_count, value_read, with_value, with_function, condition_on, condition_of, condition_read, suits_condition}
use Rattle.ov_specs.specs.operations.Mutators.{MutationFault, Change, Compute, Insert, Delete, Mutation, Operator, Mutator, Computes, Inserts, Deletes, mutator_of, allows_mutator, mutator_on, change_with, compute_with, integer_of, deleted_kinds, change_read, with_change, with_mutator, mutation_on, mutation_of, mutation_read, suits_change, suits_mutation, NotMutable, MutateError, Domain, Range, Constraint, computed_atom, divides_by_zero, has_equal_two, fitting, of_results, all_computed, inserted, deleted, mutated}
use Rattle.ov_specs.specs.schema.Fitting.{fits}
use Rattle.ov_specs.specs.schema.Schema.{is_some_and, is_empty}
use Rattle.ov_specs.specs.schema.SchemaTypes.{BaseType, ColumnType, Column, Table, kinds_with, kinds_of}
use Rattle.ov_specs.specs.values.Reading.{Reading, Reads, Unreadable, Clashing, tagged, reads}
use Rattle.ov_specs.specs.values.Uuid.{Names, AreUuids}
use Rattle.ov_specs.specs.values.Value.{AtomKind, Integers, Booleans, Texts, Uuids, Kinds, Single, Pair, Atom, Integer, Boolean, Text, Uuid, Datum, Atoms, Pairs, is_in_64_bits, is_atom_of, is_pair_of, set_of, is_of}
use Rattle.ov_specs.proofs.laws.Lists.{all-filter}
use Rattle.ov_specs.proofs.laws.OfKinds.{Passes, passes-then, passes-if, reads_is_of, set_is_of, map_is_of}
use Rattle.ov_specs.proofs.laws.Truths.{or_truth}

-- the value, if there is one, passes the test
abbrev PassesOk : {A E : Type 0} → (A → Bool) → Result A E → Type 0
PassesOk test (Err fault) = Unit {0}
PassesOk test (Ok a) = test a ≡ true

-- ---- conditions

value_passes : (t : ColumnType) (f : Function) (r : Reading Datum) → ((v : Datum) → r ≡ Reads v → is_of (kinds_of t) v ≡ true) → PassesOk (is_of (kinds_of t)) (value_read t f r)
value_passes t f Unreadable h = tt
value_passes t f Clashing h = tt
value_passes t f (Reads v) h =
    elim (has_right_count t f v) as (λ b. PassesOk {E = ConditionFault} (is_of (kinds_of t)) (if b then Ok v else Err BadCondition)) [
      | true ↦ h v refl
      | false ↦ tt
    ]

module _ (table : Table) (name : List ℕ) (column : Column) (is : get table.columns name ≡ Some column) where
  with_value_passes : (f : Function) (r : Result Datum ConditionFault) → PassesOk (is_of (kinds_of column.type_of)) r → PassesOk (suits_condition table) (with_value name f r)
  with_value_passes f (Err fault) h = tt
  with_value_passes f (Ok v) h = ap (is_some_and (λ c. is_of (kinds_of c.type_of) v)) is ∙ h

  with_function_passes : (names : Names) → AreUuids names → (c : Triple) → c.column ≡ name → (f : Option Function) → PassesOk (suits_condition table) (with_function names column.type_of c f)
  with_function_passes names are c e None = tt
  with_function_passes names are c e (Some f) =
      let t = column.type_of in
      subst (λ n. PassesOk (suits_condition table) (with_value n f (value_read t f (reads names (kinds_of t) c.value)))) (sym e)
      (with_value_passes f _ (value_passes t f _ (reads_is_of names are (kinds_of t) c.value)))

module _ (names : Names) (are : AreUuids names) (table : Table) where
  condition_on_passes : (c : Triple) (found : Option Column) → get table.columns c.column ≡ found → PassesOk (suits_condition table) (condition_on names c found)
  condition_on_passes c None is = tt
  condition_on_passes c (Some column) is = with_function_passes table c.column column is names are c refl (function_on column.type_of c.word)

  condition_of_passes : (c : Option Triple) → PassesOk (suits_condition table) (condition_of names table c)
  condition_of_passes None = tt
  condition_of_passes (Some c) = condition_on_passes c (get table.columns c.column) refl

  -- the value of a condition is of its column's kinds
  pub condition_read_suits : (d : Data) (c : Condition) → condition_read names table d ≡ Ok c → suits_condition table c ≡ true
  condition_read_suits d c e = subst (PassesOk (suits_condition table)) e (condition_of_passes (triple_read d))

-- ---- mutations

lone_in_64_bits : (atoms : List Atom) → list_all (is_atom_of Integers) atoms ≡ true → Passes is_in_64_bits (lone_integer atoms)
lone_in_64_bits [] h = tt
lone_in_64_bits (Integer n ∷ []) h = (and_parts (is_in_64_bits n) true h).0
lone_in_64_bits (Integer n ∷ a ∷ atoms) h = tt
lone_in_64_bits (Boolean b ∷ atoms) h = tt
lone_in_64_bits (Text text ∷ atoms) h = tt
lone_in_64_bits (Uuid bytes ∷ atoms) h = tt

number_in_64_bits : (v : Datum) → is_of (Single Integers) v ≡ true → Passes is_in_64_bits (number_in v)
number_in_64_bits (Atoms s) h = lone_in_64_bits (keys s) h
number_in_64_bits (Pairs m) h = tt

integer_in_64_bits : (r : Reading Datum) → ((v : Datum) → r ≡ Reads v → is_of (Single Integers) v ≡ true) → Passes is_in_64_bits (integer_of r)
integer_in_64_bits Unreadable h = tt
integer_in_64_bits Clashing h = tt
integer_in_64_bits (Reads v) h = number_in_64_bits v (h v refl)

either_of : (key : AtomKind) (value : Option BaseType) (d : Data) (v : Datum) → is_of (deleted_kinds (kinds_with key value) d) v ≡ true
    → (is_of (kinds_with key value) v || is_of (Single key) v) ≡ true
either_of key None d v = λ h. ap (λ b. b || is_of (Single key) v) h
either_of key (Some value) d v =
    elim (is_some (tagged (codes "map") d)) as (λ b. is_of (if b then Pair key value.kind else Single key) v ≡ true → (is_of (Pair key value.kind) v || is_of (Single key) v) ≡ true) [
      | true ↦ λ h. ap (λ b. b || is_of (Single key) v) h
      | false ↦ λ h. ap (λ b. is_of (Pair key value.kind) v || b) h ∙ or_truth (is_of (Pair key value.kind) v)
    ]

module _ (t : ColumnType) where
  computes_passes : (operator : Operator) (n : Option ℤ) → allows_mutator t (Computes operator) ≡ true → Passes is_in_64_bits n → PassesOk (suits_change t) (compute_with operator n)
  computes_passes operator None allowed h = tt
  computes_passes operator (Some by) allowed h = and_from (allows_mutator t (Computes operator)) (is_in_64_bits by) allowed h

  change_passes : (change : Datum → Change) (r : Reading Datum) → ((v : Datum) → r ≡ Reads v → suits_change t (change v) ≡ true) → PassesOk (suits_change t) (change_with change r)
  change_passes change Unreadable h = tt
  change_passes change Clashing h = tt
  change_passes change (Reads v) h = h v refl

  change_read_passes : (names : Names) → AreUuids names → (m : Mutator) (d : Data) → allows_mutator t m ≡ true → PassesOk (suits_change t) (change_read names t m d)
  change_read_passes names are (Computes operator) d allowed = computes_passes operator _ allowed (integer_in_64_bits _ (reads_is_of names are (Single Integers) d))
  change_read_passes names are Inserts d allowed = change_passes Insert _ (reads_is_of names are (kinds_of t) d)
  change_read_passes names are Deletes d allowed =
      change_passes Delete _ (λ v is. either_of t.key.kind t.value d v (reads_is_of names are (deleted_kinds (kinds_of t) d) d v is))

  with_change_passes : (name : List ℕ) (r : Result Change MutationFault) → PassesOk (suits_change t) r → PassesOk suits_mutation (with_change name t r)
  with_change_passes name (Err fault) h = tt
  with_change_passes name (Ok change) h = h

  with_mutator_passes : (names : Names) → AreUuids names → (m : Triple) (mutator : Option Mutator) → Passes (allows_mutator t) mutator → PassesOk suits_mutation (with_mutator names t m mutator)
  with_mutator_passes names are m None allowed = tt
  with_mutator_passes names are m (Some mutator) allowed = with_change_passes m.column _ (change_read_passes names are mutator m.value allowed)

  mutator_on_passes : (word : List ℕ) → Passes (allows_mutator t) (mutator_on t word)
  mutator_on_passes word = passes-then (allows_mutator t) _ (λ m. passes-if (allows_mutator t) (allows_mutator t m) m (λ e. e)) (mutator_of word)

module _ (names : Names) (are : AreUuids names) where
  mutation_on_passes : (m : Triple) (found : Option Column) → PassesOk suits_mutation (mutation_on names m found)
  mutation_on_passes m None = tt
  mutation_on_passes m (Some column) =
      let t = column.type_of in
      elim column.is_mutable as (λ b. PassesOk {E = MutationFault} suits_mutation (if b then with_mutator names t m (mutator_on t m.word) else Err NotMutable)) [
        | true ↦ with_mutator_passes t names are m (mutator_on t m.word) (mutator_on_passes t m.word)
        | false ↦ tt
      ]

  mutation_of_passes : (table : Table) (m : Option Triple) → PassesOk suits_mutation (mutation_of names table m)
  mutation_of_passes table None = tt
  mutation_of_passes table (Some m) = mutation_on_passes m (get table.columns m.column)

  -- what a mutation does suits its column
  pub mutation_read_suits : (table : Table) (d : Data) (m : Mutation) → mutation_read names table d ≡ Ok m → suits_mutation m ≡ true
  mutation_read_suits table d m e = subst (PassesOk suits_mutation) e (mutation_of_passes table (triple_read d))

-- ---- what a mutation makes

all-both : {A : Type 0} (test : A → Bool) (xs ys : List A) → list_all test xs ≡ true → list_all test ys ≡ true → list_all test (xs ++ ys) ≡ true
all-both test xs ys h j = list_all-append test xs ys ∙ and_from (list_all test xs) (list_all test ys) h j

inserted_is_of : (kinds : Kinds) (v elements : Datum) → is_of kinds v ≡ true → is_of kinds elements ≡ true → is_of kinds (inserted v elements) ≡ true
inserted_is_of (Single kind) (Atoms s) (Atoms more) h j = set_is_of kind (keys s ++ keys more) (all-both (is_atom_of kind) (keys s) (keys more) h j)
inserted_is_of (Single kind) (Atoms s) (Pairs more) h j = h
inserted_is_of (Single kind) (Pairs m) elements h j = cc
inserted_is_of (Pair key value) (Atoms s) elements h j = cc
inserted_is_of (Pair key value) (Pairs m) (Atoms more) h j = h
inserted_is_of (Pair key value) (Pairs m) (Pairs more) h j = map_is_of key value (entries m ++ entries more) (all-both (is_pair_of key value) (entries m) (entries more) h j)

deleted_is_of : (kinds : Kinds) (v elements : Datum) → is_of kinds v ≡ true → is_of kinds (deleted v elements) ≡ true
deleted_is_of (Single kind) (Atoms s) (Atoms gone) h = set_is_of kind _ (all-filter (λ a. not (contains_key gone a)) (is_atom_of kind) (keys s) h)
deleted_is_of (Single kind) (Atoms s) (Pairs gone) h = h
deleted_is_of (Single kind) (Pairs m) elements h = cc
deleted_is_of (Pair key value) (Atoms s) elements h = cc
deleted_is_of (Pair key value) (Pairs m) (Atoms gone) h = map_is_of key value _ (all-filter (λ p. not (contains_key gone p.0)) (is_pair_of key value) (entries m) h)
deleted_is_of (Pair key value) (Pairs m) (Pairs gone) h = map_is_of key value _ (all-filter (λ p. not (has_pair gone p)) (is_pair_of key value) (entries m) h)

numbers_alone : (key : AtomKind) (value : Option BaseType) → (is_none value && is_integers key) ≡ true → kinds_with key value ≡ Single Integers
numbers_alone Integers None h = refl
numbers_alone Booleans None h = cc
numbers_alone Texts None h = cc
numbers_alone Uuids None h = cc
numbers_alone key (Some value) h = cc

module _ (t : ColumnType) where
  fitting_passes : (v : Datum) → is_of (kinds_of t) v ≡ true → PassesOk (is_of (kinds_of t)) (fitting t v)
  fitting_passes v h =
      elim (fits t v) as (λ b. PassesOk {E = MutateError} (is_of (kinds_of t)) (if b then Ok v else Err Constraint)) [
        | true ↦ h
        | false ↦ tt
      ]

  results_pass : kinds_of t ≡ Single Integers → (results : List Atom) → PassesOk (is_of (kinds_of t)) (of_results t results)
  results_pass numbers results =
      elim (list_all (is_atom_of Integers) results) as (λ b. list_all (is_atom_of Integers) results ≡ b
      → PassesOk {E = MutateError} (is_of (kinds_of t)) (if not b then Err Range else (if has_equal_two results then Err Constraint else fitting t (Atoms (set_of results))))) [
        | true ↦ λ all.
            elim (has_equal_two results) as (λ b. PassesOk {E = MutateError} (is_of (kinds_of t)) (if b then Err Constraint else fitting t (Atoms (set_of results)))) [
              | true ↦ tt
              | false ↦ fitting_passes (Atoms (set_of results)) (ap (λ kinds. is_of kinds (Atoms (set_of results))) numbers ∙ set_is_of Integers results all)
            ]
        | false ↦ λ all. tt
      ] refl

  computed_passes : kinds_of t ≡ Single Integers → (operator : Operator) (by : ℤ) (atoms : List Atom) → PassesOk (is_of (kinds_of t)) (all_computed t operator by atoms)
  computed_passes numbers operator by atoms =
      elim (divides_by_zero operator by && not (is_empty atoms)) as (λ b. PassesOk {E = MutateError} (is_of (kinds_of t)) (if b then Err Domain else of_results t (map (computed_atom operator by) atoms))) [
        | true ↦ tt
        | false ↦ results_pass numbers (map (computed_atom operator by) atoms)
      ]

  mutated_passes : (change : Change) (v : Datum) → suits_change t change ≡ true → is_of (kinds_of t) v ≡ true → PassesOk (is_of (kinds_of t)) (mutated t change v)
  mutated_passes (Compute operator by) (Atoms s) suits h =
      let allowed = (and_parts (allows_mutator t (Computes operator)) (is_in_64_bits by) suits).0 in
      computed_passes (numbers_alone t.key.kind t.value allowed) operator by (keys s)
  mutated_passes (Compute operator by) (Pairs m) suits h = tt
  mutated_passes (Insert elements) v suits h = fitting_passes (inserted v elements) (inserted_is_of (kinds_of t) v elements h suits)
  mutated_passes (Delete elements) v suits h = fitting_passes (deleted v elements) (deleted_is_of (kinds_of t) v elements h)

  -- a value of the column's kinds stays one
  pub mutated_is_of : (change : Change) (v made : Datum) → suits_change t change ≡ true → is_of (kinds_of t) v ≡ true → mutated t change v ≡ Ok made → is_of (kinds_of t) made ≡ true
  mutated_is_of change v made suits h e = subst (PassesOk (is_of (kinds_of t))) e (mutated_passes change v suits h)
