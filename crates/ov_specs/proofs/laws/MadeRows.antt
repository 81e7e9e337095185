-- What is given to a row, and what mutations make of it, suits its table.
use Rattle.std.proofs.Common.{◌≡◌, ℕ, List, [], ◌∷◌, map, Bool, true, false, cond, Option, Some, None, if◌then◌else◌, refl, sym, ap, subst, ◌∙◌}
use Rattle.std.specs.Prelude.{◌&&◌, not, Result, Ok, Err}
use Rattle.std.specs.List.{list_all}
use Rattle.std.specs.FinMap.{empty, get, insert, keys, entries, get-insert}
use Rattle.std.proofs.lemmas.Bool.{and_parts, and_from}
use Rattle.std.proofs.lemmas.Option.{same_Some}
use Rattle.serde_json.specs.Data.{Data, Items, no_items, item, Members, no_members, member}
use Rattle.ov_specs.specs.operations.Conditions.{Triple, triple_read}
use Rattle.ov_specs.specs.operations.Errors.{OpError, ConstraintViolation}
use Rattle.ov_specs.specs.operations.GivenRow.{may_be_new, may_be_changed, given_value, given_values, with_values, fitting_reading}
use Rattle.ov_specs.specs.operations.Insert.{new_row, with_defaults}
use Rattle.ov_specs.specs.operations.Mutate.{mutations_read, mutate_error, mutated_value, mutated_columns, mutated_rows}
use Rattle.ov_specs.specs.operations.Mutators.{Change, Compute, Insert, Delete, Mutation, MutationFault, mutation_error, NotMutable, Mutator, mutator_on, change_read, with_change, with_mutator, mutation_on, mutation_of, mutation_read, suits_mutation, MutateError, Domain, Range, Constraint, divides_by_zero, computed_atom, has_equal_two, fitting, of_results, inserted, deleted, mutated}
use Rattle.ov_specs.specs.rows.RowNames.{is_own_column}
use Rattle.ov_specs.specs.operations.Update.{updated_row}
use Rattle.ov_specs.specs.rows.Database.{Columns, Row}
use Rattle.ov_specs.specs.rows.Lines.{LineKey}
use Rattle.ov_specs.specs.rows.Suits.{is_value_for, column_of_row, suits_column, SuitsTable}
use Rattle.ov_specs.specs.schema.SchemaTypes.{ColumnType, Column, Table, Schema, kinds_of}
use Rattle.ov_specs.specs.values.Reading.{Reading, Reads, Unreadable, Clashing, reads}
use Rattle.ov_specs.specs.values.Results.{result_map, result_map_err, result_and_then}
use Rattle.ov_specs.specs.values.Uuid.{Names, AreUuids}
use Rattle.ov_specs.specs.values.Value.{Integers, is_atom_of, Atom, Datum, Atoms, Pairs, set_of, is_of}
use Rattle.ov_specs.specs.schema.Fitting.{fits}
use Rattle.ov_specs.specs.schema.Schema.{is_empty}
use Rattle.ov_specs.proofs.laws.Names.{name_cmp_total, same_name, same_name-is, EachEntry, each_entry}
use Rattle.ov_specs.proofs.laws.Mutating.{mutated_at, column_mutated-at}
use Rattle.ov_specs.proofs.laws.OfColumns.{mutation_read_suits, mutated_is_of}
use Rattle.ov_specs.proofs.laws.OfKinds.{reads_is_of}
use Rattle.ov_specs.proofs.laws.Results.{first_of_all}
use Rattle.ov_specs.proofs.laws.RowReading.{read_to, row_read_on, with_defaults_on}
use Rattle.ov_specs.proofs.laws.SuitingColumns.{fitted, IsGiven, column_is, SuitsSoFar, suits_so_far, none_suits, one_more_suits, defaults_complete, MakesComplete, complete_suits, MakesRow}
use Rattle.ov_specs.proofs.laws.FoundRows.{AreFound, AreMade}

-- ---- columns that are given

-- only columns that rows do not have by themselves
abbrev pub AreOthers : (List ℕ → Column → Bool) → Type 0
AreOthers may_be = (name : List ℕ) (column : Column) → may_be name column ≡ true → is_own_column name ≡ false

pub not_true : (b : Bool) → not b ≡ true → b ≡ false
not_true true h = cc
not_true false h = refl

pub new_are_others : AreOthers may_be_new
new_are_others name column h = not_true (is_own_column name) h

pub changed_are_others : AreOthers may_be_changed
changed_are_others name column h = not_true (is_own_column name) (and_parts (not (is_own_column name)) column.is_mutable h).0

module _ (may_be : List ℕ → Column → Bool) (others : AreOthers may_be) (names : Names) (are : AreUuids names) (table : Table) where
  read_suits : (column : Column) (d : Data) (datum : Datum) → fitting_reading column (reads names (kinds_of column.type_of) d) ≡ Ok datum → is_value_for column datum ≡ true
  read_suits column d datum = by (reads names (kinds_of column.type_of) d) refl
    where
      by : (r : Reading Datum) → reads names (kinds_of column.type_of) d ≡ r → fitting_reading column r ≡ Ok datum → is_value_for column datum ≡ true
      by Unreadable is h = cc
      by Clashing is h = cc
      by (Reads v) is h = fitted column v datum (reads_is_of names are (kinds_of column.type_of) d v is) h

  value_is : (name : List ℕ) (d : Data) (datum : Datum) → given_value may_be names name (get table.columns name) d ≡ Ok datum → IsGiven table name datum
  value_is name d datum = by (get table.columns name) refl
    where
      by_may : (column : Column) (b : Bool) → get table.columns name ≡ Some column → may_be name column ≡ b
          → ◌≡◌ {A = Result Datum OpError} (if b then fitting_reading column (reads names (kinds_of column.type_of) d) else Err ConstraintViolation) (Ok datum) → IsGiven table name datum
      by_may column true is may h = (column, column_is table name column (others name column may) is, read_suits column d datum h)
      by_may column false is may h = cc

      by : (o : Option Column) → get table.columns name ≡ o → given_value may_be names name o d ≡ Ok datum → IsGiven table name datum
      by None is h = cc
      by (Some column) is h = by_may column (may_be name column) is refl h

  abbrev pub GivesSuiting : Result Columns OpError → Type 0
  GivesSuiting (Ok columns) = SuitsSoFar table columns
  GivesSuiting (Err error) = Unit {0}

  abbrev given_at : List ℕ → Data → Result Datum OpError
  given_at name d = given_value may_be names name (get table.columns name) d

  read_suit : (members : Members) (columns : Columns) → SuitsSoFar table columns → GivesSuiting (read_to given_at members columns)
  read_suit no_members columns suits = suits
  read_suit (member name d members) columns suits =
      by (given_at name d) refl (λ datum given. read_suit members (insert columns name datum) (one_more_suits table columns name datum given suits))
    where
      by : (r : Result Datum OpError) → given_at name d ≡ r → ((datum : Datum) → IsGiven table name datum → GivesSuiting (read_to given_at members (insert columns name datum)))
          → GivesSuiting (result_and_then (λ datum. read_to given_at members (insert columns name datum)) r)
      by (Err error) is next = tt
      by (Ok datum) is next = next datum (value_is name d datum is)

  pub given_suit : (members : Members) → GivesSuiting (given_values may_be names table members)
  given_suit members = subst GivesSuiting (sym (row_read_on given_at members)) (read_suit members empty (none_suits table))

-- ---- columns that are put in their places

pub put_column_suits : (table : Table) (columns : Columns) (name : List ℕ) (datum : Datum) → suits_column (column_of_row table name) (Some datum) ≡ true → SuitsTable table columns → SuitsTable table (insert columns name datum)
put_column_suits table columns name datum is_one suits q =
    ap (suits_column (column_of_row table q)) (get-insert name_cmp_total columns name datum q) ∙ by (same_name q name) refl
  where
    by : (b : Bool) → same_name q name ≡ b → suits_column (column_of_row table q) (cond b (Some datum) (get columns q)) ≡ true
    by true is = ap (λ n. suits_column (column_of_row table n) (Some datum)) (same_name-is q name is) ∙ is_one
    by false is = suits q

pub values_suit : (table : Table) (values : List (List ℕ × Datum)) (columns : Columns) → EachEntry (λ name datum. suits_column (column_of_row table name) (Some datum) ≡ true) values → SuitsTable table columns
    → SuitsTable table (with_values values columns)
values_suit table [] columns all suits = suits
values_suit table (v ∷ values) columns all suits = values_suit table values (insert columns v.0 v.1) all.1 (put_column_suits table columns v.0 v.1 all.0 suits)

pub each_suits : (table : Table) (given : Columns) → SuitsSoFar table given → (es : List (List ℕ × Datum)) → EachEntry (λ name datum. get given name ≡ Some datum) es
    → EachEntry (λ name datum. suits_column (column_of_row table name) (Some datum) ≡ true) es
each_suits table given suits [] all = tt
each_suits table given suits (e ∷ es) all = (sym (ap (suits_so_far (column_of_row table e.0)) all.0) ∙ suits e.0, each_suits table given suits es all.1)

pub updated_are : (schema : Schema) (table : Table) (given : Columns) → SuitsSoFar table given → (found : List (LineKey × Row)) → AreFound schema table found → AreMade schema table (map (updated_row given) found)
updated_are schema table given suits [] all = tt
updated_are schema table given suits (r ∷ found) all = (
  record { named = all.0.named; id = all.0.id; suits = values_suit table (entries given) r.1.columns (each_suits table given suits (entries given) (each_entry given)) all.0.suits },
  updated_are schema table given suits found all.1,
)

-- ---- what a mutation makes fits

abbrev pub MakesFitting : ColumnType → Result Datum MutateError → Type 0
MakesFitting t (Ok datum) = fits t datum ≡ true
MakesFitting t (Err error) = Unit {0}

pub fitting_fits : (t : ColumnType) (datum : Datum) → MakesFitting t (fitting t datum)
fitting_fits t datum = by (fits t datum) refl
  where
    by : (b : Bool) → fits t datum ≡ b → MakesFitting t (if b then Ok datum else Err Constraint)
    by true is = is
    by false is = tt

pub results_fit : (t : ColumnType) (results : List Atom) → MakesFitting t (of_results t results)
results_fit t results = by (not (list_all (is_atom_of Integers) results)) (has_equal_two results)
  where
    by : (out equal : Bool) → MakesFitting t (if out then Err Range else (if equal then Err Constraint else fitting t (Atoms (set_of results))))
    by true equal = tt
    by false true = tt
    by false false = fitting_fits t (Atoms (set_of results))

pub computed_fit : (t : ColumnType) (domain : Bool) (r : Result Datum MutateError) → MakesFitting t r → MakesFitting t (if domain then Err Domain else r)
computed_fit t true r made = tt
computed_fit t false r made = made

pub mutated_fit : (t : ColumnType) (change : Change) (datum : Datum) → MakesFitting t (mutated t change datum)
mutated_fit t (Compute operator by) (Atoms s) =
    computed_fit t (divides_by_zero operator by && not (is_empty (keys s))) _ (results_fit t (map (computed_atom operator by) (keys s)))
mutated_fit t (Compute operator by) (Pairs m) = tt
mutated_fit t (Insert elements) datum = fitting_fits t (inserted datum elements)
mutated_fit t (Delete elements) datum = fitting_fits t (deleted datum elements)

-- ---- mutations of the table's columns

-- the mutation is one of a column of the table, and suits it
pub record IsOf (table : Table) (m : Mutation) : Type 0 where
  pub column : Column
  pub found : get table.columns m.column ≡ Some column
  pub same : m.type_of ≡ column.type_of
  pub suits : suits_mutation m ≡ true

abbrev pub AreOf : Table → List Mutation → Type 0
AreOf table [] = Unit {0}
AreOf table (m ∷ ms) = IsOf table m × AreOf table ms

abbrev pub OfColumn : Table → Result Mutation MutationFault → Type 0
OfColumn table (Err fault) = Unit {0}
OfColumn table (Ok m) = (column : Column) × (get table.columns m.column ≡ Some column) × (m.type_of ≡ column.type_of)

pub change_of : (table : Table) (name : List ℕ) (column : Column) → get table.columns name ≡ Some column → (r : Result Change MutationFault) → OfColumn table (with_change name column.type_of r)
change_of table name column is (Err fault) = tt
change_of table name column is (Ok change) = (column, is, refl)

pub mutator_of_column : (names : Names) (table : Table) (m : Triple) (column : Column) → get table.columns m.column ≡ Some column → (mutator : Option Mutator) → OfColumn table (with_mutator names column.type_of m mutator)
mutator_of_column names table m column is None = tt
mutator_of_column names table m column is (Some mutator) = change_of table m.column column is (change_read names column.type_of mutator m.value)

pub on_column : (names : Names) (table : Table) (m : Triple) (found : Option Column) → get table.columns m.column ≡ found → OfColumn table (mutation_on names m found)
on_column names table m None is = tt
on_column names table m (Some column) is = by column.is_mutable
  where
    by : (b : Bool) → OfColumn table (if b then with_mutator names column.type_of m (mutator_on column.type_of m.word) else Err NotMutable)
    by true = mutator_of_column names table m column is (mutator_on column.type_of m.word)
    by false = tt

pub read_of : (names : Names) (table : Table) (m : Option Triple) → OfColumn table (mutation_of names table m)
read_of names table None = tt
read_of names table (Some m) = on_column names table m (get table.columns m.column) refl

pub mutation_is : (names : Names) → AreUuids names → (table : Table) (d : Data) (m : Mutation) → mutation_read names table d ≡ Ok m → IsOf table m
mutation_is names are table d m e =
    let of : OfColumn table (Ok m) = subst (OfColumn table) e (read_of names table (triple_read d)) in
    record { column = of.0; found = of.1; same = of.2; suits = mutation_read_suits names are table d m e }

abbrev pub MakesMutations : Table → Result (List Mutation) OpError → Type 0
MakesMutations table (Ok ms) = AreOf table ms
MakesMutations table (Err error) = Unit {0}

pub mutations_are : (names : Names) → AreUuids names → (table : Table) (ds : Items) → MakesMutations table (mutations_read names table ds)
mutations_are names are table no_items = tt
mutations_are names are table (item d ds) = by (mutation_read names table d) refl (mutations_read names table ds) (mutations_are names are table ds)
  where
    by : (r : Result Mutation MutationFault) → mutation_read names table d ≡ r → (others : Result (List Mutation) OpError) → MakesMutations table others → MakesMutations table (first_of_all (result_map_err mutation_error r) others)
    by (Err fault) is others made = tt
    by (Ok m) is (Err error) made = tt
    by (Ok m) is (Ok ms) made = (mutation_is names are table d m is, made)

-- ---- mutated rows

pub no_error : (r : Result Datum MutateError) (datum : Datum) → result_map_err mutate_error r ≡ Ok datum → r ≡ Ok datum
no_error (Err error) datum h = cc
no_error (Ok v) datum h = cc

module _ (table : Table) (m : Mutation) (of : IsOf table m) where
  made_is_one : (old datum : Datum) (column : Option Column) → column_of_row table m.column ≡ column → suits_column column (Some old) ≡ true → mutated m.type_of m.change old ≡ Ok datum
      → suits_column column (Some datum) ≡ true
  made_is_one old datum None is h e = cc
  made_is_one old datum (Some column) is h e =
      let at : get table.columns m.column ≡ Some column = by (is_own_column m.column) is in
      let same : m.type_of ≡ column.type_of = of.same ∙ ap (λ (x : Column). x.type_of) (same_Some of.column column (sym of.found ∙ at)) in
      let kinds : is_of (kinds_of m.type_of) old ≡ true = subst (λ t. is_of (kinds_of t) old ≡ true) (sym same) (and_parts (is_of (kinds_of column.type_of) old) (fits column.type_of old) h).0 in
      let made : is_of (kinds_of m.type_of) datum ≡ true = mutated_is_of m.type_of m.change old datum of.suits kinds e in
      let fit : fits m.type_of datum ≡ true = subst (MakesFitting m.type_of) e (mutated_fit m.type_of m.change old) in
      subst (λ t. (is_of (kinds_of t) datum && fits t datum) ≡ true) same (and_from (is_of (kinds_of m.type_of) datum) (fits m.type_of datum) made fit)
    where
      by : (b : Bool) → (if b then None else get table.columns m.column) ≡ Some column → get table.columns m.column ≡ Some column
      by true k = cc
      by false k = k

  value_is_one : (columns : Columns) (old datum : Datum) → SuitsTable table columns → get columns m.column ≡ Some old → mutated_value m old ≡ Ok datum → suits_column (column_of_row table m.column) (Some datum) ≡ true
  value_is_one columns old datum suits is h =
      made_is_one old datum (column_of_row table m.column) refl (sym (ap (suits_column (column_of_row table m.column)) is) ∙ suits m.column) (no_error (mutated m.type_of m.change old) datum h)

pub mutated_suit : (table : Table) (ms : List Mutation) → AreOf table ms → (columns : Columns) → SuitsTable table columns → MakesRow table (mutated_columns ms columns)
mutated_suit table [] of columns suits = suits
mutated_suit table (m ∷ ms) of columns suits =
    subst (λ r. MakesRow table (result_and_then (λ changed. mutated_columns ms changed) r)) (sym (column_mutated-at m columns))
    (by (get columns m.column) refl (λ changed changed_suits. mutated_suit table ms of.1 changed changed_suits))
  where
    made : (old : Datum) → get columns m.column ≡ Some old → (r : Result Datum OpError) → mutated_value m old ≡ r → ((changed : Columns) → SuitsTable table changed → MakesRow table (mutated_columns ms changed))
        → MakesRow table (result_and_then (λ changed. mutated_columns ms changed) (result_map (λ datum. insert columns m.column datum) r))
    made old is (Err error) h next = tt
    made old is (Ok datum) h next = next (insert columns m.column datum) (put_column_suits table columns m.column datum (value_is_one table m of.0 columns old datum suits is h) suits)

    by : (o : Option Datum) → get columns m.column ≡ o → ((changed : Columns) → SuitsTable table changed → MakesRow table (mutated_columns ms changed))
        → MakesRow table (result_and_then (λ changed. mutated_columns ms changed) (mutated_at m columns o))
    by None is next = next columns suits
    by (Some old) is next = made old is (mutated_value m old) refl next

abbrev pub MakesRows : Schema → Table → Result (List (LineKey × Columns)) OpError → Type 0
MakesRows schema table (Ok changed) = AreMade schema table changed
MakesRows schema table (Err error) = Unit {0}

pub mutated_are : (schema : Schema) (table : Table) (ms : List Mutation) → AreOf table ms → (found : List (LineKey × Row)) → AreFound schema table found → MakesRows schema table (mutated_rows ms found)
mutated_are schema table ms of [] all = tt
mutated_are schema table ms of (r ∷ found) all = by (mutated_columns ms r.1.columns) (mutated_suit table ms of r.1.columns all.0.suits) (mutated_rows ms found) (mutated_are schema table ms of found all.1)
  where
    by : (made : Result Columns OpError) → MakesRow table made → (others : Result (List (LineKey × Columns)) OpError) → MakesRows schema table others → MakesRows schema table (first_of_all (result_map (λ columns. (r.0, columns)) made) others)
    by (Err error) suits others more = tt
    by (Ok columns) suits (Err error) more = tt
    by (Ok columns) suits (Ok others) more = (record { named = all.0.named; id = all.0.id; suits = suits }, more)

-- ---- a new row

pub new_row_suits : (names : Names) → AreUuids names → (table : Table) (members : Members) → MakesRow table (new_row names table members)
new_row_suits names are table members = by (given_values may_be_new names table members) (given_suit may_be_new new_are_others names are table members)
  where
    by_defaults : (before : Columns) (r : Result Columns OpError) → MakesComplete table (entries table.columns) before r → MakesRow table r
    by_defaults before (Err error) made = tt
    by_defaults before (Ok after) made = complete_suits table before after made

    by : (r : Result Columns OpError) → GivesSuiting may_be_new new_are_others names are table r → MakesRow table (result_and_then (with_defaults table) r)
    by (Err error) made = tt
    by (Ok columns) made =
        by_defaults columns (with_defaults table columns)
        (subst (MakesComplete table (entries table.columns) columns) (sym (with_defaults_on table columns)) (defaults_complete table (entries table.columns) columns (each_entry table.columns) made))
