-- The columns of a row, found one after another by a loop over the members of an object, or over the columns of a table.
use Rattle.std.proofs.Common.{◌≡◌, ℕ, List, [], ◌∷◌, filter, Bool, true, false, cond, not, ◌||◌, T, Some, is_some, refl, sym, ap, ◌∙◌, if◌then◌else◌}
use Rattle.std.specs.Prelude.{Result, Ok, Err}
use Rattle.std.specs.FinMap.{empty, get, insert, contains_key, entries, entries_sorted, is_sorted, get-insert}
use Rattle.std.specs.FinMap.Entries.{below_all}
use Rattle.std.specs.Cmp.{eq_by_cmp_equiv}
use Rattle.serde_json.specs.Data.{Data, Members, no_members, member}
use Rattle.ov_specs.specs.operations.Errors.{OpError}
use Rattle.ov_specs.specs.operations.GivenRow.{named_value, row_read, with_values}
use Rattle.ov_specs.specs.operations.Insert.{fitting_default, with_defaults}
use Rattle.ov_specs.specs.rows.Database.{Columns}
use Rattle.ov_specs.specs.rows.RowNames.{is_own_column, without_own_columns}
use Rattle.ov_specs.specs.schema.SchemaTypes.{Column, Table, name_cmp}
use Rattle.ov_specs.specs.values.Results.{result_map, result_and_then, each_or_fault}
use Rattle.ov_specs.specs.values.Value.{Datum}
use Rattle.ov_specs.specs.wire.Tree.{member_list}
use Rattle.ov_specs.proofs.laws.Names.{name_cmp_total, same_name}
use Rattle.ov_specs.proofs.laws.Results.{first_of_all}
use Rattle.ov_specs.proofs.laws.Truths.{left_holds, right_holds, not_tied}

abbrev Values : Type 0
Values = List (List ℕ × Datum)

-- the values put to the columns, or the fault
abbrev put_to : Columns → Result Values OpError → Result Columns OpError
put_to columns = result_map (λ values. with_values values columns)

-- a value that is put first
put_first : (name : List ℕ) (columns : Columns) (value : Result Datum OpError) (others : Result Values OpError)
    → put_to columns (first_of_all (named_value name value) others) ≡ result_and_then (λ datum. put_to (insert columns name datum) others) value
put_first name columns (Err error) others = refl
put_first name columns (Ok datum) (Err error) = refl
put_first name columns (Ok datum) (Ok values) = refl

-- ---- members

-- the columns, and those that the members name, each put as its member is read
abbrev pub read_to : (List ℕ → Data → Result Datum OpError) → Members → Columns → Result Columns OpError
read_to value no_members columns = Ok columns
read_to value (member name d members) columns = result_and_then (λ datum. read_to value members (insert columns name datum)) (value name d)

module _ (value : List ℕ → Data → Result Datum OpError) where
  put_read : (members : Members) (columns : Columns) → put_to columns (each_or_fault (λ m. named_value m.0 (value m.0 m.1)) (member_list members)) ≡ read_to value members columns
  put_read no_members columns = refl
  put_read (member name d members) columns =
      put_first name columns (value name d) (each_or_fault (λ m. named_value m.0 (value m.0 m.1)) (member_list members))
      ∙ ap (λ next. result_and_then next (value name d)) (λ i datum. put_read members (insert columns name datum) i)

  -- to read each member and then put the values is to put each value as its member is read
  pub row_read_on : (members : Members) → row_read value members ≡ read_to value members empty
  row_read_on members = put_read members empty

-- ---- defaults

-- the columns, and the defaults of those that they lack, each put as it is found
abbrev pub defaults_to : List (List ℕ × Column) → Columns → Result Columns OpError
defaults_to [] columns = Ok columns
defaults_to (c ∷ cs) columns =
    if is_own_column c.0 || contains_key columns c.0 then defaults_to cs columns
    else result_and_then (λ datum. defaults_to cs (insert columns c.0 datum)) (fitting_default c.1)

-- the columns that are not given
abbrev lacking : Columns → List (List ℕ × Column) → List (List ℕ × Column)
lacking columns cs = filter (λ c. not (contains_key columns c.0)) cs

-- a column that was just put is none of those after it
lacking_after : (columns : Columns) (name : List ℕ) (datum : Datum) (cs : List (List ℕ × Column)) → T (below_all name_cmp name cs) → lacking (insert columns name datum) (without_own_columns cs) ≡ lacking columns (without_own_columns cs)
lacking_after columns name datum [] below = refl
lacking_after columns name datum (c ∷ cs) below = by (is_own_column c.0) (lacking_after columns name datum cs (right_holds _ _ below))
  where
    apart : same_name c.0 name ≡ false
    apart = (eq_by_cmp_equiv name_cmp_total).symm c.0 name ∙ not_tied (name_cmp name c.0) (left_holds _ _ below)

    other : contains_key (insert columns name datum) c.0 ≡ contains_key columns c.0
    other = ap is_some (get-insert name_cmp_total columns name datum c.0 ∙ ap (λ b. cond b (Some datum) (get columns c.0)) apart)

    by : (own : Bool) → lacking (insert columns name datum) (without_own_columns cs) ≡ lacking columns (without_own_columns cs)
        → lacking (insert columns name datum) (cond (not own) (c ∷ without_own_columns cs) (without_own_columns cs)) ≡ lacking columns (cond (not own) (c ∷ without_own_columns cs) (without_own_columns cs))
    by true later = later
    by false later =
        ap (λ b. cond (not b) (c ∷ lacking (insert columns name datum) (without_own_columns cs)) (lacking (insert columns name datum) (without_own_columns cs))) other
        ∙ ap (λ rest. cond (not (contains_key columns c.0)) (c ∷ rest) rest) later

abbrev default_found : List ℕ × Column → Result (List ℕ × Datum) OpError
default_found c = named_value c.0 (fitting_default c.1)

-- the columns, and the defaults of those of these that are lacking
abbrev lacking_put : Columns → List (List ℕ × Column) → Result Columns OpError
lacking_put columns cs = put_to columns (each_or_fault default_found (lacking columns (without_own_columns cs)))

-- one more column in front: it needs no default, or has a value, or is given its default
default_first : (c : List ℕ × Column) (cs : List (List ℕ × Column)) (columns : Columns) → T (below_all name_cmp c.0 cs) → lacking_put columns cs ≡ defaults_to cs columns
    → ((datum : Datum) → lacking_put (insert columns c.0 datum) cs ≡ defaults_to cs (insert columns c.0 datum)) → lacking_put columns (c ∷ cs) ≡ defaults_to (c ∷ cs) columns
default_first c cs columns below same more = by (is_own_column c.0)
  where
    put_next : Datum → Result Columns OpError
    put_next datum = put_to (insert columns c.0 datum) (each_or_fault default_found (lacking columns (without_own_columns cs)))

    goes_on : (datum : Datum) → put_next datum ≡ defaults_to cs (insert columns c.0 datum)
    goes_on datum =
        ap (λ rest. put_to (insert columns c.0 datum) (each_or_fault default_found rest)) (sym (lacking_after columns c.0 datum cs below)) ∙ more datum

    by_given : (there : Bool) → put_to columns (each_or_fault default_found (cond (not there) (c ∷ lacking columns (without_own_columns cs)) (lacking columns (without_own_columns cs))))
        ≡ cond there (defaults_to cs columns) (result_and_then (λ datum. defaults_to cs (insert columns c.0 datum)) (fitting_default c.1))
    by_given true = same
    by_given false =
        put_first c.0 columns (fitting_default c.1) (each_or_fault default_found (lacking columns (without_own_columns cs)))
        ∙ ap (λ next. result_and_then next (fitting_default c.1)) (λ i datum. goes_on datum i)

    by : (own : Bool) → put_to columns (each_or_fault default_found (lacking columns (cond (not own) (c ∷ without_own_columns cs) (without_own_columns cs))))
        ≡ cond (own || contains_key columns c.0) (defaults_to cs columns) (result_and_then (λ datum. defaults_to cs (insert columns c.0 datum)) (fitting_default c.1))
    by true = same
    by false = by_given (contains_key columns c.0)

put_defaults : (cs : List (List ℕ × Column)) (columns : Columns) → T (is_sorted name_cmp cs) → lacking_put columns cs ≡ defaults_to cs columns
put_defaults [] columns sorted = refl
put_defaults (c ∷ cs) columns sorted =
    default_first c cs columns (left_holds _ _ sorted) (put_defaults cs columns (right_holds _ _ sorted))
    (λ datum. put_defaults cs (insert columns c.0 datum) (right_holds _ _ sorted))

-- to find the defaults of the columns that are not given and then put them is to put each as it is found
pub with_defaults_on : (table : Table) (given : Columns) → with_defaults table given ≡ defaults_to (entries table.columns) given
with_defaults_on table given = put_defaults (entries table.columns) given (entries_sorted table.columns)
