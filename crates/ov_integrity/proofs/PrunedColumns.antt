-- The columns of a row when each value is replaced by what remains of it, one after another.
use Rattle.std.proofs.Common.{◌≡◌, ℕ, List, [], ◌∷◌, Bool, true, false, cond, T, Option, Some, None, option_map, refl, sym, ap, ◌∙◌}
use Rattle.std.specs.FinMap.{get, insert, entries, find, is_sorted, entries_sorted, get-entries, get-insert, same_map}
use Rattle.ov_specs.specs.integrity.Committed.{pruned_datum, pruned_value, pruned_columns}
use Rattle.ov_specs.specs.rows.Database.{Columns, Database}
use Rattle.ov_specs.specs.schema.SchemaTypes.{name_cmp, Column, Table}
use Rattle.ov_specs.specs.values.Value.{Datum}
use Rattle.ov_specs.proofs.laws.Names.{name_cmp_total, name_exact, same_name, same_name-is, same_name-itself, find-first_not_later, sorted_rest}
use Rattle.ov_specs.proofs.laws.Pruning.{get-pruned_columns}

-- the columns with what remains of this value in the column of its name, if there is such a column
abbrev pub with_left : Database → Option Column → List ℕ × Datum → Columns → Columns
with_left rows None c columns = columns
with_left rows (Some column) c columns = insert columns c.0 (pruned_datum rows column.type_of c.1)

-- one value after another
abbrev pub with_all_left : Database → Table → List (List ℕ × Datum) → Columns → Columns
with_all_left rows table [] columns = columns
with_all_left rows table (c ∷ cs) columns = with_all_left rows table cs (with_left rows (get table.columns c.0) c columns)

nothing : (datum : Datum) → ◌≡◌ {A = Option Datum} None (Some datum) → ⊥
nothing datum e = cc

module _ (rows : Database) where
  get-with_left : (o : Option Column) (c : List ℕ × Datum) (columns : Columns) (name : List ℕ) → get columns c.0 ≡ Some c.1
      → get (with_left rows o c columns) name ≡ cond (same_name name c.0) (Some (pruned_value rows o c.1)) (get columns name)
  get-with_left None c columns name stands = by (same_name name c.0) refl
    where
      by : (b : Bool) → same_name name c.0 ≡ b → get columns name ≡ cond b (Some c.1) (get columns name)
      by true same = ap (get columns) (same_name-is name c.0 same) ∙ stands
      by false other = refl
  get-with_left (Some column) c columns name stands = get-insert name_cmp_total columns c.0 (pruned_datum rows column.type_of c.1) name

  module _ (table : Table) where
    abbrev left : List ℕ × Datum → Datum
    left c = pruned_value rows (get table.columns c.0) c.1

    -- what remains of a value that is found, or else what was there
    abbrev or_stands : List ℕ → Option Datum → Option Datum → Option Datum
    or_stands name (Some datum) stands = Some (left (name, datum))
    or_stands name None stands = stands

    get-with_all_left : (cs : List (List ℕ × Datum)) (columns : Columns) → T (is_sorted name_cmp cs) → ((name : List ℕ) (datum : Datum) → find name_cmp name cs ≡ Some datum → get columns name ≡ Some datum)
        → (name : List ℕ) → get (with_all_left rows table cs columns) name ≡ or_stands name (find name_cmp name cs) (get columns name)
    get-with_all_left [] columns sorted stand name = refl
    get-with_all_left (c ∷ cs) columns sorted stand name =
        get-with_all_left cs after (sorted_rest c cs sorted) later name ∙ ap (or_stands name (find name_cmp name cs)) (get-with_left column c columns name first)
        ∙ by (same_name name c.0) refl
      where
        column : Option Column
        column = get table.columns c.0

        after : Columns
        after = with_left rows column c columns

        first : get columns c.0 ≡ Some c.1
        first = stand c.0 c.1 (ap (λ b. cond b (Some c.1) (find name_cmp c.0 cs)) (same_name-itself c.0))

        later : (name : List ℕ) (datum : Datum) → find name_cmp name cs ≡ Some datum → get after name ≡ Some datum
        later name datum found = get-with_left column c columns name first ∙ at (same_name name c.0) refl
          where
            at : (b : Bool) → same_name name c.0 ≡ b → cond b (Some (left c)) (get columns name) ≡ Some datum
            at true same = absurd (nothing datum (sym (find-first_not_later c cs name sorted same) ∙ found))
            at false other = stand name datum (ap (λ b. cond b (Some c.1) (find name_cmp name cs)) other ∙ found)

        by : (b : Bool) → same_name name c.0 ≡ b
            → or_stands name (find name_cmp name cs) (cond b (Some (left c)) (get columns name)) ≡ or_stands name (cond b (Some c.1) (find name_cmp name cs)) (get columns name)
        by true same =
            ap (λ o. or_stands name o (Some (left c))) (find-first_not_later c cs name sorted same) ∙ ap (λ n. Some (left (n, c.1))) (sym (same_name-is name c.0 same))
        by false other = refl

    -- after all values the columns are pruned
    pub pruned_is : (columns : Columns) → with_all_left rows table (entries columns) columns ≡ pruned_columns rows (Some table) columns
    pruned_is columns =
        same_map name_cmp_total name_exact _ _ (λ name.
        get-with_all_left (entries columns) columns (entries_sorted columns) (λ n datum found. get-entries columns n ∙ found) name
        ∙ ap (λ o. or_stands name o (get columns name)) (sym (get-entries columns name)) ∙ by name (get columns name) ∙ sym (get-pruned_columns rows table columns name))
      where
        by : (name : List ℕ) (o : Option Datum) → or_stands name o o ≡ option_map (λ datum. left (name, datum)) o
        by name None = refl
        by name (Some datum) = refl
