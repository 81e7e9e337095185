-- Rows without weak references to missing rows: their values, their columns, and all rows.
use Rattle.std.proofs.Common.{◌≡◌, ℕ, List, [], ◌∷◌, filter, Bool, true, false, cond, T, Option, Some, None, is_some, option_map, option_and_then, refl, sym, ap, ◌∙◌}
use Rattle.std.proofs.lemmas.Option.{same_Some}
use Rattle.std.specs.FinMap.{get, insert, entries, keys, find, is_sorted, entries_sorted, get-entries, get-insert, same_map}
use Rattle.std.specs.List.{list_any, filter_map}
use Rattle.std.specs.Option.{option_or}
use Rattle.std.specs.Ordering.{eq_by_cmp}
use Rattle.ov_specs.specs.integrity.Committed.{dangles, pruned_datum, pruned_value, pruned_columns, pruned_row, pruned}
use Rattle.ov_specs.specs.operations.GivenRow.{with_values}
use Rattle.ov_specs.specs.rows.Database.{Columns, Row, Database}
use Rattle.ov_specs.specs.rows.Lines.{LineKey, line_cmp}
use Rattle.ov_specs.specs.rows.Version.{row_now}
use Rattle.ov_specs.specs.schema.SchemaTypes.{name_cmp, Column, Table, Schema}
use Rattle.ov_specs.specs.values.Reading.{has_clash}
use Rattle.ov_specs.specs.values.Uuid.{Uuid}
use Rattle.ov_specs.specs.values.Value.{Atom, atom_cmp, AtomMap, Datum, Atoms, Pairs, pairs_in}
use Rattle.ov_specs.proofs.laws.Clashing.{has_clash-ascending}
use Rattle.ov_specs.proofs.laws.LineKeys.{key_total, key_exact}
use Rattle.ov_specs.proofs.laws.Names.{name_cmp_total, name_exact, same_name, same_name-is, same_name-itself, find-first_not_later, sorted_rest}
use Rattle.ov_specs.proofs.laws.Pruning.{get-pruned_columns, get-pruned}
use Rattle.ov_specs.proofs.laws.PrunedValues.{is_sorted-filter}
use Rattle.ov_carried.specs.Making.{keyed}
use Rattle.ov_carried.proofs.Made.{get-with_made, with_values-made, is_among-keys}
use Rattle.ov_conversion.specs.Pruning.{repaired, repaired_at}

-- ---- pairs that remain of a map make a map again

module _ (kept : Atom × Atom → Bool) where
  left_unclashed : (m : AtomMap) → has_clash (filter kept (entries m)) ≡ false
  left_unclashed m = has_clash-ascending (filter kept (entries m)) (is_sorted-filter atom_cmp kept (entries m) (entries_sorted m))

  unclashed : (datum : Datum) (pairs left : List (Atom × Atom)) → Some pairs ≡ pairs_in datum → left ≡ filter kept pairs → has_clash left ≡ false
  unclashed (Atoms s) pairs left are of_them = cc
  unclashed (Pairs m) pairs left are of_them = ap has_clash (of_them ∙ ap (filter kept) (same_Some pairs (entries m) are)) ∙ left_unclashed m

  -- so it cannot be that there is none
  pub no_clash : (datum : Datum) (pairs left : List (Atom × Atom)) → Some pairs ≡ pairs_in datum → left ≡ filter kept pairs
      → (made : Datum) (o : Option Datum) → o ≡ cond (has_clash left) None (Some made) → o ≡ None → ⊥
  no_clash datum pairs left are of_them made o is none =
      no (sym none ∙ is ∙ ap (λ b. cond b None (Some made)) (unclashed datum pairs left are of_them))
    where
      no : ◌≡◌ {A = Option Datum} None (Some made) → ⊥
      no e = cc

-- ---- the columns of a row

-- the columns with what remains of this value in the column of its name, if there is such a column
abbrev pub with_left : Database → Option Column → List ℕ × Datum → Columns → Columns
with_left rows None c columns = columns
with_left rows (Some column) c columns = insert columns c.0 (pruned_datum rows column.type_of c.1)

-- one value after another
abbrev pub with_all_left : Database → Table → List (List ℕ × Datum) → Columns → Columns
with_all_left rows table [] columns = columns
with_all_left rows table (c ∷ cs) columns = with_all_left rows table cs (with_left rows (get table.columns c.0) c columns)

nothing : (datum : Datum) → ◌≡◌ {A = Option Datum} None (Some datum) → ⊥
nothing datum e = cc

module _ (rows : Database) where
  get-with_left : (o : Option Column) (c : List ℕ × Datum) (columns : Columns) (name : List ℕ) → get columns c.0 ≡ Some c.1
      → get (with_left rows o c columns) name ≡ cond (same_name name c.0) (Some (pruned_value rows o c.1)) (get columns name)
  get-with_left None c columns name stands = by (same_name name c.0) refl
    where
      by : (b : Bool) → same_name name c.0 ≡ b → get columns name ≡ cond b (Some c.1) (get columns name)
      by true same = ap (get columns) (same_name-is name c.0 same) ∙ stands
      by false other = refl
  get-with_left (Some column) c columns name stands = get-insert name_cmp_total columns c.0 (pruned_datum rows column.type_of c.1) name

  module _ (table : Table) where
    abbrev left : List ℕ × Datum → Datum
    left c = pruned_value rows (get table.columns c.0) c.1

    -- what remains of a value that is found, or else what was there
    abbrev or_stands : List ℕ → Option Datum → Option Datum → Option Datum
    or_stands name (Some datum) stands = Some (left (name, datum))
    or_stands name None stands = stands

    get-with_all_left : (cs : List (List ℕ × Datum)) (columns : Columns) → T (is_sorted name_cmp cs) → ((name : List ℕ) (datum : Datum) → find name_cmp name cs ≡ Some datum → get columns name ≡ Some datum)
        → (name : List ℕ) → get (with_all_left rows table cs columns) name ≡ or_stands name (find name_cmp name cs) (get columns name)
    get-with_all_left [] columns sorted stand name = refl
    get-with_all_left (c ∷ cs) columns sorted stand name =
        get-with_all_left cs after (sorted_rest c cs sorted) later name ∙ ap (or_stands name (find name_cmp name cs)) (get-with_left column c columns name first)
        ∙ by (same_name name c.0) refl
      where
        column : Option Column
        column = get table.columns c.0

        after : Columns
        after = with_left rows column c columns

        first : get columns c.0 ≡ Some c.1
        first = stand c.0 c.1 (ap (λ b. cond b (Some c.1) (find name_cmp c.0 cs)) (same_name-itself c.0))

        later : (name : List ℕ) (datum : Datum) → find name_cmp name cs ≡ Some datum → get after name ≡ Some datum
        later name datum found = get-with_left column c columns name first ∙ at (same_name name c.0) refl
          where
            at : (b : Bool) → same_name name c.0 ≡ b → cond b (Some (left c)) (get columns name) ≡ Some datum
            at true same = absurd (nothing datum (sym (find-first_not_later c cs name sorted same) ∙ found))
            at false other = stand name datum (ap (λ b. cond b (Some c.1) (find name_cmp name cs)) other ∙ found)

        by : (b : Bool) → same_name name c.0 ≡ b
            → or_stands name (find name_cmp name cs) (cond b (Some (left c)) (get columns name)) ≡ or_stands name (cond b (Some c.1) (find name_cmp name cs)) (get columns name)
        by true same =
            ap (λ o. or_stands name o (Some (left c))) (find-first_not_later c cs name sorted same) ∙ ap (λ n. Some (left (n, c.1))) (sym (same_name-is name c.0 same))
        by false other = refl

    -- after all values the columns are pruned
    pub pruned_is : (columns : Columns) → with_all_left rows table (entries columns) columns ≡ pruned_columns rows (Some table) columns
    pruned_is columns =
        same_map name_cmp_total name_exact _ _ (λ name.
        get-with_all_left (entries columns) columns (entries_sorted columns) (λ n datum found. get-entries columns n ∙ found) name
        ∙ ap (λ o. or_stands name o (get columns name)) (sym (get-entries columns name)) ∙ by name (get columns name) ∙ sym (get-pruned_columns rows table columns name))
      where
        by : (name : List ℕ) (o : Option Datum) → or_stands name o o ≡ option_map (λ datum. left (name, datum)) o
        by name None = refl
        by name (Some datum) = refl

-- ---- all rows

module _ (schema : Schema) (before : Database) (version : Uuid) (rows : Database) where
  -- the rows with those that lost references in their places are the pruned ones
  pub pruned-made : (ks : List LineKey) → ks ≡ keys rows → with_values (filter_map (keyed (repaired_at schema before version rows)) ks) rows ≡ pruned schema before version rows
  pruned-made ks are =
      with_values-made (repaired_at schema before version rows) ks rows
      ∙ same_map key_total key_exact _ _ (λ q.
      get-with_made (repaired_at schema before version rows) ks rows q ∙ ap (λ b. cond b (option_or (repaired_at schema before version rows q) (get rows q)) (get rows q)) (ap (λ k. list_any (eq_by_cmp line_cmp q) k) are ∙ is_among-keys rows q)
      ∙ by q (get rows q) ∙ sym (get-pruned schema before version rows q))
    where
      in_row : (q : LineKey) (row : Row) (b : Bool) (other : Row)
          → option_or (cond b (Some (cond b other row)) None) (Some row) ≡ Some (cond b other row)
      in_row q row true other = refl
      in_row q row false other = refl

      by : (q : LineKey) (o : Option Row) → cond (is_some o) (option_or (option_and_then (repaired schema before version rows q) o) o) o ≡ option_map (λ row. pruned_row schema before version rows (q, row)) o
      by q None = refl
      by q (Some row) = in_row q row (dangles schema rows (q, row)) (row_now before version q (pruned_columns rows (get schema.tables q.0) row.columns))
