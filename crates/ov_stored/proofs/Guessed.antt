-- A row whose values are those of a table's columns is what is stored as its text, or as its cells.
use Rattle.std.proofs.Common.{◌≡◌, ℕ, List, [], ◌∷◌, map, zip, ◌&&◌, Bool, true, false, cond, T, Option, Some, None, option_map, option_and_then, refl, sym, ap, ◌∙◌}
use Rattle.std.specs.Prelude.{not, if◌then◌else◌}
use Rattle.std.specs.Cmp.Lexicographic.{pointwise}
use Rattle.std.proofs.lemmas.Bool.{and_parts}
use Rattle.std.specs.FinMap.{find, is_sorted, get, keys, values, entries, entries_sorted, get-entries}
use Rattle.std.specs.FinMap.Entries.{below_all}
use Rattle.std.specs.Str.{bytes_eq}
use Rattle.serde_json.specs.Find as json
use Rattle.serde_json.specs.Written.{compact_text}
use Rattle.ov_specs.specs.rows.Database.{Columns}
use Rattle.ov_specs.specs.rows.Cells.{Cells, cells_of}
use Rattle.ov_specs.specs.rows.Held.{OneText, OfCells, row_of_body, tree_stored}
use Rattle.ov_specs.specs.rows.RowNames.{row_names, without_own, is_own_column, without_own_columns}
use Rattle.ov_specs.specs.rows.Suits.{is_value_for, suits_column, SuitsTable}
use Rattle.ov_specs.specs.schema.SchemaTypes.{Column, Table, name_cmp}
use Rattle.ov_specs.specs.values.Uuid.{Uuid}
use Rattle.ov_specs.specs.values.Value.{Datum, marked}
use Rattle.ov_specs.specs.values.Writing.{tree}
use Rattle.ov_specs.specs.wire.Message.{tree_of}
use Rattle.ov_specs.proofs.laws.Bodies.{get-body}
use Rattle.ov_specs.proofs.laws.Names.{same_name, same_name-is}
use Rattle.ov_specs.proofs.laws.Truths.{both_hold, left_holds, right_holds}
use Rattle.ov_rows.specs.Body.{body_of, AreOfKinds}
use Rattle.ov_rows.specs.Named.{DoAscend}
use Rattle.ov_rows.proofs.Names.{zip-entries}
use Rattle.ov_stored.specs.Guessed.{are_values_for}
use Rattle.ov_stored.specs.Stored.{AreCellsRead}
use Rattle.ov_stored.proofs.ReadsBack.{cells_are_stored, row_is_stored, values_of_kinds}
use Rattle.ov_stored.proofs.Same.{text-same}

-- ---- the names of a table's rows ascend

below : (name : List ℕ) (cs : List (List ℕ × Column)) → T (below_all name_cmp name cs) → T (below_all name_cmp name (map marked (without_own (map (λ c. c.0) cs))))
below name [] h = tt
below name (c ∷ cs) h = by (not (is_own_column c.0)) (below name cs (right_holds _ _ h))
  where
    by : (b : Bool) → T (below_all name_cmp name (map marked (without_own (map (λ c. c.0) cs))))
        → T (below_all name_cmp name (map marked (cond b (c.0 ∷ without_own (map (λ c. c.0) cs)) (without_own (map (λ c. c.0) cs)))))
    by true rest = both_hold _ _ (left_holds _ _ h) rest
    by false rest = rest

ascend : (cs : List (List ℕ × Column)) → T (is_sorted name_cmp cs) → DoAscend (without_own (map (λ c. c.0) cs))
ascend [] h = tt
ascend (c ∷ cs) h = by (not (is_own_column c.0)) (ascend cs (right_holds _ _ h))
  where
    by : (b : Bool) → DoAscend (without_own (map (λ c. c.0) cs)) → DoAscend (cond b (c.0 ∷ without_own (map (λ c. c.0) cs)) (without_own (map (λ c. c.0) cs)))
    by true rest = both_hold _ _ (below c.0 cs (left_holds _ _ h)) rest
    by false rest = rest

pub row_names_ascend : (table : Table) → DoAscend (row_names table)
row_names_ascend table = ascend (entries table.columns) (entries_sorted table.columns)

-- ---- the values are tested one by one

-- one value for each of these columns except those that every row has by itself
abbrev pub are_rest_for : List (List ℕ × Column) → List Datum → Bool
are_rest_for [] [] = true
are_rest_for [] (v ∷ vs) = false
are_rest_for (c ∷ cs) [] = if is_own_column c.0 then are_rest_for cs [] else false
are_rest_for (c ∷ cs) (v ∷ vs) = if is_own_column c.0 then are_rest_for cs (v ∷ vs) else (is_value_for c.1 v && are_rest_for cs vs)

abbrev are_kept_for : List (List ℕ × Column) → List Datum → Bool
are_kept_for cs vs = pointwise (λ c datum. is_value_for c.1 datum) (without_own_columns cs) vs

rest_are_kept : (cs : List (List ℕ × Column)) (vs : List Datum) → are_kept_for cs vs ≡ are_rest_for cs vs
rest_are_kept [] [] = refl
rest_are_kept [] (v ∷ vs) = refl
rest_are_kept (c ∷ cs) [] = by (is_own_column c.0) (rest_are_kept cs [])
  where
    by : (b : Bool) → are_kept_for cs [] ≡ are_rest_for cs []
        → pointwise (λ c datum. is_value_for c.1 datum) (cond (not b) (c ∷ without_own_columns cs) (without_own_columns cs)) [] ≡ cond b (are_rest_for cs []) false
    by true rest = rest
    by false rest = refl
rest_are_kept (c ∷ cs) (v ∷ vs) = by (is_own_column c.0) (rest_are_kept cs (v ∷ vs)) (rest_are_kept cs vs)
  where
    by : (b : Bool) → are_kept_for cs (v ∷ vs) ≡ are_rest_for cs (v ∷ vs) → are_kept_for cs vs ≡ are_rest_for cs vs
        → pointwise (λ c datum. is_value_for c.1 datum) (cond (not b) (c ∷ without_own_columns cs) (without_own_columns cs)) (v ∷ vs) ≡ cond b (are_rest_for cs (v ∷ vs)) (is_value_for c.1 v && are_rest_for cs vs)
    by true all others = all
    by false all others = ap (λ b. is_value_for c.1 v && b) others

pub are_values_in_turn : (table : Table) (vs : List Datum) → are_values_for table vs ≡ are_rest_for (entries table.columns) vs
are_values_in_turn table vs = rest_are_kept (entries table.columns) vs

-- ---- values for the columns suit the table

-- what stands at a name among the columns, and what among the values
abbrev Suits : List (List ℕ × Column) → List Datum → List ℕ → Type 0
Suits cs vs name = suits_column (cond (is_own_column name) None (find name_cmp name cs)) (find name_cmp name (zip (without_own (map (λ c. c.0) cs)) vs)) ≡ true

nothing_suits : (b : Bool) → suits_column (cond b None None) None ≡ true
nothing_suits true = refl
nothing_suits false = refl

-- a column that each row has by itself has no value among these
own_suits : (c : List ℕ × Column) (cs : List (List ℕ × Column)) (vs : List Datum) (name : List ℕ) → is_own_column c.0 ≡ true → Suits cs vs name
    → suits_column (cond (is_own_column name) None (cond (same_name name c.0) (Some c.1) (find name_cmp name cs))) (find name_cmp name (zip (without_own (map (λ c. c.0) cs)) vs)) ≡ true
own_suits c cs vs name own rest = by (same_name name c.0) refl
  where
    found : Option Datum
    found = find name_cmp name (zip (without_own (map (λ c. c.0) cs)) vs)

    by : (b : Bool) → same_name name c.0 ≡ b → suits_column (cond (is_own_column name) None (cond b (Some c.1) (find name_cmp name cs))) found ≡ true
    by false is = rest
    by true is =
        let is_own : is_own_column name ≡ true = ap is_own_column (same_name-is name c.0 is) ∙ own in
        ap (λ b. suits_column (cond b None (Some c.1)) found) is_own ∙ sym (ap (λ b. suits_column (cond b None (find name_cmp name cs)) found) is_own) ∙ rest

-- any other column has the value at its place
other_suits : (c : List ℕ × Column) (cs : List (List ℕ × Column)) (v : Datum) (vs : List Datum) (name : List ℕ) → is_own_column c.0 ≡ false → is_value_for c.1 v ≡ true → Suits cs vs name
    → suits_column (cond (is_own_column name) None (cond (same_name name c.0) (Some c.1) (find name_cmp name cs)))
    (cond (same_name name c.0) (Some v) (find name_cmp name (zip (without_own (map (λ c. c.0) cs)) vs))) ≡ true
other_suits c cs v vs name own is_value rest = by (same_name name c.0) refl
  where
    by : (b : Bool) → same_name name c.0 ≡ b → suits_column (cond (is_own_column name) None (cond b (Some c.1) (find name_cmp name cs)))
        (cond b (Some v) (find name_cmp name (zip (without_own (map (λ c. c.0) cs)) vs))) ≡ true
    by false is = rest
    by true is = ap (λ b. suits_column (cond b None (Some c.1)) (Some v)) (ap is_own_column (same_name-is name c.0 is) ∙ own) ∙ is_value

values_suit : (cs : List (List ℕ × Column)) (vs : List Datum) (name : List ℕ) → are_rest_for cs vs ≡ true → Suits cs vs name
values_suit [] [] name h = nothing_suits (is_own_column name)
values_suit [] (v ∷ vs) name h = cc
values_suit (c ∷ cs) [] name h = by (is_own_column c.0) (λ k. values_suit cs [] name k) refl h
  where
    by : (b : Bool) → (are_rest_for cs [] ≡ true → Suits cs [] name) → is_own_column c.0 ≡ b → cond b (are_rest_for cs []) false ≡ true
        → suits_column (cond (is_own_column name) None (cond (same_name name c.0) (Some c.1) (find name_cmp name cs)))
        (find name_cmp name (zip (cond (not b) (c.0 ∷ without_own (map (λ c. c.0) cs)) (without_own (map (λ c. c.0) cs))) [])) ≡ true
    by true rest own k = own_suits c cs [] name own (rest k)
    by false rest own k = cc
values_suit (c ∷ cs) (v ∷ vs) name h = by (is_own_column c.0) (λ k. values_suit cs (v ∷ vs) name k) (λ k. values_suit cs vs name k) refl h
  where
    by : (b : Bool) → (are_rest_for cs (v ∷ vs) ≡ true → Suits cs (v ∷ vs) name) → (are_rest_for cs vs ≡ true → Suits cs vs name) → is_own_column c.0 ≡ b → cond b (are_rest_for cs (v ∷ vs)) (is_value_for c.1 v && are_rest_for cs vs) ≡ true
        → suits_column (cond (is_own_column name) None (cond (same_name name c.0) (Some c.1) (find name_cmp name cs)))
        (find name_cmp name (zip (cond (not b) (c.0 ∷ without_own (map (λ c. c.0) cs)) (without_own (map (λ c. c.0) cs))) (v ∷ vs))) ≡ true
    by true all others own k = own_suits c cs (v ∷ vs) name own (all k)
    by false all others own k =
        let parts = and_parts (is_value_for c.1 v) (are_rest_for cs vs) k in
        other_suits c cs v vs name own parts.0 (others parts.1)

module _ (table : Table) (columns : Columns) (named : keys columns ≡ row_names table) (are : are_values_for table (values columns) ≡ true) where
  listed : entries columns ≡ zip (row_names table) (values columns)
  listed = sym (zip-entries (entries columns)) ∙ ap (λ names. zip names (values columns)) named

  pub guessed_suit : SuitsTable table columns
  guessed_suit name =
      ap (λ c. suits_column (cond (is_own_column name) None c) (get columns name)) (get-entries table.columns name)
      ∙ ap (suits_column (cond (is_own_column name) None (find name_cmp name (entries table.columns)))) (get-entries columns name ∙ ap (find name_cmp name) listed)
      ∙ values_suit (entries table.columns) (values columns) name (sym (are_values_in_turn table (values columns)) ∙ are)

  -- ---- the row that the line is

  pub guessed_row : (version : Uuid) (text : List ℕ) → compact_text (body_of columns) ≡ text → (AreOfKinds columns → tree_of text ≡ Some (body_of columns))
      → row_of_body table version (OneText text) ≡ Some (record { version = version; columns = columns })
  guessed_row version text is read = row_is_stored table version columns (OneText text) guessed_suit holds (ap (bytes_eq (compact_text (body_of columns))) (sym is) ∙ text-same (compact_text (body_of columns)))
    where
      holds : (name : List ℕ) (datum : Datum) → get columns name ≡ Some datum → tree_stored (OneText text) name ≡ Some (tree datum)
      holds name datum found = ap (option_and_then (json.get name)) (read (values_of_kinds table columns guessed_suit)) ∙ get-body columns name ∙ ap (option_map tree) found

  -- ---- the row that the cells are

  pub guessed_cells : (version : Uuid) (cells : Cells) → cells ≡ cells_of columns → AreCellsRead columns → row_of_body table version (OfCells cells) ≡ Some (record { version = version; columns = columns })
  guessed_cells version cells is read = ap (λ (c : Cells). row_of_body table version (OfCells c)) is ∙ cells_are_stored table version columns guessed_suit read
