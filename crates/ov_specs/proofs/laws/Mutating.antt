-- What a mutation makes of a row, by the value in the mutation's column; columns without that one stay as they are.
use Rattle.std.proofs.Common.{◌≡◌, ℕ, List, [], ◌∷◌, map, Bool, true, false, cond, T, Option, Some, None, option_map, if◌then◌else◌, refl, sym, ap, ap₂, ◌∙◌}
use Rattle.std.specs.Prelude.{Result, Ok, Err}
use Rattle.std.specs.Str.{bytes_eq}
use Rattle.std.specs.Cmp.{eq_by_cmp_equiv}
use Rattle.std.specs.FinMap.{get, insert, entries, entries_sorted, find, is_sorted, from_entries, get-entries, get-insert, get-from_entries, same_map}
use Rattle.std.proofs.lemmas.Map.Text.{is_eq-slice_cmp}
use Rattle.ov_specs.specs.operations.Errors.{OpError}
use Rattle.ov_specs.specs.operations.GivenRow.{named_value}
use Rattle.ov_specs.specs.operations.Mutate.{mutated_value, entry_mutated, column_mutated}
use Rattle.ov_specs.specs.operations.Mutators.{Mutation}
use Rattle.ov_specs.specs.rows.Database.{Columns}
use Rattle.ov_specs.specs.schema.SchemaTypes.{name_cmp}
use Rattle.ov_specs.specs.values.Results.{result_map, each_or_fault}
use Rattle.ov_specs.specs.values.Value.{Datum}
use Rattle.ov_specs.proofs.laws.Results.{first_of_all}
use Rattle.ov_specs.proofs.laws.Names.{name_cmp_total, name_exact, same_name, same_name-is, find-first_not_later, sorted_rest}

abbrev pub Entry : Type 0
Entry = List ℕ × Datum

module _ (m : Mutation) where
  -- an entry with this value, if it is that of the mutation's column
  abbrev put_at : Datum → Entry → Entry
  put_at datum e = if bytes_eq e.0 m.column then (e.0, datum) else e

  -- the two tests of names are one
  named : (q : List ℕ) → same_name m.column q ≡ bytes_eq q m.column
  named q = (eq_by_cmp_equiv name_cmp_total).symm m.column q ∙ is_eq-slice_cmp q m.column

  -- where no entry is that of the column, each stays
  put_nowhere : (datum : Datum) (es : List Entry) → find name_cmp m.column es ≡ None → map (put_at datum) es ≡ es
  put_nowhere datum [] none = refl
  put_nowhere datum (e ∷ es) none = by (bytes_eq e.0 m.column) (sym (ap (λ b. cond b (Some e.1) (find name_cmp m.column es)) (named e.0)) ∙ none) (put_nowhere datum es)
    where
      by : (b : Bool) → cond b (Some e.1) (find name_cmp m.column es) ≡ None → (find name_cmp m.column es ≡ None → map (put_at datum) es ≡ es) → cond b (e.0, datum) e ∷ map (put_at datum) es ≡ e ∷ es
      by true h rest = cc
      by false h rest = ap (λ fs. e ∷ fs) (rest h)

  -- the value at a name, once this one stands in the mutation's column
  find-put : (datum : Datum) (es : List Entry) (q : List ℕ) → find name_cmp q (map (put_at datum) es) ≡ cond (same_name q m.column) (option_map (λ old. datum) (find name_cmp q es)) (find name_cmp q es)
  find-put datum [] q = by (same_name q m.column)
    where
      by : (b : Bool) → ◌≡◌ {A = Option Datum} None (cond b (option_map (λ (old : Datum). datum) None) None)
      by true = refl
      by false = refl
  find-put datum (e ∷ es) q = here (bytes_eq e.0 m.column) ∙ by (same_name q e.0) (bytes_eq e.0 m.column) (same_name q m.column) refl refl refl (find-put datum es q)
    where
      rest : Option Datum
      rest = find name_cmp q (map (put_at datum) es)

      found : Option Datum
      found = find name_cmp q es

      at : same_name q e.0 ≡ true → same_name q m.column ≡ bytes_eq e.0 m.column
      at is = ap (λ n. same_name n m.column) (same_name-is q e.0 is) ∙ is_eq-slice_cmp e.0 m.column

      here : (b : Bool) → find name_cmp q (cond b (e.0, datum) e ∷ map (put_at datum) es) ≡ cond (same_name q e.0) (Some (cond b datum e.1)) rest
      here true = refl
      here false = refl

      by : (a b c : Bool) → same_name q e.0 ≡ a → bytes_eq e.0 m.column ≡ b → same_name q m.column ≡ c → rest ≡ cond c (option_map (λ old. datum) found) found
          → cond a (Some (cond b datum e.1)) rest ≡ cond c (option_map (λ old. datum) (cond a (Some e.1) found)) (cond a (Some e.1) found)
      by false b c is own there later = later
      by true true true is own there later = refl
      by true true false is own there later = cc (at is)
      by true false true is own there later = cc (at is)
      by true false false is own there later = refl

  -- what comes of entries, with the value that their column has
  abbrev put_all : List Entry → Option Datum → Result (List Entry) OpError
  put_all es None = Ok es
  put_all es (Some old) = result_map (λ datum. map (put_at datum) es) (mutated_value m old)

  each-put : (es : List Entry) → T (is_sorted name_cmp es) → each_or_fault (entry_mutated m) es ≡ put_all es (find name_cmp m.column es)
  each-put [] h = refl
  each-put (e ∷ es) h = by (bytes_eq e.0 m.column) refl (each-put es (sorted_rest e es h))
    where
      others : Result (List Entry) OpError
      others = each_or_fault (entry_mutated m) es

      later : Option Datum
      later = find name_cmp m.column es

      first : (b : Bool) → bytes_eq e.0 m.column ≡ b → each_or_fault (entry_mutated m) (e ∷ es) ≡ first_of_all (cond b (named_value e.0 (mutated_value m e.1)) (Ok e)) others
      first b is = ap (λ t. first_of_all (cond t (named_value e.0 (mutated_value m e.1)) (Ok e)) others) is

      found : (b : Bool) → bytes_eq e.0 m.column ≡ b → cond b (Some e.1) later ≡ find name_cmp m.column (e ∷ es)
      found b is = sym (ap (λ t. cond t (Some e.1) later) (named e.0 ∙ is))

      stays : bytes_eq e.0 m.column ≡ false → (o : Option Datum) → result_map (λ fs. e ∷ fs) (put_all es o) ≡ put_all (e ∷ es) o
      stays is None = refl
      stays is (Some old) = made (mutated_value m old)
        where
          made : (r : Result Datum OpError) → result_map (λ fs. e ∷ fs) (result_map (λ datum. map (put_at datum) es) r) ≡ result_map (λ datum. map (put_at datum) (e ∷ es)) r
          made (Ok datum) = ap (λ b. Ok (cond b (e.0, datum) e ∷ map (put_at datum) es)) (sym is)
          made (Err fault) = refl

      changes : bytes_eq e.0 m.column ≡ true → later ≡ None → (r : Result Datum OpError) → first_of_all (named_value e.0 r) (Ok es) ≡ result_map (λ datum. map (put_at datum) (e ∷ es)) r
      changes is none (Ok datum) = sym (ap₂ (λ b fs. Ok (cond b (e.0, datum) e ∷ fs)) is (put_nowhere datum es none))
      changes is none (Err fault) = refl

      by : (b : Bool) → bytes_eq e.0 m.column ≡ b → others ≡ put_all es later → each_or_fault (entry_mutated m) (e ∷ es) ≡ put_all (e ∷ es) (find name_cmp m.column (e ∷ es))
      by true is rest =
          let none : later ≡ None = find-first_not_later e es m.column h (named e.0 ∙ is) in
          first true is ∙ ap (first_of_all (named_value e.0 (mutated_value m e.1))) (rest ∙ ap (put_all es) none) ∙ changes is none (mutated_value m e.1) ∙ ap (put_all (e ∷ es)) (found true is)
      by false is rest = first false is ∙ ap (result_map (λ fs. e ∷ fs)) rest ∙ stays is later ∙ ap (put_all (e ∷ es)) (found false is)

-- the row with the mutated value in the mutation's column, if it has that column
abbrev pub mutated_at : Mutation → Columns → Option Datum → Result Columns OpError
mutated_at m columns None = Ok columns
mutated_at m columns (Some old) = result_map (λ datum. insert columns m.column datum) (mutated_value m old)

pub column_mutated-at : (m : Mutation) (columns : Columns) → column_mutated m columns ≡ mutated_at m columns (get columns m.column)
column_mutated-at m columns =
    ap (result_map from_entries) (each-put m (entries columns) (entries_sorted columns) ∙ ap (put_all m (entries columns)) (sym (get-entries columns m.column))) ∙ by (get columns m.column) refl
  where
    same : (q : List ℕ) (datum old : Datum) → get columns m.column ≡ Some old → (b : Bool) → same_name q m.column ≡ b → cond b (option_map (λ old. datum) (get columns q)) (get columns q) ≡ cond b (Some datum) (get columns q)
    same q datum old is true here = ap (option_map (λ old. datum)) (ap (get columns) (same_name-is q m.column here) ∙ is)
    same q datum old is false here = refl

    value : (old : Datum) → get columns m.column ≡ Some old → (r : Result Datum OpError)
        → result_map from_entries (result_map (λ datum. map (put_at m datum) (entries columns)) r) ≡ result_map (λ datum. insert columns m.column datum) r
    value old is (Err fault) = refl
    value old is (Ok datum) = ap Ok (same_map name_cmp_total name_exact _ _ (λ q.
        get-from_entries name_cmp_total (map (put_at m datum) (entries columns)) q
        ∙ find-put m datum (entries columns) q
        ∙ ap (λ o. cond (same_name q m.column) (option_map (λ old. datum) o) o) (sym (get-entries columns q))
        ∙ same q datum old is (same_name q m.column) refl
        ∙ sym (get-insert name_cmp_total columns m.column datum q)))

    by : (o : Option Datum) → get columns m.column ≡ o → result_map from_entries (put_all m (entries columns) o) ≡ mutated_at m columns o
    by None is = ap Ok (same_map name_cmp_total name_exact _ _ (λ q. get-from_entries name_cmp_total (entries columns) q ∙ sym (get-entries columns q)))
    by (Some old) is = value old is (mutated_value m old)

-- ---- what is mutated of a row, by what is found at the mutation's column

module _ (m : Mutation) (columns : Columns) where
  pub mutated-none : get columns m.column ≡ None → column_mutated m columns ≡ Ok columns
  mutated-none is = column_mutated-at m columns ∙ ap (mutated_at m columns) is

  pub mutated-value : (old datum : Datum) → get columns m.column ≡ Some old → mutated_value m old ≡ Ok datum → column_mutated m columns ≡ Ok (insert columns m.column datum)
  mutated-value old datum is made = column_mutated-at m columns ∙ ap (mutated_at m columns) is ∙ ap (result_map (λ d. insert columns m.column d)) made

  pub mutated-fault : (old : Datum) (fault : OpError) → get columns m.column ≡ Some old → mutated_value m old ≡ Err fault → column_mutated m columns ≡ Err fault
  mutated-fault old fault is made = column_mutated-at m columns ∙ ap (mutated_at m columns) is ∙ ap (result_map (λ d. insert columns m.column d)) made
