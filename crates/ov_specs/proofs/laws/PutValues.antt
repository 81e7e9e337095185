-- Values put to columns, one after another.
use Rattle.std.proofs.Common.{◌≡◌, ℕ, List, [], ◌∷◌, Bool, true, false, cond, T, Option, Some, None, refl, sym, ap, ◌∙◌}
use Rattle.std.specs.FinMap.{empty, get, insert, find, is_sorted, from_entries, get-empty, get-insert, get-from_entries, same_map}
use Rattle.std.specs.Option.{option_or}
use Rattle.ov_specs.specs.operations.GivenRow.{with_values}
use Rattle.ov_specs.specs.rows.Database.{Columns}
use Rattle.ov_specs.specs.schema.SchemaTypes.{name_cmp}
use Rattle.ov_specs.specs.values.Value.{Datum}
use Rattle.ov_specs.proofs.laws.Names.{name_cmp_total, name_exact, same_name, find-first_not_later, sorted_rest}

-- the first of two options, where there is no second
pub option_or-none : {X : Type 0} (o : Option X) → option_or o None ≡ o
option_or-none None = refl
option_or-none (Some x) = refl

-- what is at a name: the value that is put there, or else what was there
pub get-with_values : (vs : List (List ℕ × Datum)) (columns : Columns) (name : List ℕ) → T (is_sorted name_cmp vs) → get (with_values vs columns) name ≡ option_or (find name_cmp name vs) (get columns name)
get-with_values [] columns name sorted = refl
get-with_values (v ∷ vs) columns name sorted =
    get-with_values vs (insert columns v.0 v.1) name (sorted_rest v vs sorted) ∙ ap (option_or (find name_cmp name vs)) (get-insert name_cmp_total columns v.0 v.1 name)
    ∙ by (same_name name v.0) refl
  where
    by : (b : Bool) → same_name name v.0 ≡ b → option_or (find name_cmp name vs) (cond b (Some v.1) (get columns name)) ≡ option_or (cond b (Some v.1) (find name_cmp name vs)) (get columns name)
    by true same = ap (λ o. option_or o (Some v.1)) (find-first_not_later v vs name sorted same)
    by false other = refl

-- values whose names ascend, put to no columns, are the columns of these values
pub with_values-empty : (vs : List (List ℕ × Datum)) → T (is_sorted name_cmp vs) → with_values vs (empty {R = name_cmp}) ≡ from_entries vs
with_values-empty vs sorted = same_map name_cmp_total name_exact _ _ (λ name.
    get-with_values vs empty name sorted ∙ ap (option_or (find name_cmp name vs)) (get-empty name_cmp name) ∙ option_or-none (find name_cmp name vs)
    ∙ sym (get-from_entries name_cmp_total vs name))
