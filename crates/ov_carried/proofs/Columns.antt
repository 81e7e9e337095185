-- Columns that are made of those of a table, one after another.
use Rattle.std.proofs.Common.{◌≡◌, ℕ, List, [], ◌∷◌, map, not, T, ◌&&◌, refl, sym, ap, subst}
use Rattle.std.specs.FinMap.{empty, entries, is_sorted, entries_sorted}
use Rattle.std.specs.FinMap.Entries.{below_all}
use Rattle.std.specs.Ordering.{is_lt}
use Rattle.ov_specs.specs.conversion.Carried.{carried_value, carried_columns}
use Rattle.ov_specs.specs.operations.GivenRow.{with_values}
use Rattle.ov_specs.specs.rows.Database.{Columns}
use Rattle.ov_specs.specs.rows.RowNames.{is_own_column, row_columns, without_own_columns}
use Rattle.ov_specs.specs.schema.SchemaTypes.{name_cmp, Column, Table}
use Rattle.ov_specs.specs.values.Value.{Datum}
use Rattle.ov_specs.proofs.laws.PrunedValues.{is_sorted-filter}
use Rattle.ov_specs.proofs.laws.PutValues.{with_values-empty}

module _ (made : List ℕ × Column → Datum) where
  below_all-made : (name : List ℕ) (cs : List (List ℕ × Column)) → below_all name_cmp name (map (λ c. (c.0, made c)) cs) ≡ below_all name_cmp name cs
  below_all-made name [] = refl
  below_all-made name (c ∷ cs) = ap (λ b. is_lt (name_cmp name c.0) && b) (below_all-made name cs)

  is_sorted-made : (cs : List (List ℕ × Column)) → is_sorted name_cmp (map (λ c. (c.0, made c)) cs) ≡ is_sorted name_cmp cs
  is_sorted-made [] = refl
  is_sorted-made (c ∷ cs) = λ i. below_all-made c.0 cs i && is_sorted-made cs i

-- the columns that are carried over
pub carried_columns-is : (old new : Table) (columns : Columns)
    → with_values (map (λ c. (c.0, carried_value old columns c)) (without_own_columns (entries new.columns))) (empty {R = name_cmp}) ≡ carried_columns old new columns
carried_columns-is old new columns =
    with_values-empty (map (λ c. (c.0, carried_value old columns c)) (row_columns new)) (subst T (sym (is_sorted-made (carried_value old columns) (row_columns new)))
    (is_sorted-filter name_cmp (λ c. not (is_own_column c.0)) (entries new.columns) (entries_sorted new.columns)))
