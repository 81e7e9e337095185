-- Values in a list, each in the column of the name at its place.
use Rattle.std.proofs.Common.{◌≡◌, ℕ, List, [], ◌∷◌, map, length, zip, String, string_bytes, Global, arith, T, refl, sym, ap, subst, ◌∙◌}
use Rattle.std.proofs.lemmas.List.{length-map}
use Rattle.std.specs.FinMap.{is_sorted, keys, values}
use Rattle.std.specs.FinMap.Entries.{below_all}
use Rattle.ov_specs.specs.schema.SchemaTypes.{name_cmp}
use Rattle.ov_specs.specs.values.Value.{Datum, marked}
use Rattle.ov_specs.proofs.laws.Truths.{both_hold, left_holds, right_holds}
use Rattle.ov_atoms.specs.Shape.{Shape}
use Rattle.ov_rows.specs.Named.{columns_at, DoAscend, IsListed}
use Rattle.ov_rows.proofs.Names.{entries-columns_at}

-- names ascend whatever their values are
below : (name : List ℕ) (names : List (List ℕ)) (vs : List Datum) → T (below_all name_cmp name (map marked names)) → T (below_all name_cmp name (zip names vs))
below name [] vs h = tt
below name (n ∷ names) [] h = tt
below name (n ∷ names) (v ∷ vs) h = both_hold _ _ (left_holds _ _ h) (below name names vs (right_holds _ _ h))

pub ascend : (names : List (List ℕ)) (vs : List Datum) → DoAscend names → T (is_sorted name_cmp (zip names vs))
ascend [] vs h = tt
ascend (n ∷ names) [] h = tt
ascend (n ∷ names) (v ∷ vs) h = both_hold _ _ (below n names vs (left_holds _ _ h)) (ascend names vs (right_holds _ _ h))

names-zip : (names : List (List ℕ)) (vs : List Datum) → length vs ≡ length names → map (λ e. e.0) (zip names vs) ≡ names
names-zip [] vs same = refl
names-zip (n ∷ names) [] same = absurd (omega arith)
names-zip (n ∷ names) (v ∷ vs) same = ap (λ ns. n ∷ ns) (names-zip names vs (omega arith))

values-zip : (names : List (List ℕ)) (vs : List Datum) → length vs ≡ length names → map (λ e. e.1) (zip names vs) ≡ vs
values-zip [] [] same = refl
values-zip [] (v ∷ vs) same = absurd (omega arith)
values-zip (n ∷ names) [] same = absurd (omega arith)
values-zip (n ∷ names) (v ∷ vs) same = ap (λ ws. v ∷ ws) (values-zip names vs (omega arith))

module _ (names : List (List ℕ)) (vs : List Datum) (h : IsListed names vs) where
  pub keys-columns_at : keys (columns_at names vs) ≡ names
  keys-columns_at = ap (map (λ e. e.0)) (entries-columns_at names vs h.0) ∙ names-zip names vs h.1

  pub values-columns_at : values (columns_at names vs) ≡ vs
  values-columns_at = ap (map (λ e. e.1)) (entries-columns_at names vs h.0) ∙ values-zip names vs h.1

-- names that are shared, with a value for each
pub shared-listed : (shared shape : Shape) (names : List (String Global)) (vs : List Datum) → shared ≡ shape → map string_bytes names ≡ shape.names → length vs ≡ length names → DoAscend shape.names → IsListed shared.names vs
shared-listed shared shape names vs same are as_many in_order =
    subst (λ (s : Shape). IsListed s.names vs) (sym same) (ascend shape.names vs in_order, as_many ∙ sym (length-map names string_bytes) ∙ ap length are)
