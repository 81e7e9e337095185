-- No map of an accepted schema has a strong reference on one side and a weak one on the other.
use Rattle.std.proofs.Common.{◌≡◌, ℕ, zero, suc, List, [], ◌∷◌, ◌++◌, map, Bool, true, false, cond, ◌&&◌, ◌||◌, not, is_some, Option, Some, None, option_map, Result, Ok, Err, refl, sym, ap, subst, ◌∙◌, codes}
use Rattle.std.proofs.lemmas.Option.{same_Some}
use Rattle.std.specs.List.{list_any, slice_get}
use Rattle.std.specs.FinMap.{find, get, get-from_entries}
use Rattle.std.specs.Str.{bytes_eq}
use Rattle.serde_json.specs.Data.{Data}
use Rattle.ov_specs.specs.schema.Schema.{is_some_and, SchemaRefusal, BadName, BadVersion, NoColumns, BadRange, RealNotSupported, UnknownRefTable, BadRefType, BadEnum, BadIndex, StrongWeakMap, any_table, any_base, has_bad_name, has_bad_version, has_no_columns, has_bad_range, is_real_type, has_unknown_ref_table, is_bad_reference, is_bad_enum, has_bad_index, is_weak, is_strong, is_strong_weak, any_type, first_that_holds, refusal_of_shape, own_column, own_columns, accepted_type, accepted_column, accepted_table, accepted_schema, refused_or, judged, accepted}
use Rattle.ov_specs.specs.schema.SchemaShape.{BaseShape, TypeShape, ColumnShape, TableShape, SchemaShape, schema_shape}
use Rattle.ov_specs.specs.schema.SchemaTypes.{name_cmp, Column, Schema}
use Rattle.ov_specs.specs.wire.Tree.{has_real}
use Rattle.ov_specs.proofs.laws.Names.{name_cmp_total, same_name, same_name-is}
use Rattle.ov_specs.proofs.laws.PrunedValues.{is_mixed, has_mixed_pairs}
use Rattle.ov_specs.proofs.laws.Pruning.{HasNoMixedPairs, find-anew, find-none}

-- ---- a type

sides : (o p : Option (List ℕ)) (x y : Bool)
    → (((is_some o && not (is_some o && x)) && (is_some p && y)) || ((is_some o && x) && (is_some p && not (is_some p && y)))) ≡ false
    → is_mixed (option_map (λ table. record { table = table; is_strong = is_some o && not (is_some o && x) }) o) (option_map (λ table. record { table = table; is_strong = is_some p && not (is_some p && y) }) p) ≡ false
sides None p x y h = refl
sides (Some a) None x y h = refl
sides (Some a) (Some b) true true h = refl
sides (Some a) (Some b) true false h = cc
sides (Some a) (Some b) false true h = cc
sides (Some a) (Some b) false false h = refl

abbrev is_called_weak : BaseShape → Bool
is_called_weak b = is_some_and (λ word. bytes_eq word (codes "weak")) b.ref_type

type_is_not_mixed : (t : TypeShape) → is_strong_weak t ≡ false → has_mixed_pairs (accepted_type t) ≡ false
type_is_not_mixed t = by t.value
  where
    by : (value : Option BaseShape) → is_some_and (λ v. (is_strong t.key && is_weak v) || (is_weak t.key && is_strong v)) value ≡ false
        → has_mixed_pairs (accepted_type (record { key = t.key; value = value; min = t.min; max = t.max })) ≡ false
    by None h = refl
    by (Some v) h = sides t.key.ref_table v.ref_table (is_called_weak t.key) (is_called_weak v) h

-- ---- a table

column_is_not_mixed : (cs : List (List ℕ × ColumnShape)) (name : List ℕ) (column : Column) → list_any (λ c. is_strong_weak c.1.type_of) cs ≡ false
    → find name_cmp name (own_columns ++ map (λ c. (c.0, accepted_column c.1)) cs) ≡ Some column → has_mixed_pairs column.type_of ≡ false
column_is_not_mixed cs name column none = by (same_name name (codes "_uuid")) (same_name name (codes "_version"))
  where
    own : Some own_column ≡ Some column → has_mixed_pairs column.type_of ≡ false
    own is = sym (ap (λ c. has_mixed_pairs c.type_of) (same_Some own_column column is))

    read : (o : Option ColumnShape) → find name_cmp name cs ≡ o → option_map accepted_column o ≡ Some column → has_mixed_pairs column.type_of ≡ false
    read None found is = cc
    read (Some c) found is =
        sym (ap (λ k. has_mixed_pairs k.type_of) (same_Some (accepted_column c) column is))
        ∙ type_is_not_mixed c.type_of (find-none name_cmp same_name-is (λ e. is_strong_weak e.1.type_of) name c cs none found)

    by : (b d : Bool) → cond b (Some own_column) (cond d (Some own_column) (find name_cmp name (map (λ c. (c.0, accepted_column c.1)) cs))) ≡ Some column → has_mixed_pairs column.type_of ≡ false
    by true d is = own is
    by false true is = own is
    by false false is = read (find name_cmp name cs) refl (sym (find-anew name_cmp (λ c. accepted_column c.1) same_name-is name cs) ∙ is)

-- ---- a schema

shape_is_not_mixed : (d : Data) (s : SchemaShape) → any_type is_strong_weak s ≡ false → HasNoMixedPairs (accepted_schema d s)
shape_is_not_mixed d s none name other table column named is =
    by (find name_cmp name s.tables) refl (sym (get-from_entries name_cmp_total _ name ∙ find-anew name_cmp (λ t. accepted_table some_root t.1) same_name-is name s.tables) ∙ named)
  where
    some_root : Bool
    some_root = any_table (λ name t. t.is_root) s

    by : (o : Option TableShape) → find name_cmp name s.tables ≡ o → option_map (accepted_table some_root) o ≡ Some table → has_mixed_pairs column.type_of ≡ false
    by None found made = cc
    by (Some t) found made =
        column_is_not_mixed t.columns other column (find-none name_cmp same_name-is (λ e. list_any (λ c. is_strong_weak c.1.type_of) e.1.columns) name t s.tables none found)
        (sym (get-from_entries name_cmp_total (own_columns ++ map (λ c. (c.0, accepted_column c.1)) t.columns) other) ∙ (ap (λ k. get k.columns other) (same_Some (accepted_table some_root t) table made) ∙ is))

-- if no test holds, the one at this place does not
fails_at : (n : ℕ) (ps : List (Bool × SchemaRefusal)) → first_that_holds ps ≡ None → is_some_and (λ p. p.0) (slice_get ps n) ≡ false
fails_at n [] h = refl
fails_at zero (p ∷ ps) h = by p.0 h
  where
    by : (b : Bool) → cond b (Some p.1) (first_that_holds ps) ≡ None → b ≡ false
    by true h = cc
    by false h = refl
fails_at (suc n) (p ∷ ps) h = by p.0 h (λ later. fails_at n ps later)
  where
    by : (b : Bool) → cond b (Some p.1) (first_that_holds ps) ≡ None → (first_that_holds ps ≡ None → is_some_and (λ q. q.0) (slice_get ps n) ≡ false) → is_some_and (λ q. q.0) (slice_get ps n) ≡ false
    by true h rest = cc
    by false h rest = rest h

-- the tests of a schema's members, the one for such maps the last
abbrev tests : SchemaShape → List (Bool × SchemaRefusal)
tests s =
    (has_bad_name s, BadName)
    ∷ (has_bad_version s, BadVersion)
    ∷ (has_no_columns s, NoColumns)
    ∷ (has_bad_range s, BadRange)
    ∷ (any_base (λ b. is_real_type b.of) s, RealNotSupported)
    ∷ (has_unknown_ref_table s, UnknownRefTable)
    ∷ (any_base is_bad_reference s, BadRefType)
    ∷ (any_base is_bad_enum s, BadEnum)
    ∷ (has_bad_index s, BadIndex)
    ∷ (any_type is_strong_weak s, StrongWeakMap)
    ∷ []

unrefused_is_not_mixed : (s : SchemaShape) → refusal_of_shape s ≡ None → any_type is_strong_weak s ≡ false
unrefused_is_not_mixed s h = fails_at 9 (tests s) h

pub accepted_is_not_mixed : (d : Data) (schema : Schema) → accepted d ≡ Ok schema → HasNoMixedPairs schema
accepted_is_not_mixed d schema = by (has_real d) (schema_shape d)
  where
    refused : (s : SchemaShape) (o : Option SchemaRefusal) → refusal_of_shape s ≡ o → refused_or (accepted_schema d s) o ≡ Ok schema → HasNoMixedPairs schema
    refused s (Some refusal) is h = cc
    refused s None is h =
        let same : accepted_schema d s ≡ schema = cc in
        subst HasNoMixedPairs same (shape_is_not_mixed d s (unrefused_is_not_mixed s is))

    by : (real : Bool) (o : Option SchemaShape) → ◌≡◌ {A = Result Schema SchemaRefusal} (cond real (Err RealNotSupported) (judged d o)) (Ok schema) → HasNoMixedPairs schema
    by true o h = cc
    by false None h = cc
    by false (Some s) h = refused s (refusal_of_shape s) refl h
