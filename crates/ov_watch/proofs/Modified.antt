-- Whether a column of a row is modified, column by column.
use Rattle.std.proofs.Common.{◌≡◌, ℕ, List, [], ◌∷◌, ◌&&◌, Bool, true, false, not, Some, refl, sym, ap, ◌∙◌, codes}
use Rattle.std.specs.Prelude.{if◌then◌else◌}
use Rattle.std.specs.Cmp.Lexicographic.{pointwise, texts_ties}
use Rattle.std.specs.FinMap.{get, keys}
use Rattle.std.specs.Str.{bytes_eq}
use Rattle.ov_specs.specs.integrity.Limits.{is_same_value}
use Rattle.ov_specs.specs.monitors.Updates.{is_modified}
use Rattle.ov_specs.specs.rows.Database.{Row, one_uuid, same_atom, same_datum}
use Rattle.ov_specs.specs.values.Value.{Uuid, set_of}
use Rattle.ov_specs.proofs.laws.Monitoring.{is_same_value-itself}
use Rattle.ov_specs.proofs.laws.ReadingBack.{keys-set_of}

keys-one : (v : List ℕ) → keys (set_of (Uuid v ∷ [])) ≡ Uuid v ∷ []
keys-one v = keys-set_of (Uuid v ∷ []) tt

and_true : (b : Bool) → (b && true) ≡ b
and_true true = refl
and_true false = refl

same_one : (v w : List ℕ) → same_datum (one_uuid v) (one_uuid w) ≡ bytes_eq v w
same_one v w = (λ i. pointwise same_atom (keys-one v i) (keys-one w i)) ∙ and_true (same_atom (Uuid v) (Uuid w)) ∙ sym (texts_ties v w)

module _ (table id name : List ℕ) (before after : Row) where
  abbrev modified : Bool → Bool → Bool
  modified is_id is_version = not (is_same_value
      (if is_id then Some (one_uuid id) else (if is_version then Some (one_uuid before.version) else get before.columns name))
      (if is_id then Some (one_uuid id) else (if is_version then Some (one_uuid after.version) else get after.columns name)))

  modified_is : (is_id is_version : Bool) → bytes_eq name (codes "_uuid") ≡ is_id → bytes_eq name (codes "_version") ≡ is_version → is_modified ((table, id), before) ((table, id), after) name ≡ modified is_id is_version
  modified_is is_id is_version h k i = modified (h i) (k i)

  -- the identifier is the same
  pub modified-id : bytes_eq name (codes "_uuid") ≡ true → is_modified ((table, id), before) ((table, id), after) name ≡ false
  modified-id h = modified_is true (bytes_eq name (codes "_version")) h refl ∙ ap not (is_same_value-itself (Some (one_uuid id)))

  -- the version is a value
  pub modified-version : bytes_eq name (codes "_uuid") ≡ false → bytes_eq name (codes "_version") ≡ true → is_modified ((table, id), before) ((table, id), after) name ≡ not (bytes_eq before.version after.version)
  modified-version h k = modified_is false true h k ∙ ap not (same_one before.version after.version)

  pub modified-column : bytes_eq name (codes "_uuid") ≡ false → bytes_eq name (codes "_version") ≡ false → is_modified ((table, id), before) ((table, id), after) name ≡ not (is_same_value (get before.columns name) (get after.columns name))
  modified-column h k = modified_is false false h k
