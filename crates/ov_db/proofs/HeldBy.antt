-- The rows that are kept as referring weakly to a row are exactly those that do.
use Rattle.std.proofs.Common.{◌≡◌, ◌==◌, List, [], ◌∷◌, map, length, true, false, Option, Some, None, refl, sym, ap, ◌∙◌}
use Rattle.std.specs.Prelude.{unwrap_or}
use Rattle.std.proofs.lemmas.List.{length-map, nil_from_length}
use Rattle.std.specs.FinMap.{empty, get, entries, keys, len, len-empty, len-entries}
use Rattle.ov_specs.specs.integrity.References.{refers_weakly}
use Rattle.ov_specs.specs.rows.Database.{Database}
use Rattle.ov_specs.specs.rows.Lines.{LineKey, line_cmp}
use Rattle.ov_specs.specs.schema.SchemaTypes.{Schema}
use Rattle.ov_specs.proofs.laws.Truths.{zero_is}
use Rattle.ov_refs.specs.Holding.{KeySet}
use Rattle.ov_refs.specs.Linking.{Links, AreLinksOf}
use Rattle.ov_refs.proofs.RowKeys.{in_set, keys_of_rows}
use Rattle.ov_db.specs.Lookups.{weak_holders, if_any}

module _ (schema : Schema) (rows : Database) (links : Links) (linked : AreLinksOf schema rows links) (to : LineKey) where
  weak_keys : keys (unwrap_or (get links.weak to) empty) ≡ weak_holders schema rows to
  weak_keys = keys_of_rows (λ r. refers_weakly schema r to) (unwrap_or (get links.weak to) empty) rows (λ key. in_set (get links.weak to) key ∙ linked.weak to key)

  weak_told : (o : Option KeySet) → get links.weak to ≡ o → keys (unwrap_or o empty) ≡ weak_holders schema rows to
  weak_told o at = ap (λ o'. keys (unwrap_or o' empty)) (sym at) ∙ weak_keys

  none_told : (o : Option KeySet) → get links.weak to ≡ o → (len (unwrap_or o empty) == 0) ≡ true → None ≡ if_any (weak_holders schema rows to)
  none_told o at none = ap if_any (sym no_keys ∙ weak_told o at)
    where
      no_keys : keys (unwrap_or o empty) ≡ []
      no_keys = ap (map (λ e. e.0)) (nil_from_length (entries (unwrap_or o empty)) (sym (len-entries (unwrap_or o empty)) ∙ zero_is (len (unwrap_or o empty)) none))

  -- there are none if the row is not listed
  pub weak_unlisted : get links.weak to ≡ None → None ≡ if_any (weak_holders schema rows to)
  weak_unlisted at = none_told None at (ap (λ n. n == 0) (len-empty line_cmp (Unit {0})))

  -- nor if it is listed with none
  pub weak_none : (set : KeySet) → get links.weak to ≡ Some set → (len set == 0) ≡ true → None ≡ if_any (weak_holders schema rows to)
  weak_none set at none = none_told (Some set) at none

  -- otherwise these are returned
  pub weak_some : (set : KeySet) → get links.weak to ≡ Some set → (len set == 0) ≡ false → Some (keys set) ≡ if_any (weak_holders schema rows to)
  weak_some set at some = by (keys set) (ap (λ n. n == 0) (length-map (entries set) (λ e. e.0) ∙ sym (len-entries set)) ∙ some) ∙ ap if_any (weak_told (Some set) at)
    where
      by : (ks : List LineKey) → (length ks == 0) ≡ false → Some ks ≡ if_any ks
      by [] some = cc
      by (k ∷ ks) some = refl
