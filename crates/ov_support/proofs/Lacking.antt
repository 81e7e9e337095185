-- Rows that may lack support: those that remain when a row is removed, and those at the start.
use Rattle.std.proofs.Common.{◌≡◌, List, [], ◌∷◌, ◌++◌, map, filter, Bool, true, false, cond, ◌&&◌, ◌||◌, ◌⊎◌, inl, inr, Some, None, refl, sym, ap, ◌∙◌}
use Rattle.std.proofs.lemmas.Bool.{or_left, or_right}
use Rattle.std.proofs.lemmas.List.Folds.{list_any-append}
use Rattle.std.specs.FinMap.{get, remove, get-remove}
use Rattle.std.specs.List.{list_any}
use Rattle.std.specs.Ordering.{eq_by_cmp}
use Rattle.ov_specs.specs.integrity.Kept.{is_supported, AreSupported, kept}
use Rattle.ov_specs.specs.integrity.References.{Target, row_targets}
use Rattle.ov_specs.specs.rows.Database.{Row, Database, same_key}
use Rattle.ov_specs.specs.rows.Lines.{LineKey, line_cmp}
use Rattle.ov_specs.specs.schema.SchemaTypes.{Schema}
use Rattle.ov_specs.proofs.laws.Following.{ChangedSupporter, unsupported_step, unsupported_follows}
use Rattle.ov_specs.proofs.laws.KeptRows.{kept_whole}
use Rattle.ov_specs.proofs.laws.LineKeys.{key_total, same_key-is, same_key-tied}
use Rattle.ov_support.specs.Supporting.{strong_keys, MayLack}
use Rattle.ov_support.proofs.Keys.{contradicts, none_is, same_key-turned}

abbrev is_strong_to : LineKey → Target → Bool
is_strong_to key target = target.is_strong && same_key target.key key

-- what is referred to strongly is one of the strong keys
pub strong_key_is : (targets : List Target) (key : LineKey) → list_any (λ target. target.is_strong && same_key target.key key) targets ≡ true → list_any (same_key key) (strong_keys targets) ≡ true
strong_key_is [] key any = cc
strong_key_is (target ∷ targets) key any = by target.is_strong any (strong_key_is targets key)
  where
    rest : List LineKey
    rest = strong_keys targets

    at : (b : Bool) → same_key target.key key ≡ b → (b || list_any (is_strong_to key) targets) ≡ true → (list_any (is_strong_to key) targets ≡ true → list_any (same_key key) rest ≡ true)
        → (same_key key target.key || list_any (same_key key) rest) ≡ true
    at true same any later = or_left (same_key key target.key) (list_any (same_key key) rest) (same_key-turned key target.key ∙ same)
    at false other any later = or_right (same_key key target.key) (list_any (same_key key) rest) (later any)

    by : (b : Bool) → ((b && same_key target.key key) || list_any (is_strong_to key) targets) ≡ true → (list_any (is_strong_to key) targets ≡ true → list_any (same_key key) rest ≡ true)
        → list_any (same_key key) (map (λ t. t.key) (cond b (target ∷ filter (λ t. t.is_strong) targets) (filter (λ t. t.is_strong) targets))) ≡ true
    by true any later = at (same_key target.key key) refl any later
    by false any later = later any

-- one of several that is not the first is one of the others
other_is : (key gone : LineKey) (work : List LineKey) → (same_key key gone ≡ true → ⊥) → list_any (same_key key) (gone ∷ work) ≡ true → list_any (same_key key) work ≡ true
other_is key gone work not_it any = by (same_key key gone) refl any
  where
    by : (b : Bool) → same_key key gone ≡ b → (b || list_any (same_key key) work) ≡ true → list_any (same_key key) work ≡ true
    by true same any = absurd (not_it same)
    by false other any = any

module _ (schema : Schema) (rows : Database) (gone : LineKey) (work : List LineKey) where
  -- If a row is removed, what it refers to strongly may lack support afterwards.
  pub lacking_step : (gone_row : Row) → get rows gone ≡ Some gone_row → MayLack schema rows (gone ∷ work)
      → MayLack schema (remove rows gone) (work ++ strong_keys (row_targets schema (gone, gone_row)))
  lacking_step gone_row has lack key row found is =
      list_any-append (same_key key) work targets ∙ at (eq_by_cmp line_cmp key gone) refl (sym (get-remove key_total rows gone key) ∙ found)
    where
      targets : List LineKey
      targets = strong_keys (row_targets schema (gone, gone_row))

      by : same_key key gone ≡ false → get rows key ≡ Some row → (b : Bool) → is_supported schema rows key ≡ b → (list_any (same_key key) work || list_any (same_key key) targets) ≡ true
      by other stands true was =
          or_right (list_any (same_key key) work) (list_any (same_key key) targets)
          (strong_key_is (row_targets schema (gone, gone_row)) key (unsupported_step schema rows gone gone_row has key was is))
      by other stands false was =
          or_left (list_any (same_key key) work) (list_any (same_key key) targets) (other_is key gone work (λ same. contradicts (same_key key gone) same other) (lack key row stands was))

      at : (b : Bool) → eq_by_cmp line_cmp key gone ≡ b → cond b None (get rows key) ≡ Some row → (list_any (same_key key) work || list_any (same_key key) targets) ≡ true
      at true tied h = absurd (none_is row h)
      at false tied h = by (same_key-tied key gone ∙ tied) h (is_supported schema rows key) refl

  -- a missing row needs no support
  pub lacking_absent : get rows gone ≡ None → MayLack schema rows (gone ∷ work) → MayLack schema rows work
  lacking_absent none lack key row found is =
      other_is key gone work (λ same. none_is row (sym none ∙ sym (ap (get rows) (same_key-is key gone same)) ∙ found)) (lack key row found is)

  -- and a row with support lacks none
  pub lacking_supported : is_supported schema rows gone ≡ true → MayLack schema rows (gone ∷ work) → MayLack schema rows work
  lacking_supported supported lack key row found is =
      other_is key gone work (λ same. contradicts (is_supported schema rows key) (ap (is_supported schema rows) (same_key-is key gone same) ∙ supported) is) (lack key row found is)

-- if none may lack support, all rows are kept
pub lacking_none : (schema : Schema) (rows : Database) → MayLack schema rows [] → kept schema rows ≡ rows
lacking_none schema rows lack = kept_whole schema rows (λ key row found. by key row found (is_supported schema rows key) refl)
  where
    nothing : false ≡ true → ⊥
    nothing e = cc

    by : (key : LineKey) (row : Row) → get rows key ≡ Some row → (b : Bool) → is_supported schema rows key ≡ b → is_supported schema rows key ≡ true
    by key row found true is = is
    by key row found false is = absurd (nothing (lack key row found is))

-- Rows before a change and now, which differ only at changed keys: new rows may lack support, and so may the rows to which
-- the changed rows had referred strongly.
pub lacking_at_first : (schema : Schema) (before now : Database) (changed : LineKey → Bool) (work : List LineKey) → ((key : LineKey) → changed key ≡ false → get now key ≡ get before key) → AreSupported schema before
    → ((key : LineKey) (row : Row) → changed key ≡ true → get before key ≡ None → get now key ≡ Some row → is_supported schema now key ≡ false → list_any (same_key key) work ≡ true)
    → ((from : LineKey) (old : Row) (key : LineKey) → changed from ≡ true → get before from ≡ Some old → list_any (same_key key) (strong_keys (row_targets schema (from, old))) ≡ true → list_any (same_key key) work ≡ true)
    → MayLack schema now work
lacking_at_first schema before now changed work beside supported new lost key row found is =
    by (unsupported_follows schema before now changed beside supported key row found is)
  where
    at : (b : Bool) → changed key ≡ b → get before key ≡ None → list_any (same_key key) work ≡ true
    at true so none = new key row so none found is
    at false so none = absurd (none_is row (sym none ∙ sym (beside key so) ∙ found))

    by : (get before key ≡ None) ⊎ ChangedSupporter schema before changed key → list_any (same_key key) work ≡ true
    by (inl none) = at (changed key) refl none
    by (inr one) = lost one.0 one.1 key one.2 one.3 (strong_key_is (row_targets schema (one.0, one.1)) key one.4)
