-- What a transaction has changed, and how it is collected.
use Rattle.std.specs.Prelude.{◌≡◌, ◌&&◌, List, [], ◌∷◌, false, Option, Some, None, if◌then◌else◌, refl}
use Rattle.std.specs.Coded.{Coded, code_by, coded×}
use Rattle.std.specs.FinMap.{get, contains_key, insert}
use Rattle.ov_refs.specs.Holding.{KeySet, Holders, key_set_code, holders_code, is_holder, with_holder}
use Rattle.ov_refs.specs.Linking.{is_strong_in}
use Rattle.ov_specs.specs.integrity.References.{Target, row_targets}
use Rattle.ov_specs.specs.rows.Database.{Row, Database}
use Rattle.ov_specs.specs.rows.Lines.{LineKey}
use Rattle.ov_specs.specs.schema.SchemaTypes.{Schema}

-- the keys that are changed, and the rows there that refer strongly to rows
pub record Changes : Type 0 where
  pub keys : KeySet
  pub strong : Holders

-- changes as a pair
abbrev pub changes_code : Coded Changes
changes_code =
    code_by (KeySet × Holders) (coded× key_set_code holders_code) (λ c. (c.keys, c.strong))
    (λ p. record { keys = p.0; strong = p.1 }) (λ _. refl)

-- At all other keys the rows are as they were. Of the rows at these keys, those that refer strongly to a row are its holders.
pub record AreChanges (schema : Schema) (before now : Database) (changes : Changes) : Type 0 where
  pub beside : (key : LineKey) → contains_key changes.keys key ≡ false → get now key ≡ get before key
  pub strong : (to from : LineKey)
      → is_holder changes.strong to from ≡ (contains_key changes.keys from && is_strong_in schema now to from)

-- ---- how they are collected; for private clauses

-- with the row of this key, if its reference is a strong one
abbrev pub with_strong : LineKey → Target → Changes → Changes
with_strong from target changes =
    if target.is_strong then record changes { strong = with_holder target.key from changes.strong } else changes

-- with the row of this key for each of its strong references
abbrev pub with_strong_ones : LineKey → List Target → Changes → Changes
with_strong_ones from [] changes = changes
with_strong_ones from (target ∷ targets) changes = with_strong_ones from targets (with_strong from target changes)

-- with this key among the changed ones
abbrev pub with_changed_key : LineKey → Changes → Changes
with_changed_key key changes = record changes { keys = insert changes.keys key tt }

-- with a change
abbrev pub with_changed_row : Schema → LineKey × Option Row → Changes → Changes
with_changed_row schema (key, None) changes = with_changed_key key changes
with_changed_row schema (key, Some row) changes =
    with_strong_ones key (row_targets schema (key, row)) (with_changed_key key changes)
