-- A table that has too many rows is found among those with a changed row.
use Rattle.std.proofs.Common.{◌≡◌, ℕ, List, [], ◌∷◌, Bool, true, false, ◌||◌, Option, Some, None, is_some, refl, sym, ap, ◌∙◌}
use Rattle.std.proofs.lemmas.Bool.{or_left, or_right}
use Rattle.std.proofs.lemmas.Slice.Eq.{bytes_eq-Decides}
use Rattle.std.specs.FinMap.{get, contains_key, entries}
use Rattle.std.specs.List.{list_any}
use Rattle.std.specs.Str.{bytes_eq}
use Rattle.ov_stored.specs.Changing.{Delta, applied}
use Rattle.ov_specs.specs.integrity.Limits.{has_too_many}
use Rattle.ov_specs.specs.rows.Database.{Row, Database}
use Rattle.ov_specs.specs.rows.Lines.{LineKey, line_cmp}
use Rattle.ov_specs.specs.schema.Schema.{is_some_and}
use Rattle.ov_specs.specs.schema.SchemaTypes.{Table, Schema, name_cmp}
use Rattle.ov_specs.specs.values.Uuid.{Uuid}
use Rattle.ov_specs.proofs.laws.Following.{has_too_many-same}
use Rattle.ov_specs.proofs.laws.LineKeys.{key_exact, key_total}
use Rattle.ov_specs.proofs.laws.Names.{name_cmp_total, name_exact}
use Rattle.ov_stage.proofs.Stages.{row_unchanged}
use Rattle.ov_support.specs.Counting.{is_overfull}
use Rattle.ov_support.proofs.Entries.{any_entry_is, entry_is_any}
use Rattle.ov_support.proofs.Keys.{contradicts, same_truth}

-- ---- names, each once

-- a name that is one of several passes a test only if one of them does
pub known_before : (test : List ℕ → Bool) (name : List ℕ) (names : List (List ℕ)) (rest : Bool) → list_any (bytes_eq name) names ≡ true
    → (list_any test names || rest) ≡ (list_any test names || (test name || rest))
known_before test name names rest among = by (test name) refl
  where
    passes : (ns : List (List ℕ)) → list_any (bytes_eq name) ns ≡ true → test name ≡ true → list_any test ns ≡ true
    passes [] any is = cc
    passes (n ∷ ns) any is = at (bytes_eq name n) refl any (λ later. passes ns later is)
      where
        at : (b : Bool) → bytes_eq name n ≡ b → (b || list_any (bytes_eq name) ns) ≡ true → (list_any (bytes_eq name) ns ≡ true → list_any test ns ≡ true) → (test n || list_any test ns) ≡ true
        at true same any others = or_left (test n) (list_any test ns) (sym (ap test ((bytes_eq-Decides name n).0 same)) ∙ is)
        at false other any others = or_right (test n) (list_any test ns) (others any)

    by : (b : Bool) → test name ≡ b → (list_any test names || rest) ≡ (list_any test names || (b || rest))
    by true is = ap (λ b. b || rest) (passes names among is) ∙ sym (ap (λ b. b || true) (passes names among is))
    by false is = refl

-- ---- tables of changed rows

none_of : {A : Type 0} (o : Option A) → is_some o ≡ false → o ≡ None
none_of None h = refl
none_of (Some a) h = cc

-- Rows before changes and after them. If no table had too many before, one has now exactly if the table of some change has.
module _ (schema : Schema) (before now : Database) (delta : Delta) (made : applied delta before ≡ now) (few : list_any (has_too_many before) (entries schema.tables) ≡ false) where
  abbrev at_change : LineKey × Option Row → Bool
  at_change c = is_overfull schema now c.0.0

  many_by_change : list_any at_change (entries delta) ≡ true → list_any (has_too_many now) (entries schema.tables) ≡ true
  many_by_change any =
      let found = any_entry_is line_cmp key_total key_exact at_change delta any in
      by found.0.0 (get schema.tables found.0.0) refl found.3
    where
      by : (name : List ℕ) (o : Option Table) → get schema.tables name ≡ o → is_some_and (λ table. has_too_many now (name, table)) o ≡ true → list_any (has_too_many now) (entries schema.tables) ≡ true
      by name None at many = cc
      by name (Some table) at many = entry_is_any name_cmp name_cmp_total name_exact (has_too_many now) schema.tables name table at many

  change_by_many : list_any (has_too_many now) (entries schema.tables) ≡ true → list_any at_change (entries delta) ≡ true
  change_by_many any =
      let found = any_entry_is name_cmp name_cmp_total name_exact (has_too_many now) schema.tables any in
      of_table found.0 found.1 found.2 found.3
    where
      of_table : (name : List ℕ) (table : Table) → get schema.tables name ≡ Some table → has_too_many now (name, table) ≡ true → list_any at_change (entries delta) ≡ true
      of_table name table at many = by (list_any at_change (entries delta)) refl
        where
          here : is_overfull schema now name ≡ true
          here = ap (is_some_and (λ t. has_too_many now (name, t))) at ∙ many

          -- if no change is in a table with too many rows, none is in this table
          untouched : list_any at_change (entries delta) ≡ false → (id : Uuid) (o : Option (Option Row)) → get delta (name, id) ≡ o → is_some o ≡ false
          untouched none id None is = refl
          untouched none id (Some change) is = absurd (contradicts _ (entry_is_any line_cmp key_total key_exact at_change delta (name, id) change is here) none)

          by : (b : Bool) → list_any at_change (entries delta) ≡ b → list_any at_change (entries delta) ≡ true
          by true is = is
          by false none =
              let still : (id : Uuid) → contains_key delta (name, id) ≡ false = λ id. untouched none id (get delta (name, id)) refl in
              let beside : (key : LineKey) → contains_key delta key ≡ false → get now key ≡ get before key
              = λ key no. sym (ap (λ d. get d key) made) ∙ sym (row_unchanged delta before key (none_of (get delta key) no)) in
              let had : has_too_many before (name, table) ≡ true = sym (has_too_many-same schema before now (λ key. contains_key delta key) beside name still table) ∙ many in
              absurd (contradicts _ (entry_is_any name_cmp name_cmp_total name_exact (has_too_many before) schema.tables name table at had) few)

  -- so only the names of their tables need to be asked
  pub many_by_names : (names : List (List ℕ)) → ((test : List ℕ → Bool) → list_any test names ≡ list_any (λ c. test c.0.0) (entries delta))
      → list_any (is_overfull schema now) names ≡ list_any (has_too_many now) (entries schema.tables)
  many_by_names names are =
      are (is_overfull schema now) ∙ same_truth (list_any at_change (entries delta)) (list_any (has_too_many now) (entries schema.tables)) many_by_change change_by_many
