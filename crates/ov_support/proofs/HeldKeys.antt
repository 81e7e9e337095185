-- What holds of one of the rows that refer to a row.
use Rattle.std.proofs.Common.{◌≡◌, List, [], ◌∷◌, Bool, true, false, ◌&&◌, ◌||◌, Option, Some, None, refl, sym, ap, ◌∙◌}
use Rattle.std.proofs.lemmas.Bool.{and_parts}
use Rattle.std.specs.FinMap.{get, contains_key, keys}
use Rattle.std.specs.List.{list_any, list_all}
use Rattle.ov_specs.specs.integrity.References.{Target}
use Rattle.ov_specs.specs.rows.Database.{Row, Database, same_key}
use Rattle.ov_specs.specs.rows.Lines.{LineKey}
use Rattle.ov_specs.specs.schema.Schema.{is_some_and}
use Rattle.ov_specs.proofs.laws.LineKeys.{same_key-is}
use Rattle.ov_refs.specs.Holding.{KeySet, Holders, is_holder}
use Rattle.ov_support.specs.Linked.{some_holds}
use Rattle.ov_refs.proofs.SetKeys.{key_passes, passes_key}

-- ---- those that refer to a row

in_some : (o : Option KeySet) (test : LineKey → Bool) → is_some_and (λ set. list_any test (keys set)) o ≡ true
    → (from : LineKey) × (is_some_and (λ set. contains_key set from) o ≡ true) × (test from ≡ true)
in_some None test any = cc
in_some (Some set) test any = key_passes set test any

some_in : (o : Option KeySet) (test : LineKey → Bool) (from : LineKey) → is_some_and (λ set. contains_key set from) o ≡ true → test from ≡ true → is_some_and (λ set. list_any test (keys set)) o ≡ true
some_in None test from has passes = cc
some_in (Some set) test from has passes = passes_key set test from has passes

-- if any of those that refer to the row passes the test, there is one that does
pub holder_passes : (holders : Holders) (to : LineKey) (test : LineKey → Bool) → some_holds holders to test ≡ true → (from : LineKey) × (is_holder holders to from ≡ true) × (test from ≡ true)
holder_passes holders to test any = in_some (get holders to) test any

-- and the other way round
pub passes_holder : (holders : Holders) (to : LineKey) (test : LineKey → Bool) (from : LineKey) → is_holder holders to from ≡ true → test from ≡ true → some_holds holders to test ≡ true
passes_holder holders to test from has passes = some_in (get holders to) test from has passes

-- ---- rows and their targets

-- the row that passes a test
pub row_there : (test : Row → Bool) (o : Option Row) → is_some_and test o ≡ true → (row : Row) × (o ≡ Some row) × (test row ≡ true)
row_there test None is = cc
row_there test (Some row) is = (row, refl, is)

-- what is strongly referred to exists, if all targets do
pub target_there : (rows : Database) (to : LineKey) (targets : List Target) → list_any (λ target. target.is_strong && same_key target.key to) targets ≡ true
    → list_all (λ target. contains_key rows target.key) targets ≡ true → contains_key rows to ≡ true
target_there rows to [] any all = cc
target_there rows to (t ∷ ts) any all = by (t.is_strong && same_key t.key to) refl any (target_there rows to ts)
  where
    parts : (contains_key rows t.key ≡ true) × (list_all (λ target. contains_key rows target.key) ts ≡ true)
    parts = and_parts (contains_key rows t.key) (list_all (λ target. contains_key rows target.key) ts) all

    by : (b : Bool) → (t.is_strong && same_key t.key to) ≡ b → (b || list_any (λ target. target.is_strong && same_key target.key to) ts) ≡ true
        → (list_any (λ target. target.is_strong && same_key target.key to) ts ≡ true → list_all (λ target. contains_key rows target.key) ts ≡ true → contains_key rows to ≡ true)
        → contains_key rows to ≡ true
    by true is any later = sym (ap (contains_key rows) (same_key-is t.key to (and_parts t.is_strong (same_key t.key to) is).1)) ∙ parts.0
    by false is any later = later any parts.1
