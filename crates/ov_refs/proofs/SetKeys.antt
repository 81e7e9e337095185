-- What holds of one of the keys of a set.
use Rattle.std.proofs.Common.{◌≡◌, List, [], ◌∷◌, Bool, true, false, ◌||◌, refl, sym, ap, ◌∙◌}
use Rattle.std.proofs.lemmas.Bool.{or_left, or_right}
use Rattle.std.specs.FinMap.{contains_key, keys, contains_key-keys}
use Rattle.std.specs.List.{list_any}
use Rattle.ov_specs.specs.rows.Database.{same_key}
use Rattle.ov_specs.specs.rows.Lines.{LineKey}
use Rattle.ov_specs.proofs.laws.LineKeys.{same_key-is, same_key-itself, same_key-tied}
use Rattle.ov_refs.specs.Holding.{KeySet}

-- what passes a test at a key passes it at one of several, if the key is one of them
pub any_at_key : (test : LineKey → Bool) (key : LineKey) (ks : List LineKey) → list_any (same_key key) ks ≡ true → test key ≡ true → list_any test ks ≡ true
any_at_key test key [] any passes = cc
any_at_key test key (other ∷ ks) any passes = by (same_key key other) refl any (λ later. any_at_key test key ks later passes)
  where
    by : (b : Bool) → same_key key other ≡ b → (b || list_any (same_key key) ks) ≡ true → (list_any (same_key key) ks ≡ true → list_any test ks ≡ true) → (test other || list_any test ks) ≡ true
    by true same any others = or_left (test other) (list_any test ks) (ap test (sym (same_key-is key other same)) ∙ passes)
    by false same any others = or_right (test other) (list_any test ks) (others any)

one_passes : (test : LineKey → Bool) (xs : List LineKey) → list_any test xs ≡ true → (key : LineKey) × (list_any (same_key key) xs ≡ true) × (test key ≡ true)
one_passes test [] any = cc
one_passes test (x ∷ xs) any = by (test x) refl any (one_passes test xs)
  where
    Found : List LineKey → Type 0
    Found ys = (key : LineKey) × (list_any (same_key key) ys ≡ true) × (test key ≡ true)

    by : (b : Bool) → test x ≡ b → (b || list_any test xs) ≡ true → (list_any test xs ≡ true → Found xs) → Found (x ∷ xs)
    by true is any others = (x, or_left (same_key x x) (list_any (same_key x) xs) (same_key-itself x), is)
    by false is any others = let found = others any in (found.0, or_right (same_key found.0 x) (list_any (same_key found.0) xs) found.1, found.2)

keys_have : (set : KeySet) (key : LineKey) → list_any (same_key key) (keys set) ≡ contains_key set key
keys_have set key = (λ i. list_any (λ other. same_key-tied key other i) (keys set)) ∙ sym (contains_key-keys set key)

-- if any key of the set passes, there is one that does
pub key_passes : (set : KeySet) (test : LineKey → Bool) → list_any test (keys set) ≡ true → (key : LineKey) × (contains_key set key ≡ true) × (test key ≡ true)
key_passes set test any = let one = one_passes test (keys set) any in (one.0, sym (keys_have set one.0) ∙ one.1, one.2)

-- and the other way round
pub passes_key : (set : KeySet) (test : LineKey → Bool) (key : LineKey) → contains_key set key ≡ true → test key ≡ true → list_any test (keys set) ≡ true
passes_key set test key has passes = any_at_key test key (keys set) (keys_have set key ∙ has) passes
