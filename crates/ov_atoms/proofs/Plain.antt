-- Lists of trees without reals.
use Rattle.std.proofs.Common.{◌≡◌, ℕ, List, [], ◌∷◌, ◌++◌, false, refl}
use Rattle.serde_json.specs.Data.{string, array, Items}
use Rattle.serde_json.specs.View.{view, items_view}
use Rattle.serde_json.specs.declared.value.Value.{Value}
use Rattle.ov_specs.specs.wire.Tree.{has_real, items_have_real}
use Rattle.ov_specs.specs.values.Writing.{two}
use Rattle.std.proofs.lemmas.Bool.{or_parts}

pub listed_plain : (word : List ℕ) (items : Items) → items_have_real items ≡ false → has_real (two (string word) (array items)) ≡ false
listed_plain word items h = rw h refl

pub plain-push : (vs : List Value) (v : Value) → items_have_real (items_view vs) ≡ false → has_real (view v) ≡ false → items_have_real (items_view (vs ++ v ∷ [])) ≡ false
plain-push [] v h plain = rw plain refl
plain-push (x ∷ vs) v h plain =
    let parts = or_parts (has_real (view x)) (items_have_real (items_view vs)) h in
    rw (parts.0, plain-push vs v parts.1 plain) refl
