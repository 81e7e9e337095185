use Rattle.std.proofs.Common.{◌≡◌, List, [], ◌∷◌, length, None, option_and_then, refl, ap, ◌∙◌}
use Rattle.serde_json.specs.View.{items_view}
use Rattle.serde_json.specs.declared.value.Value.{Value}
use Rattle.ov_specs.specs.operations.Conditions.{three_items}
use Rattle.ov_conds.proofs.triple.Triple.read.Goals as goal

three_items-other : (vs : List Value) → (length vs ≡ 3 → ⊥) → None ≡ three_items (items_view vs)
three_items-other [] other = refl
three_items-other (a ∷ []) other = refl
three_items-other (a ∷ b ∷ []) other = refl
three_items-other (a ∷ b ∷ c ∷ []) other = absurd (other refl)
three_items-other (a ∷ b ∷ c ∷ d ∷ vs) other = refl

pub returns-then-items-ne3 : goal.returns-then-items-ne3
returns-then-items-ne3 c =
    three_items-other _ c.if-items-ne3.true ∙ (ap (λ vs. three_items (items_view vs)) c.as_slice-items.ensures.value ∙ ap (option_and_then three_items) c.in_ok-as_array.ensures)
