use Rattle.std.proofs.Common.{◌≡◌, List, [], ◌∷◌, length, None, option_and_then, refl, ap, ◌∙◌}
use Rattle.serde_json.specs.View.{items_view}
use Rattle.serde_json.specs.declared.value.Value.{Value}
use Rattle.ov_specs.specs.values.Reading.{two_items}
use Rattle.ov_mutate.proofs.change.as_two.Goals as goal

two_items-other : (vs : List Value) → (length vs ≡ 2 → ⊥) → None ≡ two_items (items_view vs)
two_items-other [] other = refl
two_items-other (a ∷ []) other = refl
two_items-other (a ∷ b ∷ []) other = absurd (other refl)
two_items-other (a ∷ b ∷ c ∷ vs) other = refl

pub returns-then-items-ne2 : goal.returns-then-items-ne2
returns-then-items-ne2 c =
    two_items-other _ c.if-items-ne2.true ∙ (ap (λ vs. two_items (items_view vs)) c.as_slice-items.ensures.value ∙ ap (option_and_then two_items) c.in_ok-as_array.ensures)
