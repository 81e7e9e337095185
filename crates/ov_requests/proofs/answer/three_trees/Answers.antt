use Rattle.std.proofs.Common.{◌≡◌, ◌≢◌, ◌∙◌, List, [], ◌∷◌, length, refl, sym, subst, false}
use Rattle.serde_json.specs.Data.{Items, array}
use Rattle.serde_json.specs.View.{items_view}
use Rattle.serde_json.specs.declared.value.Value.{Value}
use Rattle.serde_json.proofs.Views.{view-Array}
use Rattle.ov_requests.specs.Params.{are_three_items}
use Rattle.ov_requests.proofs.answer.three_trees.Goals as goal

same_items : (a b : Items) → array a ≡ array b → a ≡ b
same_items a b h = cc

-- fewer, or more
not_three : (items : List Value) (trees : Items) → items_view items ≡ trees → length items ≢ 3 → are_three_items trees ≡ false
not_three [] trees is other = subst (λ (t : Items). are_three_items t ≡ false) is refl
not_three (a ∷ []) trees is other = subst (λ (t : Items). are_three_items t ≡ false) is refl
not_three (a ∷ b ∷ []) trees is other = subst (λ (t : Items). are_three_items t ≡ false) is refl
not_three (a ∷ b ∷ d ∷ []) trees is other = absurd (other refl)
not_three (a ∷ b ∷ d ∷ e ∷ items) trees is other = subst (λ (t : Items). are_three_items t ≡ false) is refl

pub returns-then-len-ne3 : goal.returns-then-len-ne3
returns-then-len-ne3 c = not_three c.in-Array.items.items c.args.trees (same_items (items_view c.in-Array.items.items) c.args.trees (sym (view-Array c.in-Array.items) ∙ (c.in-Array.ensures.same ∙ c.into_tree.ensures))) (λ three. c.if-len-ne3.true (c.len.ensures ∙ (c.in-Array.items.ok.0 ∙ three)))
