use Rattle.std.proofs.Common.{◌≡◌, ◌≢◌, ◌∙◌, List, [], ◌∷◌, get_or, length, refl, ap, sym, subst, arith, false}
use Rattle.serde_json.specs.Data.{Items, no_items, item, array}
use Rattle.serde_json.specs.View.{view, items_view}
use Rattle.serde_json.specs.declared.value.Value.{Value}
use Rattle.serde_json.proofs.Views.{view-Array}
use Rattle.ov_requests.specs.Params.{is_one_item}
use Rattle.ov_requests.proofs.answer.only_tree.Goals as goal

same_items : (a b : Items) → array a ≡ array b → a ≡ b
same_items a b h = cc

-- none, or more than one
not_one : (items : List Value) (trees : Items) → items_view items ≡ trees → length items ≢ 1 → is_one_item trees ≡ false
not_one [] trees is other = subst (λ (t : Items). is_one_item t ≡ false) is refl
not_one (v ∷ []) trees is other = absurd (other refl)
not_one (v ∷ w ∷ items) trees is other = subst (λ (t : Items). is_one_item t ≡ false) is refl

-- one
the_one : (items : List Value) (trees : Items) (v : Value) → items_view items ≡ trees → length items ≡ 1 → v ≡ get_or items 0 v → trees ≡ item (view v) no_items
the_one [] trees v is one at = cc
the_one (w ∷ []) trees v is one at = sym is ∙ ap (λ (x : Value). item (view x) no_items) (sym at)
the_one (w ∷ x ∷ items) trees v is one at = absurd (omega (arith, one))

pub returns-then-len-ne1 : goal.returns-then-len-ne1
returns-then-len-ne1 c = not_one c.in-Array.items.items c.args.trees (same_items (items_view c.in-Array.items.items) c.args.trees (sym (view-Array c.in-Array.items) ∙ (c.in-Array.ensures.same ∙ c.into_tree.ensures))) (λ one. c.if-len-ne1.true (c.len.ensures ∙ (c.in-Array.items.ok.0 ∙ one)))

pub returns : goal.returns
returns c = rw c.new.ensures (the_one c.in-Array.items.items c.args.trees c.remove.result (same_items (items_view c.in-Array.items.items) c.args.trees (sym (view-Array c.in-Array.items) ∙ (c.in-Array.ensures.same ∙ c.into_tree.ensures))) (sym c.in-Array.items.ok.0 ∙ (sym c.len.ensures ∙ c.if-len-ne1.false)) c.remove.ensures.value)
