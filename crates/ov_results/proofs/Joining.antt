-- The text of an array, and that of the array with one tree more.
use Rattle.std.proofs.Common.{◌≡◌, ◌↔◌, if◌then◌else◌, List, ℕ, [], ◌∷◌, ◌++◌, Bool, true, false, not, true≢false, refl, sym, ap, ◌∙◌, IsTrue}
use Rattle.std.proofs.lemmas.List.{append_assoc, append-nil}
use Rattle.serde_json.specs.Data.{Data, Items, no_items, item}
use Rattle.serde_json.specs.View.{items_of}
use Rattle.serde_json.specs.Written.{compact_text, items_text, comma_if}
use Rattle.ov_specs.specs.operations.Transaction.{and_item}
use Rattle.ov_results.specs.Texts.{comma_joined, are_none}

regroup : (a b c d : List ℕ) → a ++ (b ++ (c ++ d)) ≡ (a ++ (b ++ c)) ++ d
regroup a b c d = ap (λ t. a ++ t) (sym (append_assoc b c d)) ∙ sym (append_assoc a (b ++ c) d)

-- three pieces appended to a text, one after another
pub in_turn : (text a b c t u v : List ℕ) → t ≡ text ++ a → u ≡ t ++ b → v ≡ u ++ c → v ≡ text ++ (a ++ (b ++ c))
in_turn text a b c t u v first second third = third ∙ ap (λ x. x ++ c) (second ∙ ap (λ x. x ++ b) first) ∙ append_assoc (text ++ a) b c ∙ append_assoc text a (b ++ c)

pub closed : (later : Bool) (items : Items) → items_text later items ≡ comma_joined later items ++ 93 ∷ []
closed later no_items = refl
closed later (item d items) = ap (λ t. comma_if later ++ (compact_text d ++ t)) (closed true items) ∙ regroup (comma_if later) (compact_text d) (comma_joined true items) (93 ∷ [])

-- one more after none, and after some
longer : (later : Bool) (items : Items) (more : Data) → comma_joined later (and_item items more) ≡ comma_joined later items ++ (comma_if (if are_none items then later else true) ++ compact_text more)
longer later no_items more = ap (λ t. comma_if later ++ t) (append-nil (compact_text more))
longer later (item d no_items) more = ap (λ t. comma_if later ++ (compact_text d ++ t)) (longer true no_items more) ∙ regroup (comma_if later) (compact_text d) (comma_joined true no_items) (comma_if true ++ compact_text more)
longer later (item d (item e items)) more = ap (λ t. comma_if later ++ (compact_text d ++ t)) (longer true (item e items) more) ∙ regroup (comma_if later) (compact_text d) (comma_joined true (item e items)) (comma_if true ++ compact_text more)

pub with_more : (items : Items) (more : Data) → comma_joined false (and_item items more) ≡ comma_joined false items ++ (comma_if (not (are_none items)) ++ compact_text more)
with_more no_items more = longer false no_items more
with_more (item d items) more = longer false (item d items) more

-- one tree more, as a list
pub push_item : (xs : List Data) (d : Data) → items_of (xs ++ d ∷ []) ≡ and_item (items_of xs) d
push_item [] d = refl
push_item (x ∷ xs) d = ap (λ ds. item x ds) (push_item xs d)

pub has_some : (items : Items) (more : Data) → false ≡ are_none (and_item items more)
has_some no_items more = refl
has_some (item d items) more = refl

pub none_told : (items : Items) → IsTrue (are_none items) ↔ (items ≡ no_items)
none_told no_items = ((λ _. refl), (λ _. refl))
none_told (item d items) = ((λ h. absurd (true≢false (sym h))), (λ same. absurd (true≢false (sym (ap are_none same)))))
