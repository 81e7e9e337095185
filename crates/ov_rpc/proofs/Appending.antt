-- The bytes of a reply whose result is an array, and those of the reply with one more item.
use Rattle.std.proofs.Common.{◌≡◌, ◌↔◌, not, ℕ, ◌+◌, ◌-◌, List, [], ◌∷◌, ◌++◌, Bool, true, false, true≢false, length, take, refl, sym, ap, ◌∙◌, codes, IsTrue, arith, if◌then◌else◌}
use Rattle.std.proofs.lemmas.List.{append_assoc, length-append}
use Rattle.std.proofs.Math.Seq.{take-append_seam}
use Rattle.serde_json.specs.Data.{Data, null, string, Items, no_items, item, array}
use Rattle.serde_json.specs.Written.{compact_text, comma_if}
use Rattle.ov_results.specs.Texts.{comma_joined, are_none}
use Rattle.ov_results.proofs.Joining.{closed, with_more}
use Rattle.ov_specs.specs.wire.Frame.{frame, reply_tree}
use Rattle.ov_specs.specs.operations.Transaction.{and_item}

-- a reply, from the text of its result on
abbrev from_result : Data → List ℕ → List ℕ
from_result id t = 123 ∷ (compact_text (string (codes "error")) ++ 58 ∷ (compact_text null ++ (44 ∷ (compact_text (string (codes "id")) ++ 58 ∷ (compact_text id ++ (44 ∷ (compact_text (string (codes "result")) ++ 58 ∷ t)))))))

after : (id : Data) (t more : List ℕ) → from_result id t ++ more ≡ from_result id (t ++ more)
after id t more =
    ap (λ s. 123 ∷ s) (append_assoc (compact_text (string (codes "error"))) _ more
    ∙ ap (λ s. compact_text (string (codes "error")) ++ 58 ∷ (compact_text null ++ 44 ∷ s)) (append_assoc (compact_text (string (codes "id"))) _ more
    ∙ ap (λ s. compact_text (string (codes "id")) ++ 58 ∷ s) (append_assoc (compact_text id) _ more
    ∙ ap (λ s. compact_text id ++ 44 ∷ s) (append_assoc (compact_text (string (codes "result"))) _ more))))

-- a reply without what closes it
abbrev open_reply : Data → Items → List ℕ
open_reply id items = from_result id (91 ∷ comma_joined false items)

framed : (id : Data) (items : Items) → frame (reply_tree id (array items)) ≡ open_reply id items ++ 93 ∷ 125 ∷ []
framed id items =
    ap (λ t. from_result id (91 ∷ (t ++ 125 ∷ []))) (closed false items)
    ∙ (ap (λ t. from_result id (91 ∷ t)) (append_assoc (comma_joined false items) (93 ∷ []) (125 ∷ []))
    ∙ sym (after id (91 ∷ comma_joined false items) (93 ∷ 125 ∷ [])))

shorter : (xs : List ℕ) → take (length (xs ++ 93 ∷ 125 ∷ []) - 2) (xs ++ 93 ∷ 125 ∷ []) ≡ xs
shorter xs =
    let two : length (xs ++ 93 ∷ 125 ∷ []) - 2 ≡ length xs = ap (λ n. n - 2) (length-append xs (93 ∷ 125 ∷ [])) ∙ grind arith in
    ap (λ n. take n (xs ++ 93 ∷ 125 ∷ [])) two ∙ take-append_seam xs (93 ∷ 125 ∷ [])

-- what a reply has without its last two bytes
pub opened : (reply : List ℕ) (id : Data) (items : Items) → reply ≡ frame (reply_tree id (array items)) → take (length reply - 2) reply ≡ open_reply id items
opened reply id items is = rw (is ∙ framed id items) (shorter (open_reply id items))

separated : (first : Bool) (items : Items) → (IsTrue first ↔ (items ≡ no_items)) → (if first then [] else 44 ∷ []) ≡ comma_if (not (are_none items))
separated true no_items same = refl
separated false no_items same = absurd (true≢false (sym (same.1 refl)))
separated true (item d items) same = absurd (true≢false (sym (ap are_none (same.0 refl))))
separated false (item d items) same = refl

-- the bytes of the reply with one more item
pub appended : (id : Data) (items : Items) (first : Bool) (more : Data) → (IsTrue first ↔ (items ≡ no_items))
    → ((open_reply id items ++ (if first then [] else 44 ∷ [])) ++ compact_text more) ++ 93 ∷ 125 ∷ [] ≡ frame (reply_tree id (array (and_item items more)))
appended id items first more same =
    let with_separator = ap (λ t. ((open_reply id items ++ t) ++ compact_text more) ++ 93 ∷ 125 ∷ []) (separated first items same) in
    let together = append_assoc (open_reply id items) (comma_if (not (are_none items))) (compact_text more) ∙ after id (91 ∷ comma_joined false items) (comma_if (not (are_none items)) ++ compact_text more) in
    let whole = together ∙ ap (λ t. from_result id (91 ∷ t)) (sym (with_more items more)) in
    with_separator ∙ (ap (λ t. t ++ 93 ∷ 125 ∷ []) whole ∙ sym (framed id (and_item items more)))
