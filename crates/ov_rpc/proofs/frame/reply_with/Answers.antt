use Rattle.std.proofs.Common.{rules, ◌≡◌, ◌∷◌, [], ◌++◌, List, ℕ, ap, sym, ◌∙◌}
use Rattle.std.proofs.lemmas.List.{append_assoc}
use Rattle.serde_json.proofs.OnLiterals.{serde_json_on_literals}
use Rattle.serde_json.specs.Written.{compact_text}
use Rattle.ov_rpc.proofs.frame.reply_with.Goals as goal

-- the texts of the members before an id, and between it and what an array has
abbrev before_id : List ℕ
before_id = 123 ∷ 34 ∷ 101 ∷ 114 ∷ 114 ∷ 111 ∷ 114 ∷ 34 ∷ 58 ∷ 110 ∷ 117 ∷ 108 ∷ 108 ∷ 44 ∷ 34 ∷ 105 ∷ 100 ∷ 34 ∷ 58 ∷ []

abbrev before_items : List ℕ
before_items = 44 ∷ 34 ∷ 114 ∷ 101 ∷ 115 ∷ 117 ∷ 108 ∷ 116 ∷ 34 ∷ 58 ∷ 91 ∷ []

regroup : (a b c d e : List ℕ) → (((a ++ b) ++ c) ++ d) ++ e ≡ a ++ (b ++ (c ++ (d ++ e)))
regroup a b c d e = append_assoc ((a ++ b) ++ c) d e ∙ append_assoc (a ++ b) c (d ++ e) ∙ append_assoc a b (c ++ (d ++ e))

-- a reply's text, from that of its result on
abbrev around : List ℕ → List ℕ → List ℕ
around id t = before_id ++ (id ++ (44 ∷ 34 ∷ 114 ∷ 101 ∷ 115 ∷ 117 ∷ 108 ∷ 116 ∷ 34 ∷ 58 ∷ (t ++ 125 ∷ [])))

pub returns : goal.returns
unfolding serde_json_on_literals
returns c =
    let id = compact_text c.args.id.now in
    let items = c.as_slice-2.result.now in
    let made : c.from_vec.result ≡ (((before_id ++ id) ++ before_items) ++ items) ++ 93 ∷ 125 ∷ [] = search rules in
    made ∙ regroup before_id id before_items items (93 ∷ 125 ∷ [])
    ∙ sym (ap (λ t. before_id ++ (id ++ (before_items ++ t))) (append_assoc items (93 ∷ []) (125 ∷ [])))
    ∙ ap (around id) c.as_slice-2.ensures
