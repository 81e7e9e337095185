use Rattle.std.proofs.Common.{◌∷◌, [], ◌++◌, List, ℕ, ap, sym, ◌∙◌}
use Rattle.std.proofs.lemmas.List.{append_assoc}
use Rattle.json.specs.Print.{escape}
use Rattle.serde_json.proofs.OnLiterals.{serde_json_on_literals}
use Rattle.uuid.specs.Text.{hyphenated_text, lower}
use Rattle.ov_results.proofs.Identifiers.{escape-identifier}
use Rattle.ov_results.proofs.Joining.{in_turn}
use Rattle.ov_results.proofs.op_result.write_new_row.Goals as goal

-- the object's text, from that of the identifier on
abbrev around : List ℕ → List ℕ
around t = 123 ∷ 34 ∷ 117 ∷ 117 ∷ 105 ∷ 100 ∷ 34 ∷ 58 ∷ 91 ∷ 34 ∷ 117 ∷ 117 ∷ 105 ∷ 100 ∷ 34 ∷ 44 ∷ 34 ∷ t

pub returns-clause-ok : goal.returns-clause-ok
unfolding serde_json_on_literals
returns-clause-ok c =
    let text = c.args.text.now.items in
    let id = escape (hyphenated_text lower c.args.id) in
    in_turn text _ c.as_bytes.result.now (34 ∷ 93 ∷ 125 ∷ []) _ _ _ c.in_ok-extend_from_slice.ensures.items c.in_ok-extend_from_slice-2.ensures.items c.in_ok-extend_from_slice-3.ensures.items
    ∙ ap (λ t. text ++ around (t ++ 34 ∷ 93 ∷ 125 ∷ [])) (c.as_bytes.ensures.value ∙ c.encode_lower-id.ensures.text ∙ ap (hyphenated_text lower) c.hyphenated.ensures ∙ sym (escape-identifier c.args.id))
    ∙ ap (λ t. text ++ around t) (sym (append_assoc (id ++ 34 ∷ []) (93 ∷ []) (125 ∷ []) ∙ append_assoc id (34 ∷ []) (93 ∷ 125 ∷ [])))

pub returns-clause-grown : goal.returns-clause-grown
returns-clause-grown c =
    (_, sym (in_turn c.args.text.now.items _ _ _ _ _ _ c.in_ok-extend_from_slice.ensures.items c.in_ok-extend_from_slice-2.ensures.items c.in_ok-extend_from_slice-3.ensures.items))
