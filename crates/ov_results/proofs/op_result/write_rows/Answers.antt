use Rattle.std.proofs.Common.{◌∷◌, [], ◌++◌, List, ℕ, ap, sym, ◌∙◌}
use Rattle.std.proofs.lemmas.List.{append_assoc}
use Rattle.serde_json.proofs.OnLiterals.{serde_json_on_literals}
use Rattle.ov_results.proofs.Joining.{in_turn}
use Rattle.ov_results.proofs.op_result.write_rows.Goals as goal

-- the object's text, from that of its array on
abbrev around : List ℕ → List ℕ
around t = 123 ∷ 34 ∷ 114 ∷ 111 ∷ 119 ∷ 115 ∷ 34 ∷ 58 ∷ (t ++ 125 ∷ [])

pub returns-clause-ok : goal.returns-clause-ok
unfolding serde_json_on_literals
returns-clause-ok c =
    let text = c.args.text.now.items in
    let rows = c.as_slice.result.now in
    in_turn text _ rows (93 ∷ 125 ∷ []) _ _ _ c.in_ok-extend_from_slice.ensures.items c.in_ok-extend_from_slice-2.ensures.items c.in_ok-extend_from_slice-3.ensures.items
    ∙ ap (λ t. text ++ t) (sym (ap (λ t. 123 ∷ 34 ∷ 114 ∷ 111 ∷ 119 ∷ 115 ∷ 34 ∷ 58 ∷ 91 ∷ t) (append_assoc rows (93 ∷ []) (125 ∷ []))) ∙ ap around c.as_slice.ensures)
