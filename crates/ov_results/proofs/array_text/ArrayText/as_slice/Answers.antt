use Rattle.std.proofs.Common.{◌++◌, ◌∷◌, [], false, ap, sym, ◌∙◌}
use Rattle.serde_json.specs.Written.{items_text}
use Rattle.ov_results.proofs.Joining.{closed}
use Rattle.ov_results.proofs.array_text.ArrayText.as_slice.Goals as goal

pub returns : goal.returns
returns c =
    ap (λ t. 91 ∷ (t ++ 93 ∷ [])) (c.as_slice.ensures.value ∙ c.self.invariant.0)
    ∙ ap (λ t. 91 ∷ t) (sym (closed false c.self.inside.trace.items))
    ∙ ap (λ items. 91 ∷ items_text false items) c.self.view_is
