use Rattle.std.proofs.Common.{◌≡◌, ◌↔◌, IsTrue, ap, sym, subst, ◌∙◌}
use Rattle.serde_json.specs.Data.{no_items}
use Rattle.ov_results.specs.Texts.{are_none}
use Rattle.ov_results.proofs.Joining.{none_told}
use Rattle.ov_results.proofs.array_text.ArrayText.is_empty.Goals as goal

pub returns : goal.returns
returns c = subst (λ b. IsTrue b ↔ (c.args.self.now ≡ no_items)) (sym (c.self.invariant.1 ∙ ap are_none c.self.view_is)) (none_told c.args.self.now)
