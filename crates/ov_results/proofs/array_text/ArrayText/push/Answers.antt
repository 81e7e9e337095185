use Rattle.std.proofs.Common.{◌++◌, false, not, ap, sym, ◌∙◌}
use Rattle.serde_json.specs.Written.{compact_text, comma_if}
use Rattle.ov_results.specs.Texts.{comma_joined, are_none}
use Rattle.ov_results.proofs.Joining.{with_more, has_some}
use Rattle.ov_results.proofs.array_text.ArrayText.push.Goals as goal

pub invariant_of-self-2 : goal.invariant_of-self-2
invariant_of-self-2 c =
    let items = c.self.inside.trace.items in
    let longer = c.and-self-inside.ensures in (
      c.in_default.ensures.ok ∙ ap (λ t. t ++ (comma_if (not c.self.inside.is_empty) ++ compact_text c.args.item)) c.self.invariant.0
          ∙ ap (λ b. comma_joined false items ++ (comma_if (not b) ++ compact_text c.args.item)) c.self.invariant.1
          ∙ sym (ap (comma_joined false) longer ∙ with_more items c.args.item),
      has_some items c.args.item ∙ sym (ap are_none longer),
    )
