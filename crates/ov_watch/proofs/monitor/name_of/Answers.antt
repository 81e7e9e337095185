use Rattle.std.proofs.Common.{ap, ◌∙◌}
use Rattle.std.proofs.lemmas.Result.{IfOk-weaker}
use Rattle.serde_json.specs.View.{view}
use Rattle.serde_json.specs.Written.{compact_text}
use Rattle.ov_specs.specs.wire.Tree.{has_real}
use Rattle.ov_specs.proofs.laws.Trees.{has_no_float}
use Rattle.ov_watch.proofs.monitor.name_of.Goals as goal

pub returns : goal.returns
returns c =
    let same = c.as_value.ensures.same in
    IfOk-weaker c.to_string.result _ _ (λ s text. text (has_no_float (view c.as_value.result.now) (ap has_real same ∙ c.as_value.ensures.plain)) ∙ ap compact_text same) c.to_string.ensures.text
