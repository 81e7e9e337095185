use Rattle.std.proofs.Common.{◌∙◌, ap, ap₂, rules}
use Rattle.std.proofs.lemmas.Result.{IfOk-weaker}
use Rattle.clap.specs.Words.{app_of, with_rule}
use Rattle.ov_words.proofs.command.with_database.Goals as goal

pub returns : goal.returns
returns c =
    IfOk-weaker c.arg-2.result _ _ (λ r h. h.shape (search rules)
    ∙ ap₂ with_rule (c.in_ok-arg.ensures.shape (search rules) ∙ ap (with_rule (app_of c.args.command)) c.option.ensures.rule) c.option-2.ensures.rule) c.arg-2.ensures
