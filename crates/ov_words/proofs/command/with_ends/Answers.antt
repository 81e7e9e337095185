use Rattle.std.proofs.Common.{◌≡◌, ◌∙◌, ap, ap₂, rules, codes}
use Rattle.std.proofs.lemmas.Result.{IfOk-weaker}
use Rattle.clap.specs.Words.{app_of, rule_of, with_rule}
use Rattle.ov_words.specs.Words.{flag_rule}
use Rattle.ov_words.proofs.command.with_ends.Goals as goal

pub returns : goal.returns
returns c =
    let streams_is : rule_of c.action-streams.result ≡ flag_rule (codes "stdio") = search rules in
    IfOk-weaker c.arg-3.result _ _ (λ r h. h.shape (search rules)
    ∙ ap₂ with_rule (c.in_ok-arg-2.ensures.shape (search rules)
    ∙ ap₂ with_rule (c.in_ok-arg.ensures.shape (search rules) ∙ ap (with_rule (app_of c.args.command)) streams_is) c.option.ensures.rule) c.option-2.ensures.rule) c.arg-3.ensures
