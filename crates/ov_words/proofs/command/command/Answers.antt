use Rattle.std.proofs.Common.{◌≡◌, ◌∙◌, ap, codes, true}
use Rattle.std.proofs.lemmas.Result.{IfOk-weaker}
use Rattle.clap.specs.Words.{app_of, new_app}
use Rattle.clap.specs.Simple.{app_of_fields}
use Rattle.ov_words.specs.Words.{without_help, with_database, with_ends}
use Rattle.ov_words.proofs.command.command.Goals as goal

pub returns : goal.returns
returns c =
    let bare_is : app_of c.disable_version_flag-command.result ≡ without_help (new_app (codes "ov_server")) =
    ap app_of_fields c.disable_version_flag-command.ensures
    ∙ ap (λ f. app_of_fields (record f { disable_version_flag = true })) c.disable_help_flag.ensures
    ∙ ap without_help c.new.ensures.app in
    IfOk-weaker c.with_ends.result _ _ (λ r h. h ∙ ap with_ends (c.in_ok-with_database.ensures ∙ ap with_database bare_is)) c.with_ends.ensures
