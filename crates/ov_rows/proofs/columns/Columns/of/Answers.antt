use Rattle.std.proofs.Common.{sym, ap, ◌∙◌}
use Rattle.std.proofs.lemmas.Result.{IfOk-weaker}
use Rattle.ov_rows.proofs.Names.{apart-invariant, columns_at-apart}
use Rattle.ov_rows.proofs.columns.Columns.of.Goals as goal

pub listed-requires : goal.listed-requires
listed-requires c = apart-invariant c.args.named _ _ (ap (λ s. s.names) c.in_ok-share.ensures ∙ sym c.requires) c.in_ok-into_values.ensures

pub returns : goal.returns
returns c =
    IfOk-weaker c.listed.result _ _ (λ columns is.
    is ∙ columns_at-apart c.args.named _ _ (ap (λ s. s.names) c.in_ok-share.ensures ∙ sym c.requires) c.in_ok-into_values.ensures) c.listed.ensures
