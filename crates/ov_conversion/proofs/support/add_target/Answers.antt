use Rattle.std.proofs.Common.{[], ◌∷◌, sym, ap, subst, ◌∙◌}
use Rattle.std.specs.FinMap.{insert}
use Rattle.ov_conversion.specs.Support.{Supports}
use Rattle.ov_conversion.proofs.SupportedRows.{one_more, no_more}
use Rattle.ov_conversion.proofs.support.add_target.Goals as goal
use Rattle.ov_specs.specs.integrity.References.{Target}

pub returns : goal.returns
returns c =
    subst (Supports c.args.held.now (record { from = c.args.from.now; to = c.args.target } ∷ []))
    (sym (c.in_ok-insert.ensures.ok ∙ ap (λ (t : Target). insert c.args.held.now t.key tt) c.target.view_is))
    (one_more c.args.held.now c.args.from.now c.args.target (sym c.is_of_other.ensures ∙ c.if-not-is_of_other.false))

pub returns-then-not-is_of_other : goal.returns-then-not-is_of_other
returns-then-not-is_of_other c = no_more c.args.held.now c.args.from.now c.args.target (sym c.is_of_other.ensures ∙ c.if-not-is_of_other.true)
