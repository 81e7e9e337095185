use Rattle.std.proofs.Common.{sym, ◌∙◌}
use Rattle.ov_conversion.proofs.limits.breaks_a_limit.Goals as goal

pub are_over-requires : goal.are_over-requires
are_over-requires c = record { suits = c.requires.suits (sym c.in_ok-are_short.ensures ∙ c.if-branch.false) }
