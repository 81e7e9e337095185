use Rattle.std.proofs.Common.{sym, subst}
use Rattle.ov_specs.specs.rows.Suits.{Suits}
use Rattle.ov_specs.proofs.laws.Committing.{kept_suits}
use Rattle.ov_stage.specs.Staging.{Stage}
use Rattle.ov_integrity.proofs.finished.finish_stage.Goals as goal

pub prune-requires-clause-suits : goal.prune-requires-clause-suits
prune-requires-clause-suits c =
    subst (λ (s : Stage). Suits c.args.schema.now s.now) (sym c.in_ok-drop_unsupported.ensures) (kept_suits c.args.schema.now c.args.stage.now c.requires.suits)

pub breaks_a_limit-requires-clause-suits : goal.breaks_a_limit-requires-clause-suits
breaks_a_limit-requires-clause-suits c = c.in_ok-prune.ensures.suits c.if-branch-2.false
