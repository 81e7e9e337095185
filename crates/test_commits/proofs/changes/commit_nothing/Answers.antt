use Rattle.std.proofs.Common.{sym, ap, subst, ◌∙◌}
use Rattle.ov_specs.specs.rows.Database.{Database}
use Rattle.ov_specs.specs.rows.Suits.{Suits}
use Rattle.ov_stage.specs.Staging.{Stage}
use Rattle.test_commits.proofs.changes.commit_nothing.Goals as goal

pub finished-requires-clause-suits : goal.finished-requires-clause-suits
finished-requires-clause-suits g c =
    subst (λ (rows : Database). Suits c.args.db.now.schema rows) (sym (ap (λ (s : Stage). s.now) c.new-stage.ensures ∙ c.rows.ensures)) c.shows_kept.ensures.committed_kept.suits
