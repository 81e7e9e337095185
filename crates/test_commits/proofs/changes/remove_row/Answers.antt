use Rattle.std.proofs.Common.{sym, ap, subst, ◌∙◌}
use Rattle.std.specs.FinMap.{remove}
use Rattle.ov_specs.specs.rows.Database.{Database}
use Rattle.ov_specs.specs.rows.Suits.{Suits}
use Rattle.ov_stage.specs.Staging.{Stage}
use Rattle.ov_specs.proofs.laws.FoundRows.{one_row_less}
use Rattle.test_commits.proofs.changes.remove_row.Goals as goal

pub finished-requires-clause-suits : goal.finished-requires-clause-suits
finished-requires-clause-suits g c =
    let schema = c.args.db.now.schema in
    let before = c.args.db.now.committed in
    let at_first = ap (λ (s : Stage). s.now) c.new-stage.ensures ∙ c.rows.ensures in
    let is = ap (λ (s : Stage). s.now) c.in_ok-remove.ensures.ok ∙ ap (λ (rows : Database). remove rows c.in_ok-key.key) at_first in
    subst (λ (rows : Database). Suits schema rows) (sym is) (one_row_less schema before c.in_ok-key.key c.shows_kept.ensures.committed_kept.suits)
