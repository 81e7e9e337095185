use Rattle.std.proofs.Common.{T, filter, sym, ap, subst, ◌∙◌}
use Rattle.std.proofs.lemmas.Result.{IfOk-weaker}
use Rattle.std.specs.FinMap.{is_sorted}
use Rattle.ov_specs.specs.operations.MatchingRows.{is_matching, matching}
use Rattle.ov_specs.specs.rows.Lines.{line_cmp}
use Rattle.ov_stage.specs.Asked.{AreIdsOf, rows_after}
use Rattle.ov_stage.specs.Staging.{Stage}
use Rattle.ov_stage.proofs.Merging.{Entries}
use Rattle.ov_stage.proofs.Narrowing.{met-of_table, narrowed, rows-sorted}
use Rattle.ov_stage.proofs.stage.Stage.rows_of_ids.Goals as goal

pub rows_after-requires : goal.rows_after-requires
rows_after-requires c =
    subst (λ (es : Entries). T (is_sorted line_cmp es)) (sym c.in_ok-before.ensures) (rows-sorted c.self.inside.rows.now c.args.table.now c.args.ids.now c.requires)

pub returns : goal.returns
returns c asked all =
    let table = c.args.table.now in
    let rows = c.self.inside.rows.now in
    let delta = c.self.inside.delta in
    let ids = c.args.ids.now in
    let among = subst (λ (s : Stage). AreIdsOf asked s.before table ids) (sym c.self.view_is) all in
    IfOk-weaker c.rows_after.result _ _ (λ after h.
    met-of_table table asked after.items ∙ ap (filter (is_matching table asked)) (h ∙ ap (rows_after delta table) c.in_ok-before.ensures)
    ∙ narrowed delta rows table asked ids c.requires among
    ∙ ap (λ (s : Stage). matching s.now table asked) c.self.view_is) c.rows_after.ensures
