use Rattle.std.proofs.Common.{T, sym, ap, subst, ◌∙◌}
use Rattle.std.proofs.lemmas.Result.{IfOk-weaker}
use Rattle.std.specs.FinMap.{entries, is_sorted}
use Rattle.std.specs.List.{filter}
use Rattle.ov_specs.specs.rows.Database.{Database}
use Rattle.ov_specs.specs.rows.Lines.{line_cmp}
use Rattle.std.specs.Str.{bytes_eq}
use Rattle.ov_stage.specs.Asked.{rows_after}
use Rattle.ov_stage.specs.Staging.{Stage}
use Rattle.ov_stage.proofs.Merging.{Entries, its_rows_sorted, of_table_after}
use Rattle.ov_stage.proofs.stage.Stage.rows_of.Goals as goal

pub rows_after-requires : goal.rows_after-requires
rows_after-requires c =
    subst (λ (es : Entries). T (is_sorted line_cmp es)) (sym c.in_ok-rows.ensures) (its_rows_sorted c.args.table.now c.self.inside.delta c.self.inside.rows.now)

pub returns : goal.returns
returns c =
    let table = c.args.table.now in
    let rows_of : Database → Entries = λ db. filter (λ r. bytes_eq r.0.0 table) (entries db) in
    IfOk-weaker c.rows_after.result _ _ (λ after h.
    h ∙ ap (rows_after c.self.inside.delta table) c.in_ok-rows.ensures ∙ of_table_after table c.self.inside.delta c.self.inside.rows.now
    ∙ ap (λ (s : Stage). rows_of s.now) c.self.view_is) c.rows_after.ensures
