use Rattle.std.proofs.Common.{ℕ, List, Vec, Global, ◌+◌, ◌++◌, ◌∷◌, [], drop, sym, ap, ◌∙◌}
use Rattle.std.proofs.lemmas.Result.{err_from_is_err_and}
use Rattle.std.specs.Prelude.{Result}
use Rattle.serde_json.specs.Data.{Data}
use Rattle.serde_json.specs.View.{view, items_view}
use Rattle.ov_specs.specs.operations.Errors.{OpError}
use Rattle.ov_specs.specs.operations.Wait as wait
use Rattle.ov_specs.specs.values.Results.{result_map}
use Rattle.ov_specs.specs.values.Value.{Datum}
use Rattle.ov_specs.proofs.laws.Results.{after_these, item_more}
use Rattle.ov_given.proofs.InFront.{fault_of_all, fault_of_made}
use Rattle.ov_given.proofs.told.told_rows.Goals as goal

pub loop-item-preserved : goal.loop-item-preserved
loop-item-preserved g c =
    let names = g.N.Names.names c.args.names.now in
    let items = c.args.items.now in
    let i = c.loop-item.item-index in
    let table = c.args.table.now in
    let compared = c.args.compared.now in
    let before = c.loop-item.rows.items in
    let rest = wait.told_rows names table compared (items_view (drop (i + 1) items)) in
    let read : Data → Result (List (List ℕ × Datum)) OpError = λ d. result_map (wait.told_projection table compared) (wait.told_row names table compared d) in
    c.loop-item.invariant
    ∙ (item_more read items i c.item-item.result c.loop-item-test.true c.item-item.is before (wait.told_projection table compared c.in_ok-told.told) (ap (result_map (wait.told_projection table compared)) c.in_ok-told.ensures)
    ∙ (ap (λ row. after_these (before ++ row ∷ []) rest) (sym c.in_ok-row.ensures) ∙ ap (λ first. after_these first rest) (sym c.in_default.ensures.items)))

pub returns-in_err-told : goal.returns-in_err-told
returns-in_err-told g c =
    let names = g.N.Names.names c.args.names.now in
    let items = c.args.items.now in
    let i = c.loop-item.item-index in
    let table = c.args.table.now in
    let compared = c.args.compared.now in
    let fault = c.in_err-told.field-0.0 in
    let read : Data → Result (List (List ℕ × Datum)) OpError = λ d. result_map (wait.told_projection table compared) (wait.told_row names table compared d) in
    let made = fault_of_made (wait.told_projection table compared) (wait.told_row names table compared (view c.item-item.result)) fault c.in_err-told.ensures in
    let p = err_from_is_err_and c.from_residual.result c.from_residual.ensures.1 in
    rw (p.1, p.2) (fault_of_all (λ (v : Vec (List (List ℕ × Datum)) Global). v.items) read items i c.item-item.result c.loop-item-test.true c.item-item.is c.loop-item.rows.items fault made
    (wait.told_rows names table compared (items_view items)) c.loop-item.invariant)
