use Rattle.std.proofs.Common.{◌≡◌, Option, map, sym, ap, subst, ◌∙◌}
use Rattle.std.specs.FinMap.{empty}
use Rattle.ov_specs.specs.rows.Database.{Database}
use Rattle.ov_specs.specs.rows.Held.{held}
use Rattle.ov_keeper.specs.declared.keeper.Lines.{Lines}
use Rattle.ov_keeper.specs.Views.{lines_view}
use Rattle.ov_stored.specs.Loading.{IsLoaded, cells_entry, whole_entry, with_lines}
use Rattle.ov_stored.proofs.Loads.{cells_loaded, lines_loaded}
use Rattle.ov_stored.proofs.load.rows_of.Goals as goal

pub returns-in-Whole-clause-loaded : goal.returns-in-Whole-clause-loaded
returns-in-Whole-clause-loaded c =
    let schema = c.args.schema.now in
    let same : with_lines schema (map whole_entry c.in-Whole.lines.items) empty ≡ held schema (lines_view c.args.lines) =
    lines_loaded schema c.in-Whole.lines.items ∙ ap (λ (ls : Lines). held schema (lines_view ls)) (sym c.in-Whole.is) in
    subst (λ (o : Option Database). IsLoaded (λ rows. rows) o c.rows_of_lines.result) same c.rows_of_lines.ensures.loaded

pub returns-in-InCells-clause-loaded : goal.returns-in-InCells-clause-loaded
returns-in-InCells-clause-loaded c =
    let schema = c.args.schema.now in
    let same : with_lines schema (map cells_entry c.in-InCells.lines.items) empty ≡ held schema (lines_view c.args.lines) =
    cells_loaded schema c.in-InCells.lines.items ∙ ap (λ (ls : Lines). held schema (lines_view ls)) (sym c.in-InCells.is) in
    subst (λ (o : Option Database). IsLoaded (λ rows. rows) o c.rows_in_cells.result) same c.rows_in_cells.ensures.loaded
