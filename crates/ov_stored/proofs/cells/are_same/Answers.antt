use Rattle.std.proofs.Common.{map, ◌&&◌, sym, ap, ◌∙◌}
use Rattle.ov_keeper.specs.Views.{cell_entry, cells_view}
use Rattle.ov_stored.specs.CellLists.{agree}
use Rattle.ov_stored.proofs.CellMaps.{agree_both}
use Rattle.ov_stored.proofs.cells.are_same.Goals as goal

pub returns-then-agree : goal.returns-then-agree
returns-then-agree c =
    let a = c.args.a.now in
    let b = c.args.b.now in
    c.agree-then-agree.ensures ∙ ap (λ t. t && agree (cells_view b) (cells_view a) (map cell_entry b)) (sym c.if-agree.true ∙ c.agree.ensures) ∙ agree_both (map cell_entry a) (map cell_entry b)

pub returns-else-agree : goal.returns-else-agree
returns-else-agree c =
    let a = c.args.a.now in
    let b = c.args.b.now in
    c.if-agree.false ∙ ap (λ t. t && agree (cells_view b) (cells_view a) (map cell_entry b)) (sym c.if-agree.false ∙ c.agree.ensures) ∙ agree_both (map cell_entry a) (map cell_entry b)
