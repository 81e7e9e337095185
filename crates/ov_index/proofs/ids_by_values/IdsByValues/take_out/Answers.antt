use Rattle.std.proofs.Common.{ap, sym, ◌∙◌}
use Rattle.std.specs.FinMap.{get, remove}
use Rattle.ov_index.specs.Indexing.{has_no_rows}
use Rattle.ov_index.specs.KeyOrder.{values_total, values_exact}
use Rattle.ov_index.specs.Nested.{IdsByValues}
use Rattle.ov_index.proofs.IdMaps.{without_id-goes, without_id-stays}
use Rattle.ov_index.proofs.ids_by_values.IdsByValues.take_out.Goals as goal

pub returns-then-lose : goal.returns-then-lose
returns-then-lose c =
    let key = c.args.values.now in
    c.drop_values.ensures ∙ ap (λ (all : IdsByValues). remove all key) c.lose.ensures.lost
    ∙ without_id-goes values_total values_exact c.args.self.now key c.args.id
    (sym (ap (λ (all : IdsByValues). has_no_rows (get all key)) c.lose.ensures.lost) ∙ sym c.lose.ensures.left ∙ c.if-lose.true)

pub returns-else-lose : goal.returns-else-lose
returns-else-lose c =
    let key = c.args.values.now in
    c.lose.ensures.lost
    ∙ without_id-stays values_total values_exact c.args.self.now key c.args.id
    (sym (ap (λ (all : IdsByValues). has_no_rows (get all key)) c.lose.ensures.lost) ∙ sym c.lose.ensures.left ∙ c.if-lose.false)
