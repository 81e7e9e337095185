use Rattle.std.proofs.Common.{◌||◌, sym, ap, ◌∙◌}
use Rattle.ov_index.specs.Changing.{are_any_alike}
use Rattle.ov_index.proofs.MadeAlike.{two_alike_at}
use Rattle.ov_index.proofs.limits.is_over_limits.Goals as goal

pub returns-else-have_too_many : goal.returns-else-have_too_many
returns-else-have_too_many c =
    let schema = c.args.schema.now in
    let rows = c.args.rows.now in
    c.has_two.ensures ∙ two_alike_at schema rows c.args.indexes.now c.requires.indexed c.requires.suits
    ∙ ap (λ b. b || are_any_alike schema rows) (sym c.if-have_too_many.false ∙ c.have_too_many.ensures)
