use Rattle.std.proofs.Common.{◌&&◌, refl, ◌∙◌, sym, ap}
use Rattle.std.specs.Cmp.Lexicographic.{pointwise}
use Rattle.std.specs.FinMap.{values}
use Rattle.std.specs.Ordering.{eq_by_cmp}
use Rattle.ov_specs.specs.values.Value.{datum_cmp}
use Rattle.ov_rows.proofs.Names.{same-apart}
use Rattle.ov_rows.proofs.columns.Columns.is_same.Goals as goal

pub returns-then-eq : goal.returns-then-eq
returns-then-eq c =
    let vs = c.values.result in
    let ws = c.values-then-eq.result in
    c.are_same.ensures ∙ ap (λ b. b && pointwise (eq_by_cmp datum_cmp) vs ws) (sym c.if-eq.true ∙ c.eq.ensures)
    ∙ same-apart c.names.result.now c.names-2.result.now vs ws c.args.self.now c.args.other.now c.names.ensures c.names-2.ensures c.values.ensures c.values-then-eq.ensures

pub returns-else-eq : goal.returns-else-eq
returns-else-eq c =
    let vs = values c.args.self.now in
    let ws = values c.args.other.now in
    c.if-eq.false ∙ ap (λ b. b && pointwise (eq_by_cmp datum_cmp) vs ws) (sym c.if-eq.false ∙ c.eq.ensures)
    ∙ same-apart c.names.result.now c.names-2.result.now vs ws c.args.self.now c.args.other.now c.names.ensures c.names-2.ensures refl refl
