use Rattle.std.proofs.Common.{◌/◌, ◌∷◌, reverse, arith, sym, ap, ◌∙◌}
use Rattle.ov_rows.specs.Spread.{spread}
use Rattle.ov_rows.proofs.Spreading.{marked-first, popped, popped_nil, even}
use Rattle.ov_rows.proofs.marks.take_first.Goals as goal

pub returns-then-marks-eq1 : goal.returns-then-marks-eq1
returns-then-marks-eq1 c = λ defaults.
    let own = reverse c.args.own.now.items in
    marked-first c.args.marks c.args.default.now defaults own c.if-marks-eq1.true ∙ ap (λ datum. datum ∷ spread (c.args.marks / 2) defaults own) (sym c.in_ok-copy.ensures)

pub returns : goal.returns
returns c = λ defaults.
    let old = c.args.own.now.items in
    popped c.args.marks c.args.default.now defaults old c.pop.new.self.items c.pop.result (even c.args.marks c.if-marks-eq1.false) c.pop.ensures.items
    (popped_nil old _ _ c.pop.result c.pop.ensures.cases (omega (arith, c.args.own.now.ok.0)))
