use Rattle.std.proofs.Common.{sym, ap, ◌∙◌}
use Rattle.ov_rows.specs.Spread.{own_among}
use Rattle.ov_rows.proofs.Spreading.{unmarked-among}
use Rattle.ov_rows.proofs.marks.own_among.Goals as goal

pub returns-then-marks-eq0 : goal.returns-then-marks-eq0
returns-then-marks-eq0 c = sym (ap (λ m. own_among m c.args.values.items) c.if-marks-eq0.true ∙ unmarked-among c.args.values.items)
