use Rattle.std.proofs.Common.{◌≡◌, option_copied, rules}
use Rattle.ov_conds.specs.EqualTo.{equals}
use Rattle.ov_conds.proofs.EqualValues.{equal_values}
use Rattle.ov_conds.proofs.condition.Condition.equals.Goals as goal

pub returns-then-eq-clause-only : goal.returns-then-eq-clause-only
returns-then-eq-clause-only c =
    let value : option_copied c.equal_value.result ≡ equals c.args.column.now c.args.self.now = search rules in
    equal_values c.args.column.now c.args.self.now c.equal_value.result value
