use Rattle.std.proofs.Common.{◌≡◌, rules}
use Rattle.ov_conds.specs.OnlyId.{only_id}
use Rattle.ov_conds.proofs.OnlyIds.{only_ids}
use Rattle.ov_conds.proofs.condition.Condition.only_id.Goals as goal

pub returns-then-eq-clause-only : goal.returns-then-eq-clause-only
returns-then-eq-clause-only c =
    let value : c.equal_uuid.result ≡ only_id c.args.self.now = search rules in
    only_ids c.args.self.now c.equal_uuid.result value
