use Rattle.ov_refs.proofs.Placing.{in_none}
use Rattle.ov_refs.proofs.target_set.TargetSet.new.Goals as goal

pub returns : goal.returns
returns c = in_none c.new.result c.new-2.result c.new.ensures c.new-2.ensures
