use Rattle.ov_cut.proofs.Feeding.{has_cut_nothing}
use Rattle.ov_cut.proofs.cutter.Cutter.new.Goals as goal

pub returns : goal.returns
returns c = has_cut_nothing c.new.result.items c.new-2.result c.new.ensures.items
