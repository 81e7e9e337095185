use Rattle.ov_refs.proofs.KeySets.{set_of-nil}
use Rattle.ov_refs.proofs.key_set.KeySet.new.Goals as goal

pub returns : goal.returns
returns c = set_of-nil
