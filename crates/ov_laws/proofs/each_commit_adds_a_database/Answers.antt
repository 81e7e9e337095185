use Rattle.ov_laws.proofs.Counting.{kept_as_listed}
use Rattle.ov_laws.proofs.each_commit_adds_a_database.Goals as goal

pub returns : goal.returns
returns c = kept_as_listed
