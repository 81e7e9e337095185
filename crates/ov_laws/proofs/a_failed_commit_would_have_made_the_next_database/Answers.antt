use Rattle.ov_laws.proofs.Databases.{failed_is_made}
use Rattle.ov_laws.proofs.a_failed_commit_would_have_made_the_next_database.Goals as goal

pub returns : goal.returns
returns c = failed_is_made
