use Rattle.ov_laws.proofs.Databases.{next_is_made}
use Rattle.ov_laws.proofs.each_database_is_made_by_one_transaction.Goals as goal

pub returns : goal.returns
returns c = next_is_made
