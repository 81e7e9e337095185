use Rattle.ov_laws.proofs.Databases.{last_is}
use Rattle.ov_laws.proofs.the_last_database_is_the_states.Goals as goal

pub returns : goal.returns
returns c = last_is
