use Rattle.ov_laws.proofs.Carrying.{carried_common, carried_added, carried_without, was_there, carried_as_it_is, carried_anew, get-dropped}
use Rattle.ov_laws.proofs.a_conversion_keeps_what_both_schemas_have.Goals as goal

pub returns-clause-common : goal.returns-clause-common
returns-clause-common c old new version before key row from to name = carried_common old new version before key row from to name

pub returns-clause-added : goal.returns-clause-added
returns-clause-added c old new version before key row from to name column = carried_added old new version before key row from to name column

pub returns-clause-without : goal.returns-clause-without
returns-clause-without c old new version before key row from to name = carried_without old new version before key row from to name

pub returns-clause-unchanged : goal.returns-clause-unchanged
returns-clause-unchanged c old new version before key row from to = carried_as_it_is old new version before key row from to

pub returns-clause-changed : goal.returns-clause-changed
returns-clause-changed c old new version before key row from to name = carried_anew old new version before key row from to name

pub returns-clause-dropped : goal.returns-clause-dropped
returns-clause-dropped c old new version before key = get-dropped old new version before key

pub returns-clause-former : goal.returns-clause-former
returns-clause-former c old new version before key row = was_there old new version before key row
