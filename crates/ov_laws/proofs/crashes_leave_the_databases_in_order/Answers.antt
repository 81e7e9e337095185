use Rattle.ov_laws.proofs.Databases.{databases-front, left_is, sealed_stays}
use Rattle.ov_laws.proofs.crashes_leave_the_databases_in_order.Goals as goal

pub returns-clause-front : goal.returns-clause-front
returns-clause-front c = databases-front

pub returns-clause-left : goal.returns-clause-left
returns-clause-left c = left_is

pub returns-clause-sealed : goal.returns-clause-sealed
returns-clause-sealed c = sealed_stays
