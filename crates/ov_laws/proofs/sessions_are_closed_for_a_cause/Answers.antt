use Rattle.ov_laws.proofs.Closings.{closed_for_cause, closed_since_opening, has_cause}
use Rattle.ov_laws.proofs.sessions_are_closed_for_a_cause.Goals as goal

pub returns-clause-open : goal.returns-clause-open
returns-clause-open c before history after session = closed_for_cause before history after session

pub returns-clause-opened : goal.returns-clause-opened
returns-clause-opened c = closed_since_opening

pub returns-clause-shut : goal.returns-clause-shut
returns-clause-shut c before history after session = has_cause session before history after
