use Rattle.ov_laws.proofs.Blocking.{arrival_blocked, try_blocked}
use Rattle.ov_laws.proofs.Refused.{changes_nothing, try_changes_nothing}
use Rattle.ov_laws.proofs.a_refused_transaction_changes_nothing.Goals as goal

pub returns-clause-arrived : goal.returns-clause-arrived
returns-clause-arrived c = changes_nothing

pub returns-clause-later : goal.returns-clause-later
returns-clause-later c = try_changes_nothing

pub returns-clause-blocked : goal.returns-clause-blocked
returns-clause-blocked c = arrival_blocked

pub returns-clause-blocked_again : goal.returns-clause-blocked_again
returns-clause-blocked_again c = try_blocked
