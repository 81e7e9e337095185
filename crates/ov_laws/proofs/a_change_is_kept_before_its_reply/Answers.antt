use Rattle.ov_laws.proofs.Changing.{works_keeps, tries_keeps}
use Rattle.ov_laws.proofs.Databases.{reply_tells}
use Rattle.ov_laws.proofs.a_change_is_kept_before_its_reply.Goals as goal

pub returns-clause-arrived : goal.returns-clause-arrived
returns-clause-arrived c s session draws outcome id operations own results database before stepped h sent fine completes changes =
    works_keeps s own results database before stepped outcome fine changes session draws id operations h sent completes

pub returns-clause-later : goal.returns-clause-later
returns-clause-later c s waiting outcome own results database before stepped h sent fine completes changes =
    tries_keeps s own results database before stepped outcome fine changes waiting h sent completes

pub returns-clause-entry : goal.returns-clause-entry
returns-clause-entry c schema database history before after entry session id results front back = reply_tells schema database history before after entry session id results front back
