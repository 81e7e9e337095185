use Rattle.ov_laws.proofs.Updating.{works_first, works_alone, tries_first, tries_alone}
use Rattle.ov_laws.proofs.updates_come_before_the_reply.Goals as goal

pub returns-clause-arrived : goal.returns-clause-arrived
returns-clause-arrived c s session draws id operations stepped = works_first s session draws id operations stepped

pub returns-clause-later : goal.returns-clause-later
returns-clause-later c s waiting stepped = tries_first s waiting stepped

pub returns-clause-arrived_unkept : goal.returns-clause-arrived_unkept
returns-clause-arrived_unkept c s session draws outcome id operations stepped = works_alone s session draws id operations stepped outcome

pub returns-clause-later_unkept : goal.returns-clause-later_unkept
returns-clause-later_unkept c s waiting outcome stepped = tries_alone s waiting stepped outcome
