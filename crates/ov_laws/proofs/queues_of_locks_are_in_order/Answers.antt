use Rattle.ov_specs.proofs.laws.Locks.{one_owner}
use Rattle.ov_specs.proofs.laws.Queueing.{queues_ascend, nobody_twice, closed_stand_nowhere}
use Rattle.ov_laws.proofs.queues_of_locks_are_in_order.Goals as goal

pub returns-clause-owner : goal.returns-clause-owner
returns-clause-owner c queues name one other = one_owner name queues one other

pub returns-clause-ascend : goal.returns-clause-ascend
returns-clause-ascend c schema database history stepped h = queues_ascend schema database history stepped h

pub returns-clause-once : goal.returns-clause-once
returns-clause-once c schema database history stepped h name = nobody_twice schema database history stepped h name

pub returns-clause-shut : goal.returns-clause-shut
returns-clause-shut c schema database history stepped h session name = closed_stand_nowhere schema database history stepped h session name
