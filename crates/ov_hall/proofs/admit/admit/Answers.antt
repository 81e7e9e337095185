use Rattle.std.proofs.Common.{vec_len}
use Rattle.ov_lanes.proofs.PlaceLaws.{goes_none}
use Rattle.ov_hall.proofs.admit.admit.Goals as goal

pub returns-in_default-clause-goes : goal.returns-in_default-clause-goes
returns-in_default-clause-goes g c moment = goes_none moment c.args.hall.now.desk.core c.args.hall.now.desk.lanes.items

pub returns-in_default-get-clause-goes : goal.returns-in_default-get-clause-goes
returns-in_default-get-clause-goes g c moment = goes_none moment c.args.hall.now.desk.core c.args.hall.now.desk.lanes.items

pub returns-in_default-take-clause-goes : goal.returns-in_default-take-clause-goes
returns-in_default-take-clause-goes g c moment = goes_none moment c.args.hall.now.desk.core c.args.hall.now.desk.lanes.items

pub returns-in_default-next_serial-clause-goes : goal.returns-in_default-next_serial-clause-goes
returns-in_default-next_serial-clause-goes g c moment = goes_none moment c.args.hall.now.desk.core c.args.hall.now.desk.lanes.items

pub returns-in-Err-clause-goes : goal.returns-in-Err-clause-goes
returns-in-Err-clause-goes g c moment = goes_none moment c.args.hall.now.desk.core c.args.hall.now.desk.lanes.items

pub returns-in-Ok-clause-answer : goal.returns-in-Ok-clause-answer
returns-in-Ok-clause-answer g c = c.admit_at.ensures.answer (vec_len c.args.bells.now) c.args.hall.now.parts.left
