use Rattle.std.proofs.Common.{rules, Some}
use Rattle.ov_hall.proofs.Seats.{seats_set}
use Rattle.ov_hall.proofs.hall.Hall.seat.Goals as goal

pub returns-clause-seats : goal.returns-clause-seats
returns-clause-seats g c =
    seats_set c.args.self.now.keeps c.args.self.now.desk.lanes.items c.args.self.now.workers.items c.args.at (Some c.args.lane) (Some c.args.workers) (search rules) (c.requires.workers, c.requires.link) c.requires.seats
