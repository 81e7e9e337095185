use Rattle.std.proofs.Common.{refl}
use Rattle.ov_workers.specs.LinkStates.{ends_of}
use Rattle.ov_hall.proofs.Guests.{session_stays, hosts_steady}
use Rattle.ov_hall.proofs.Running.{kept_noted}
use Rattle.ov_hall.proofs.Seats.{seats_stay}
use Rattle.ov_hall.proofs.serve.take_noted.Goals as goal

pub returns-then-may_come-clause-hosts : goal.returns-then-may_come-clause-hosts
returns-then-may_come-clause-hosts g c = c.accept_once_seen.ensures.hosts c.args.moment

pub returns-clause-hosts : goal.returns-clause-hosts
returns-clause-hosts g c =
    let ends = ends_of g.S.Source g.W.Sink in let a = c.args.hall.now in let b = c.turn_once_seen.new.desk in
    hosts_steady ends c.args.moment a (record a { desk = b }) refl c.turn_once_seen.ensures.goes (session_stays ends a.desk.lanes.items b.lanes.items a.workers.items c.turn_once_seen.ensures.rings)
    c.turn_once_seen.ensures.steady.next

pub returns-clause-kept : goal.returns-clause-kept
returns-clause-kept g c keeps none = (
  keeps,
  none,
  refl,
  c.turn_once_seen.ensures.steady.next,
  λ apart. kept_noted c.args.note c.args.hall.now.desk.lanes.items c.turn_once_seen.new.desk.lanes.items c.turn_once_seen.ensures.rings c.turn_once_seen.result c.turn_once_seen.ensures.taken apart,
)

pub returns-clause-seats : goal.returns-clause-seats
returns-clause-seats g c = seats_stay c.args.hall.now.keeps c.args.hall.now.desk.lanes.items c.turn_once_seen.new.desk.lanes.items c.args.hall.now.workers.items c.turn_once_seen.ensures.rings c.requires.seats

pub returns-clause-honest : goal.returns-clause-honest
returns-clause-honest g c = c.turn_once_seen.ensures.steady.honest
