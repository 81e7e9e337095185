use Rattle.std.proofs.Common.{[], ◌∷◌, Some, refl, sym, ap, subst, ◌∙◌, append-nil, vec_len, arith}
use Rattle.ov_core.specs.Following.{CoreState}
use Rattle.ov_lanes.proofs.PlaceLaws.{goes_none}
use Rattle.ov_workers.specs.Accepting.{links_in}
use Rattle.ov_workers.specs.LinkStates.{ends_of}
use Rattle.rtrb.specs.Ring.{received}
use Rattle.ov_hall.specs.Seats.{seating}
use Rattle.ov_hall.proofs.Giving.{arrivals_took, arrived_more}
use Rattle.ov_hall.proofs.Guests.{leaves_along, leaves_same, session_tended, session_same, hosts_of, hosts_steady, hosts_along}
use Rattle.ov_hall.proofs.Halls.{admitted_stays, admitted_seats}
use Rattle.ov_hall.proofs.serve.accept_once_seen.Goals as goal

pub returns-in_default-clause-hosts : goal.returns-in_default-clause-hosts
returns-in_default-clause-hosts g c moment =
    let ends = ends_of g.S.Source g.W.Sink in let tends = c.tend.ensures.tends in let a = c.args.hall.now in let b = c.tend.new.self in
    hosts_steady ends moment a b tends.same.1 (tends.goes moment) (session_tended ends a.desk.lanes.items b.desk.lanes.items a.workers.items b.workers.items tends.leaves) (ap (λ (k : CoreState _ _). k.state.next) tends.core)

pub returns-in_default-take-clause-hosts : goal.returns-in_default-take-clause-hosts
returns-in_default-take-clause-hosts g c moment =
    let ends = ends_of g.S.Source g.W.Sink in let tends = c.tend.ensures.tends in
    let a = c.args.hall.now in let b = c.tend.new.self in let ls = b.desk.lanes.items in let ws = b.workers.items in
    let x = c.in-Some.arrivals in let y = c.take.new.self in let d = record b { accepted = Some y } in
    hosts_along ends moment a b d
    (hosts_steady ends moment a b tends.same.1 (tends.goes moment) (session_tended ends a.desk.lanes.items ls a.workers.items ws tends.leaves) (ap (λ (k : CoreState _ _). k.state.next) tends.core))
    (hosts_of ends moment b d [] [] (arrivals_took b.accepted (Some y) x y c.in-Some.is refl c.take.ensures.ring)
    (arrived_more b.accepted (Some y) x y [] c.in-Some.is refl (c.in_default-take.ensures.taken ∙ sym (append-nil (links_in (received x.ring))))) tt
    (goes_none moment b.desk.core ls) (session_same ends ls ls ws ws (λ at l w is works. (is, works))) (omega arith) tt)

pub returns-clause-hosts : goal.returns-clause-hosts
returns-clause-hosts g c moment =
    let ends = ends_of g.S.Source g.W.Sink in let tends = c.tend.ensures.tends in
    let a = c.args.hall.now in let b = c.tend.new.self in let d = c.admit.new.hall in
    let ls = b.desk.lanes.items in let ws = b.workers.items in let ms = d.desk.lanes.items in let vs = d.workers.items in
    let x = c.in-Some.arrivals in let y = c.take.new.self in let link = c.in-Some-take.link in
    let bells = vec_len c.args.bells.now in let parts = b.parts.left in let answer = c.admit.ensures.answer in
    let seats = admitted_seats bells parts link (seating b) (seating d) c.admit.result answer in
    hosts_along ends moment a b d
    (hosts_steady ends moment a b tends.same.1 (tends.goes moment) (session_tended ends a.desk.lanes.items ls a.workers.items ws tends.leaves) (ap (λ (k : CoreState _ _). k.state.next) tends.core))
    (hosts_of ends moment b d (link ∷ []) seats.seated (arrivals_took b.accepted d.accepted x y c.in-Some.is c.admit.ensures.accepted c.take.ensures.ring)
    (arrived_more b.accepted d.accepted x y (link ∷ []) c.in-Some.is c.admit.ensures.accepted c.in-Some-take.ensures.taken) seats.among
    (c.admit.ensures.goes moment) (session_same ends ls ms ws vs (admitted_stays bells parts link (seating b) (seating d) c.admit.result answer)) seats.next seats.places)

pub returns-clause-untaken : goal.returns-clause-untaken
returns-clause-untaken g c =
    let ends = ends_of g.S.Source g.W.Sink in let a = c.args.hall.now in let b = c.tend.new.self in let d = c.admit.new.hall in
    let ls = b.desk.lanes.items in let ws = b.workers.items in let ms = d.desk.lanes.items in let vs = d.workers.items in
    let stays = admitted_stays (vec_len c.args.bells.now) b.parts.left c.in-Some-take.link (seating b) (seating d) c.admit.result c.admit.ensures.answer in
    leaves_along ends a.desk.lanes.items ls ms a.workers.items ws vs c.tend.ensures.tends.leaves (leaves_same ends ls ms ws vs stays)

pub returns-in_default-clause-untaken : goal.returns-in_default-clause-untaken
returns-in_default-clause-untaken g c = c.tend.ensures.tends.leaves

pub returns-in_default-take-clause-untaken : goal.returns-in_default-take-clause-untaken
returns-in_default-take-clause-untaken g c = c.tend.ensures.tends.leaves

pub returns-clause-honest : goal.returns-clause-honest
returns-clause-honest g c honest = subst (λ core. g.K.Keeper.is_honest core.keeper) c.tend.ensures.tends.core (c.admit.ensures.honest honest)
