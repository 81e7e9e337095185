use Rattle.std.proofs.Common.{ap}
use Rattle.ov_listen.specs.Pipes.{pipes_state}
use Rattle.ov_service.proofs.file.serve_store.Goals as goal

pub returns-in-Err-serve_offer : goal.returns-in-Err-serve_offer
returns-in-Err-serve_offer g c =
    let e = c.in-Err-serve_offer.ensures in
    rw c.in-Ok.is (ap (pipes_state g.S.Source g.W.Sink) e.untouched, (c.in-Err-serve_offer.refused, c.ending_of_open.ensures, e.refused))
