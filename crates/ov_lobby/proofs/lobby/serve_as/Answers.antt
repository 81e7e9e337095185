use Rattle.std.proofs.Common.{refl, false}
use Rattle.ov_lobby.proofs.Places.{empty_seats}
use Rattle.ov_lobby.proofs.lobby.serve_as.Goals as goal

pub in_scope-requires-clause-seats : goal.in_scope-requires-clause-seats
in_scope-requires-clause-seats g c κs within = empty_seats false c.in-Ok.room.lanes.items c.in-Ok.room.workers.items c.in-Ok.ensures.places.0 c.in-Ok.ensures.places.1

pub in_scope-requires-clause-ring : goal.in_scope-requires-clause-ring
in_scope-requires-clause-ring g c κs within = (record { ring = c.in-Ok.room.accepted; ended = false }, refl, c.in-Ok.ensures.ring.0, c.in-Ok.ensures.ring.1)
