use Rattle.std.proofs.Common.{inl, refl, sym}
use Rattle.ov_listen.proofs.everyone.serve_everyone.Goals as goal

pub returns-in-Ok-clause-ends : goal.returns-in-Ok-clause-ends
returns-in-Ok-clause-ends g c = inl (refl, (c.new-clients.result, rw (c.into_core.ensures, sym c.new.ensures.core) c.in-Ok.ensures.guests))
