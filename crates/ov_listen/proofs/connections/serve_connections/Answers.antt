use Rattle.std.proofs.Common.{sym}
use Rattle.ov_listen.proofs.connections.serve_connections.Goals as goal

pub returns-in-Ok-clause-served : goal.returns-in-Ok-clause-served
returns-in-Ok-clause-served g c = rw (sym c.new.ensures.core) c.in-Ok.ensures.served
