use Rattle.std.proofs.Common.{List, [], ◌∷◌, ◌++◌, arith}
use Rattle.std.specs.declared.net.tcp.TcpStream.{TcpStream}
use Rattle.ov_sockets.specs.Links.{AreNewClients, ClientLink, IsNewClient}
use Rattle.ov_sockets.proofs.accept.accept_all.Goals as goal

-- one more
more : (links : List ClientLink) (link : ClientLink) (stream : TcpStream) → AreNewClients links → IsNewClient link stream
    → AreNewClients (links ++ link ∷ [])
more [] link stream all one = ((stream, one), tt)
more (first ∷ links) link stream all one = (all.0, more links link stream all.1 one)

pub loop-preserved : goal.loop-preserved
loop-preserved c = (
  rw c.push_back_reserved.ensures.items (more c.loop.links.items _ _ c.loop.invariant.0 c.in_ok-client_of.ensures),
  omega arith,
  omega arith,
)
