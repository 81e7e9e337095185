-- What comes of a core when sessions of it are served at an address.
use Rattle.std.specs.Prelude.{◌≡◌, ◌⊎◌, ℕ, List, [], Option, None, MatchOption, length}
use Rattle.std.specs.declared.alloc.Global.{Global}
use Rattle.std.specs.declared.io.buffered.BufWriter.{BufWriter}
use Rattle.std.specs.declared.net.tcp.TcpStream.{TcpStream}
use Rattle.ov_ends.specs.States.{source_state, sink_state}
use Rattle.ov_ends.specs.declared.watched.Watched.{Watched}
use Rattle.ov_lanes.specs.declared.fault.ServeFault.{ServeFault}
use Rattle.ov_hall.specs.declared.finish.End.{End}
use Rattle.ov_lobby.specs.Serving.{ServesGuests}
use Rattle.ov_workers.specs.LinkStates.{LinkState}
use Rattle.ov_desk.specs.Serving.{RefusesLinks, ServesAll}
use Rattle.ov_core.specs.Following.{Timed}
use Rattle.ov_sockets.specs.declared.fault.ListenFault.{ListenFault}
use Rattle.ov_sockets.specs.declared.clients.Clients.{Clients}
use Rattle.ov_sockets.specs.Links.{AreNewClients, ClientLink, GivesClient}
use Rattle.ov_words.specs.declared.ending.Ending.{Ending}
use Rattle.ov_words.specs.declared.ending.Ending.TheVariants as ending
use Rattle.ov_listen.specs.Endings.{by_listening, by_serving}

-- what remains of a connection
abbrev pub ClientEnd : Type 0
ClientEnd = End (Watched TcpStream) (Watched (BufWriter TcpStream Global))

-- What contracts see of the two ends of a connection: what the system still has of its bytes is not known.
abbrev pub socket_ends : {R W : Type 0} → Watched R → Watched W → LinkState
socket_ends reader writer = record {
  source = source_state reader.trace.bytes None reader.ended reader.failures;
  sink = sink_state writer.trace.bytes None writer.flushed writer.failures;
}

module _ {K D C : Type 0} where
  -- This many connections were not served, and the ending is that of the fault: nothing was read from them or written to them,
  -- and the clock reported nothing.
  abbrev pub RefusesConnections : Timed K D C → ℕ → Ending → Timed K D C → Type 0
  RefusesConnections old count told new =
      (new.clock ≡ old.clock) × ((fault : ServeFault) × (told ≡ by_serving fault) × RefusesLinks count old.core fault new.core)

  -- There was no listener, or a connection was not accepted: the ending is that of the fault, and nothing was done.
  abbrev pub FailsToListen : Timed K D C → Ending → Timed K D C → Type 0
  FailsToListen old told new = (fault : ListenFault) × (told ≡ by_listening fault) × (new.core ≡ old.core) × (new.clock ≡ old.clock)

module _ {K D C : Type 0} (tells : C → ℕ → C → Type 0) where
  -- Each of these links was served, and this is what remains of each, in their order.
  abbrev pub ServesLinks : Timed K D C → List ClientLink → Timed K D C → List ClientEnd → Type 0
  ServesLinks old links new remains = ServesAll (socket_ends {R = TcpStream} {W = BufWriter TcpStream Global}) tells old new links remains

  -- This many connections were served, each by a link that was unused before, and this is what remains of each, in their order.
  pub record ServesConnections (old : Timed K D C) (count : ℕ) (new : Timed K D C) (remains : List ClientEnd) : Type 0 where
    pub links : List ClientLink
    pub many : length links ≡ count
    pub unused : AreNewClients links
    pub served : ServesLinks old links new remains

  -- This many connections were served to their ends, the ending is InputEnded, and this remains of them; or they were not
  -- served, or not all were accepted, and nothing remains.
  abbrev pub EndsSoMany : Timed K D C → ℕ → Ending → Timed K D C → List ClientEnd → Type 0
  EndsSoMany old count told new remains =
      ((told ≡ ending.InputEnded) × ServesConnections old count new remains)
      ⊎ ((remains ≡ []) × (RefusesConnections old count told new ⊎ FailsToListen old told new))

  -- Every client that was given a session was served over its own connection, which was unused before, until no connection
  -- could be accepted; or the lobby was refused, no client was accepted, the ending is that of the fault, and the core is as it
  -- was.
  abbrev pub EndsEveryone : Timed K D C → Ending → Timed K D C → Type 0
  EndsEveryone old told new =
      ((told ≡ ending.Streams) × ((clients : Clients) × ServesGuests (socket_ends {R = TcpStream} {W = BufWriter TcpStream Global}) tells GivesClient clients old new))
      ⊎ ((fault : ServeFault) × (told ≡ by_serving fault) × (new.core ≡ old.core) × (new.clock ≡ old.clock))

  -- This many connections were served if a number is given, and otherwise every client, of whom nothing remains; or the server
  -- could not listen, and nothing remains.
  abbrev pub EndsAddress : Timed K D C → Option ℕ → Ending → Timed K D C → List ClientEnd → Type 0
  EndsAddress old count told new remains =
      MatchOption count ((remains ≡ []) × EndsEveryone old told new) (λ n. EndsSoMany old n told new remains)
      ⊎ ((remains ≡ []) × FailsToListen old told new)
