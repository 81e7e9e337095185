-- The ends of a connection.
use Rattle.std.specs.Prelude.{◌≡◌, List, [], ◌∷◌, true, false, Option, Some, None, Result, Ok, Err}
use Rattle.std.specs.Io.Buffered.{writer_buffer, writer_capacity}
use Rattle.std.specs.IoError.{error_kind}
use Rattle.std.specs.declared.io.Error.{Error}
use Rattle.std.specs.declared.alloc.Global.{Global}
use Rattle.std.specs.declared.io.buffered.BufWriter.{BufWriter}
use Rattle.std.specs.declared.net.tcp.TcpStream.{TcpStream}
use Rattle.ov_ends.specs.declared.watched.Watched.{Watched}
use Rattle.ov_workers.specs.declared.link.Link.{Link}
use Rattle.ov_sockets.specs.declared.clients.Clients.{Clients}
use Rattle.ov_sockets.specs.declared.clients.Next.{Next}
use Rattle.ov_sockets.specs.declared.clients.Next.TheVariants as next
use Rattle.ov_sockets.specs.Faults.{is_given_up}

-- the two ends of a connection, which own it
abbrev pub ClientLink : Type 0
ClientLink = Link (Watched TcpStream) (Watched (BufWriter TcpStream Global))

-- it has not been used yet
abbrev pub IsUnused : {T : Type 0} → Watched T → Type 0
IsUnused end = (end.trace.bytes ≡ []) × (end.ended ≡ false) × (end.flushed ≡ false) × (end.failures ≡ 0)

-- The reader is of this connection, and nothing went over the two ends. The writer is a second handle: that it is of the same
-- connection, the kit doesn't say. It buffers up to 8,192 bytes.
abbrev pub IsNewClient : ClientLink → TcpStream → Type 0
IsNewClient link stream =
    IsUnused link.reader × (link.reader.inner ≡ stream)
    × IsUnused link.writer × (writer_buffer link.writer.inner ≡ []) × (writer_capacity link.writer.inner ≡ 8192)

-- each of the links is so of some connection
abbrev pub AreNewClients : List ClientLink → Type 0
AreNewClients [] = Unit {0}
AreNewClients (link ∷ links) = ((stream : TcpStream) × IsNewClient link stream) × AreNewClients links

-- what the system's answer to a listener comes to: a client; or a failure of this one connection; or no more can come
abbrev pub ComesTo : Result TcpStream Error → Next → Type 0
ComesTo (Ok stream) (next.Client link) = IsNewClient link stream
ComesTo (Ok stream) next.Failed = Unit {0}
ComesTo (Ok stream) next.Over = ⊥
ComesTo (Err error) (next.Client link) = ⊥
ComesTo (Err error) next.Failed = is_given_up (error_kind error) ≡ true
ComesTo (Err error) next.Over = is_given_up (error_kind error) ≡ false

-- A link that is given is new, and its reader is of some connection: no contract says that it is one of the listener's. The
-- listener stays as it is.
abbrev pub GivesClient : Clients → Option ClientLink → Clients → Type 0
GivesClient old None new = new ≡ old
GivesClient old (Some link) new = (new ≡ old) × ((stream : TcpStream) × IsNewClient link stream)
