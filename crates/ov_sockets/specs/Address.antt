-- What is reported of an address.
use Rattle.std.specs.Prelude.{ℕ, List, ◌++◌, Bool, nat_eq, codes}
use Rattle.std.specs.List.{ends_with}
use Rattle.std.specs.Net.Text.{socket_text}
use Rattle.std.specs.declared.net.socket_addr.SocketAddr.{SocketAddr}

-- it leaves the port to the system
abbrev pub leaves_port_open : List ℕ → Bool
leaves_port_open named = ends_with nat_eq named (codes ":0")

-- the line that reports it
abbrev pub line : SocketAddr → List ℕ
line address = codes "ov_server: listening at " ++ socket_text address
