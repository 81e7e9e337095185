-- What is made of the system's errors.
use Rattle.std.specs.Prelude.{Bool, true, false}
use Rattle.std.specs.declared.io.ErrorKind.{ErrorKind}
use Rattle.std.specs.declared.io.ErrorKind.TheVariants.{OutOfMemory, ConnectionAborted, ConnectionReset, Interrupted}
use Rattle.ov_sockets.specs.declared.fault.ListenFault.{ListenFault}
use Rattle.ov_sockets.specs.declared.fault.ListenFault.TheVariants.{Memory, Refused}

-- out of memory stays so, and for every other error there is no connection
abbrev pub fault_by : ErrorKind → ListenFault
fault_by OutOfMemory = Memory
fault_by _ = Refused

-- only the one connection failed: its client gave it up before it was accepted, or a signal interrupted the call
abbrev pub is_given_up : ErrorKind → Bool
is_given_up ConnectionAborted = true
is_given_up ConnectionReset = true
is_given_up Interrupted = true
is_given_up _ = false
