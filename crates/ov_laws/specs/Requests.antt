-- Which requests of a session are in a history, by what its stream asks for.
use Rattle.std.specs.Prelude.{◌≡◌, List, Option, Some, None}
use Rattle.ov_specs.specs.wire.Beginning.{BeginsAs}
use Rattle.ov_specs.specs.wire.Message.{Message}
use Rattle.ov_specs.specs.machine.Machine.{Cause, InputEnded, ReadFault, WriteFault, Damaged, Overrun, Memory}

-- The requests taken from a session are all that its stream asks for, while it is open and after its input ended or was
-- damaged. If an allocation fails, they are the first of those. Streams alone close a session for no other cause.
abbrev pub AreAskedFor : Option Cause → List Message → List Message → Type 0
AreAskedFor None taken asked = taken ≡ asked
AreAskedFor (Some InputEnded) taken asked = taken ≡ asked
AreAskedFor (Some Damaged) taken asked = taken ≡ asked
AreAskedFor (Some Memory) taken asked = BeginsAs taken asked
AreAskedFor (Some ReadFault) taken asked = ⊥
AreAskedFor (Some WriteFault) taken asked = ⊥
AreAskedFor (Some Overrun) taken asked = ⊥
