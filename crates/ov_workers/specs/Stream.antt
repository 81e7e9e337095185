-- What a stream that came to an end asked for.
use Rattle.std.specs.Prelude.{List, Option, Some, None}
use Rattle.ov_specs.specs.wire.Message.{Message, Asked}
use Rattle.ov_cut.specs.declared.fault.StreamFault.{StreamFault}
use Rattle.ov_cut.specs.declared.fault.StreamFault.TheVariants as fault
use Rattle.ov_cut.specs.Reading.{AreRead}
use Rattle.ov_workers.specs.declared.cause.ReadCause.{ReadCause}
use Rattle.ov_workers.specs.declared.cause.ReadCause.TheVariants.{InputEnded, ReadFault, Damaged, Memory}

-- the fault of a stream that ended for this cause; none if the input ended or a read failed
abbrev pub stream_fault_of : ReadCause → Option StreamFault
stream_fault_of InputEnded = None
stream_fault_of ReadFault = None
stream_fault_of Damaged = Some fault.Damaged
stream_fault_of Memory = Some fault.Memory

-- these messages were read of a stream that asks for this, until it ended for this cause
abbrev pub AreReadUntil : ReadCause → List Message → Asked → Type 0
AreReadUntil cause messages a = AreRead (stream_fault_of cause) messages a
