-- What the program makes of `clap`'s errors.
use Rattle.clap.specs.declared.error.kind.ErrorKind.{ErrorKind}
use Rattle.clap.specs.declared.error.kind.ErrorKind.TheVariants.{OutOfMemory}
use Rattle.ov_words.specs.declared.fault.WordFault.{WordFault}
use Rattle.ov_words.specs.declared.fault.WordFault.TheVariants.{Memory, Refused}

-- out of memory stays so, and every other error refuses the arguments
abbrev pub fault_by : ErrorKind → WordFault
fault_by OutOfMemory = Memory
fault_by _ = Refused
