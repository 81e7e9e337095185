-- How the program ends when it serves at an address, by what it met there.
use Rattle.ov_words.specs.declared.ending.Ending.{Ending}
use Rattle.ov_words.specs.declared.ending.Ending.TheVariants as ending
use Rattle.ov_sockets.specs.declared.fault.ListenFault.{ListenFault}
use Rattle.ov_sockets.specs.declared.fault.ListenFault.TheVariants as listening
use Rattle.ov_lanes.specs.declared.fault.ServeFault.{ServeFault}
use Rattle.ov_lanes.specs.declared.fault.ServeFault.TheVariants as serving

-- the ending if there are no connections
abbrev pub by_listening : ListenFault → Ending
by_listening listening.Refused = ending.Streams
by_listening listening.Memory = ending.Memory

-- the ending if connections are not served
abbrev pub by_serving : ServeFault → Ending
by_serving serving.Threads = ending.Streams
by_serving serving.TooMany = ending.Streams
by_serving serving.Memory = ending.Memory
