-- How the program ends: each ending with its status and its line on standard error.
use Rattle.std.specs.Prelude.{ℕ, List, Option, Some, None, codes}
use Rattle.ov_words.specs.declared.ending.Ending.{Ending}
use Rattle.ov_words.specs.declared.ending.Ending.TheVariants.{InputEnded, Arguments, Schema, Database, Streams, Memory}

-- the exit status
abbrev pub status : Ending → ℕ
status InputEnded = 0
status Arguments = 2
status Schema = 3
status Database = 4
status Streams = 5
status Memory = 6

-- the line: the program's name, and what failed
abbrev pub error_line : Ending → Option (List ℕ)
error_line InputEnded = None
error_line Arguments = Some (codes "ov_server: arguments")
error_line Schema = Some (codes "ov_server: schema")
error_line Database = Some (codes "ov_server: database")
error_line Streams = Some (codes "ov_server: input or output")
error_line Memory = Some (codes "ov_server: memory")
