-- What comes of a database: of one in memory, or of the one in a file.
use Rattle.std.specs.Prelude.{ℕ, List, Result, Ok, Err}
use Rattle.ov_specs.specs.rows.Cells.{CellLines}
use Rattle.ov_db.specs.declared.fault.RefusedOpen.{RefusedOpen}
use Rattle.ov_words.specs.declared.ending.Ending.{Ending}
use Rattle.ov_words.specs.Causes.{by_open}
use Rattle.ov_listen.specs.declared.endpoint.Ended.{Ended}
use Rattle.ov_service.specs.declared.file.FileEnded.{FileEnded}
use Rattle.ov_service.specs.declared.database.DatabaseEnded.{DatabaseEnded}
use Rattle.ov_service.specs.declared.database.DatabaseEnded.TheVariants.{Memory, File}

-- what contracts see of a keeper in memory: the text of its schema, and its rows
abbrev pub MemoryState : Type 0
MemoryState = List ℕ × CellLines

-- the database was in memory, and ended so
abbrev pub IsInMemory : {D : Type 0} → DatabaseEnded D → (Result (Ended MemoryState D) (RefusedOpen MemoryState) → Type 0) → Type 0
IsInMemory (Memory ended) holds = holds ended
IsInMemory (File ended) holds = ⊥

-- it was in a file, and ended so
abbrev pub IsInFile : {D : Type 0} → DatabaseEnded D → (FileEnded → Type 0) → Type 0
IsInFile (Memory ended) holds = ⊥
IsInFile (File ended) holds = holds ended

-- how the program ends then
abbrev pub ending_of : {D : Type 0} → DatabaseEnded D → Ending
ending_of (Memory (Ok ended)) = ended.ending
ending_of (Memory (Err refused)) = by_open refused.fault
ending_of (File ended) = ended.ending
