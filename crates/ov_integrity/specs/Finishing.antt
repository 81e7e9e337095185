-- What the end of a transaction results in, in the code as in the definitions.
use Rattle.std.specs.Prelude.{◌≡◌, ◌==◌, Result, Ok, Err}
use Rattle.std.specs.FinMap.{len}
use Rattle.ov_stored.specs.Changing.{applied}
use Rattle.ov_integrity.specs.declared.finished.Finished.{Finished}
use Rattle.ov_integrity.specs.declared.finished.Finished.TheVariants.{Changed, Refused, NoMemory}
use Rattle.ov_specs.specs.operations.Errors.{OpError}
use Rattle.ov_specs.specs.rows.Database.{Database, same_database}
use Rattle.ov_projection.specs.Errors.{error_view}

-- The changes that lead from the rows before to what is committed, empty exactly if both are the same; or the error of the
-- commit. "Out of memory" may answer anything.
abbrev pub IsFinished : Result Database OpError → Database → Finished → Type 0
IsFinished committed before (Changed delta) =
    (committed ≡ Ok (applied delta before)) × ((len delta == 0) ≡ same_database before (applied delta before))
IsFinished committed before (Refused error) = committed ≡ Err (error_view error)
IsFinished committed before NoMemory = Unit {0}
