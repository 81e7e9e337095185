use Rattle.std.proofs.Common.{◌≡◌, ◌++◌, drop}
use Rattle.ov_specs.specs.operations.Wait as wait
use Rattle.ov_rows.specs.Named.{named}
use Rattle.ov_given.proofs.told.told_projection.Given as goal

abbrev pub invariant-loop-name : goal.invariant-loop-name
invariant-loop-name l = wait.told_projection l.table l.compared l.told ≡ named l.columns.items ++ wait.told_projection l.table (drop l.name-index l.compared) l.told
