use Rattle.std.proofs.Common.{◌≡◌, ◌++◌, [], drop}
use Rattle.ov_rows.specs.Lending.{lent_row_of}
use Rattle.ov_rows.specs.Named.{named}
use Rattle.ov_specs.specs.operations.Select.{projection}
use Rattle.ov_projection.proofs.shown.ShownRow.of.Given as goal

abbrev pub invariant-loop-name : goal.invariant-loop-name
invariant-loop-name l = projection l.names (lent_row_of [] l.row) ≡ named l.columns.items ++ projection (drop l.name-index l.names) (lent_row_of [] l.row)
