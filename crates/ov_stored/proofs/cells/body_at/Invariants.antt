use Rattle.std.proofs.Common.{◌≡◌, drop, map}
use Rattle.std.specs.FinMap.{find}
use Rattle.ov_specs.specs.schema.SchemaTypes.{name_cmp}
use Rattle.ov_keeper.specs.Views.{cell_entry}
use Rattle.ov_stored.proofs.cells.body_at.Given as goal

abbrev pub invariant-loop-cell : goal.invariant-loop-cell
invariant-loop-cell l = find name_cmp l.column (map cell_entry l.cells) ≡ find name_cmp l.column (map cell_entry (drop l.cell-index l.cells))
