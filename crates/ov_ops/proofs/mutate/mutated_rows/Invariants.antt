use Rattle.std.proofs.Common.{◌≡◌, drop, map}
use Rattle.ov_specs.specs.operations.Mutate as spec
use Rattle.ov_rows.specs.Lending.{lent_row_of}
use Rattle.ov_specs.proofs.laws.Results.{after_these}
use Rattle.ov_ops.proofs.mutate.mutated_rows.Given as goal

abbrev pub invariant-loop-row : goal.invariant-loop-row
invariant-loop-row l =
    spec.mutated_rows l.mutations (map (lent_row_of l.table) l.row-items)
    ≡ after_these l.changed.items (spec.mutated_rows l.mutations (map (lent_row_of l.table) (drop l.row-index l.row-items)))
