use Rattle.std.proofs.Common.{◌≡◌, ◌++◌, map}
use Rattle.ov_rows.specs.Lending.{lent_row}
use Rattle.ov_stage.proofs.merge.listed.Given as goal

abbrev pub invariant-loop-id : goal.invariant-loop-id
invariant-loop-id l = map lent_row l.rows.items ++ l.id-iterator ≡ l.initial.id-iterator
