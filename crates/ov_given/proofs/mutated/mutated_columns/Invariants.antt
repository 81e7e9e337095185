use Rattle.std.proofs.Common.{◌≡◌, drop}
use Rattle.ov_specs.specs.operations.Mutate as mutate
use Rattle.ov_given.proofs.mutated.mutated_columns.Given as goal

abbrev pub invariant-loop-mutation : goal.invariant-loop-mutation
invariant-loop-mutation l = mutate.mutated_columns l.mutations l.columns ≡ mutate.mutated_columns (drop l.mutation-index l.mutations) l.mutated
