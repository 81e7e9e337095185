-- The operators, mutators and changes of the code, as those of the definitions.
use Rattle.ov_specs.specs.operations.Mutators as mutators
use Rattle.ov_mutate.specs.declared.mutator.Operator.{Operator}
use Rattle.ov_mutate.specs.declared.mutator.Operator.TheVariants as operator
use Rattle.ov_mutate.specs.declared.mutator.Mutator.{Mutator}
use Rattle.ov_mutate.specs.declared.mutator.Mutator.TheVariants.{Computes, Inserts, Deletes}
use Rattle.ov_mutate.specs.declared.change.ValueChange.{ValueChange}
use Rattle.ov_mutate.specs.declared.change.ValueChange.TheVariants.{Compute, Insert, Delete}

-- an operator
abbrev pub operator_view : Operator → mutators.Operator
operator_view operator.Plus = mutators.Plus
operator_view operator.Minus = mutators.Minus
operator_view operator.Times = mutators.Times
operator_view operator.Over = mutators.Over
operator_view operator.Modulo = mutators.Modulo

-- a mutator
abbrev pub mutator_view : Mutator → mutators.Mutator
mutator_view (Computes operator) = mutators.Computes (operator_view operator)
mutator_view Inserts = mutators.Inserts
mutator_view Deletes = mutators.Deletes

-- what is done
abbrev pub value_change_view : ValueChange → mutators.Change
value_change_view (Compute operator by) = mutators.Compute (operator_view operator) by
value_change_view (Insert elements) = mutators.Insert elements
value_change_view (Delete elements) = mutators.Delete elements
