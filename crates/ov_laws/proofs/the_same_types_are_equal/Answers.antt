use Rattle.ov_laws.proofs.SameTypes.{of_types}
use Rattle.ov_laws.proofs.the_same_types_are_equal.Goals as goal

pub returns : goal.returns
returns c a b = of_types a b
