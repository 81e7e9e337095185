use Rattle.ov_laws.proofs.Mutating.{mutated_alone}
use Rattle.ov_laws.proofs.a_mutation_changes_its_column_alone.Goals as goal

pub returns : goal.returns
returns c table columns m = mutated_alone table columns m
