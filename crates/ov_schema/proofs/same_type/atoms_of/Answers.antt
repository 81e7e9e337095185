use Rattle.ov_schema.proofs.FittingLemmas.{keys-no_atoms}
use Rattle.ov_schema.proofs.same_type.atoms_of.Goals as goal

pub returns-in-None : goal.returns-in-None
returns-in-None c = keys-no_atoms c.args.set.now c.in-None.ensures
