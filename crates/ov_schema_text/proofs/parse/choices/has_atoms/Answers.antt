use Rattle.std.proofs.Common.{not, sym, ap}
use Rattle.ov_schema_text.proofs.ChoiceLemmas.{no_keys-atoms_in}
use Rattle.ov_schema_text.proofs.parse.choices.has_atoms.Goals as goal

pub returns-in-None : goal.returns-in-None
returns-in-None c = sym (ap not (no_keys-atoms_in c.args.set.now c.in-None.ensures))
