use Rattle.std.proofs.Common.{sym, ◌∙◌}
use Rattle.ov_atoms.specs.Views.{atom_view, atoms_view}
use Rattle.ov_schema.proofs.FittingLemmas.{contains_key-atoms_in, contains_key-no_atoms}
use Rattle.ov_schema.proofs.base_type.is_in.Goals as goal

pub returns-in-Some : goal.returns-in-Some
returns-in-Some c = c.has_atom.ensures ∙ contains_key-atoms_in c.args.set.now (atom_view c.args.atom.now) (atoms_view c.in-Some.atoms.now) c.in-Some.ensures

pub returns-in-None : goal.returns-in-None
returns-in-None c = sym (contains_key-no_atoms c.args.set.now (atom_view c.args.atom.now) c.in-None.ensures)
