-- The elements of a value in the code, as the lists of the definitions.
use Rattle.ov_atoms.specs.Views.{atoms_view, pairs_view}
use Rattle.ov_conds.specs.Compared as compared
use Rattle.ov_conds.specs.declared.elements.Elements.{Elements}
use Rattle.ov_conds.specs.declared.elements.Elements.TheVariants.{Atoms, Pairs}

-- the atoms, or the pairs
abbrev pub elements_view : Elements → compared.Elements
elements_view (Atoms atoms) = compared.Atoms (atoms_view atoms.now)
elements_view (Pairs pairs) = compared.Pairs (pairs_view pairs.now)
