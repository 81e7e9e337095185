use Rattle.std.proofs.Common.{◌≡◌, drop}
use Rattle.std.specs.List.{list_any}
use Rattle.std.specs.Ordering.{eq_by_cmp}
use Rattle.ov_specs.specs.values.Value.{atom_cmp}
use Rattle.ov_atoms.specs.Views.{atom_view, atoms_view}
use Rattle.ov_schema.proofs.base_type.has_atom.Given as goal

abbrev pub invariant-loop-other : goal.invariant-loop-other
invariant-loop-other l =
    list_any (eq_by_cmp atom_cmp (atom_view l.atom)) (atoms_view l.atoms) ≡ list_any (eq_by_cmp atom_cmp (atom_view l.atom)) (atoms_view (drop l.other-index l.atoms))
