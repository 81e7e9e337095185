use Rattle.std.proofs.Common.{◌≡◌, drop}
use Rattle.std.specs.List.{list_all}
use Rattle.ov_specs.specs.schema.Fitting.{atom_fits}
use Rattle.ov_atoms.specs.Views.{atoms_view}
use Rattle.ov_schema.proofs.column_type.ColumnType.atoms_fit.Given as goal

abbrev pub invariant-loop-atom : goal.invariant-loop-atom
invariant-loop-atom l = list_all (atom_fits l.self.key) (atoms_view l.atoms) ≡ list_all (atom_fits l.self.key) (atoms_view (drop l.atom-index l.atoms))
