use Rattle.std.proofs.Common.{◌≡◌, ◌&&◌, drop}
use Rattle.std.specs.List.{list_all}
use Rattle.ov_specs.specs.schema.Fitting.{atom_fits, value_fits}
use Rattle.ov_atoms.specs.Views.{pairs_view}
use Rattle.ov_schema.proofs.column_type.ColumnType.pairs_fit.Given as goal

abbrev pub invariant-loop-key : goal.invariant-loop-key
invariant-loop-key l =
    list_all (λ p. atom_fits l.self.key p.0 && value_fits l.self.value p.1) (pairs_view l.pairs)
    ≡ list_all (λ p. atom_fits l.self.key p.0 && value_fits l.self.value p.1) (pairs_view (drop l.key-index l.pairs))
