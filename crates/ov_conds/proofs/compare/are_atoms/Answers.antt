use Rattle.std.proofs.Common.{◌∙◌}
use Rattle.ov_atoms.specs.Views.{atom_view}
use Rattle.ov_specs.specs.rows.Database.{same_atom}
use Rattle.ov_conds.proofs.Seen.{pointwise-map}
use Rattle.ov_conds.proofs.compare.are_atoms.Goals as goal

pub returns : goal.returns
returns c = c.eq.ensures ∙ pointwise-map same_atom atom_view c.args.first.now c.args.second.now
