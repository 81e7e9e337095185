use Rattle.std.proofs.Common.{sym, ◌∙◌}
use Rattle.std.specs.Cmp.Derive.Mapped.{pointwise-map}
use Rattle.std.specs.Ordering.{eq_by_cmp}
use Rattle.ov_atoms.specs.Views.{atom_view}
use Rattle.ov_specs.specs.values.Value.{atom_cmp}
use Rattle.ov_schema.proofs.same_type.are_same_atoms.Goals as goal

pub returns : goal.returns
returns c = c.eq.ensures ∙ sym (pointwise-map atom_view (eq_by_cmp atom_cmp) c.args.first.now c.args.second.now)
