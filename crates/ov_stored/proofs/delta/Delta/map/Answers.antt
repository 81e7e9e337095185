use Rattle.std.proofs.Common.{sym, ap, ◌∙◌}
use Rattle.std.specs.FinMap.{entries, entries-from_sorted}
use Rattle.ov_specs.specs.rows.Lines.{line_cmp}
use Rattle.ov_stored.specs.Changing.{Delta}
use Rattle.ov_stored.proofs.delta.Delta.map.Goals as goal

pub returns : goal.returns
returns c = sym (entries-from_sorted line_cmp c.self.inside.changes.entries c.self.invariant) ∙ ap (λ (delta : Delta). entries delta) c.self.view_is
