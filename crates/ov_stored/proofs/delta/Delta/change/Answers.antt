use Rattle.std.proofs.Common.{sym, ap, ◌∙◌}
use Rattle.std.specs.FinMap.{get}
use Rattle.ov_specs.specs.rows.Lines.{line_cmp}
use Rattle.ov_stored.specs.Changing.{Delta}
use Rattle.ov_rows.proofs.Maps.{get-lookup}
use Rattle.ov_stored.proofs.delta.Delta.change.Goals as goal

pub returns : goal.returns
returns c =
    c.get.ensures.value ∙ sym (get-lookup line_cmp c.self.inside.changes.entries c.args.key.now c.self.invariant)
    ∙ ap (λ (delta : Delta). get delta c.args.key.now) c.self.view_is
