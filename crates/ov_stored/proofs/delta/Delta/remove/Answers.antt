use Rattle.std.proofs.Common.{ap, ◌∙◌}
use Rattle.std.specs.FinMap.{remove}
use Rattle.ov_specs.specs.rows.Lines.{line_cmp}
use Rattle.ov_specs.proofs.laws.LineKeys.{key_exact, key_total}
use Rattle.ov_stored.specs.Changing.{Delta}
use Rattle.ov_rows.proofs.Maps.{ascends, from_sorted-remove}
use Rattle.ov_stored.proofs.delta.Delta.remove.Goals as goal

pub invariant_of-self : goal.invariant_of-self
invariant_of-self c = ascends line_cmp c.remove.new.self.entries c.remove.ensures.ordered

pub returns : goal.returns
returns c =
    from_sorted-remove line_cmp key_total key_exact c.self.inside.changes.entries c.remove.new.self.entries c.args.key.now c.self.invariant (ascends line_cmp c.remove.new.self.entries c.remove.ensures.ordered) c.remove.ensures.updates.0
    ∙ ap (λ (delta : Delta). remove delta c.args.key.now) c.self.view_is
