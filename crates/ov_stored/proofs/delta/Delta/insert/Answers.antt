use Rattle.std.proofs.Common.{ap, ◌∙◌}
use Rattle.std.specs.FinMap.{insert}
use Rattle.ov_specs.specs.rows.Lines.{line_cmp}
use Rattle.ov_specs.proofs.laws.LineKeys.{key_total}
use Rattle.ov_stored.specs.Changing.{Delta}
use Rattle.ov_rows.proofs.Maps.{ascends, from_sorted-insert}
use Rattle.ov_stored.proofs.delta.Delta.insert.Goals as goal

pub invariant_of-self-2 : goal.invariant_of-self-2
invariant_of-self-2 c = ascends line_cmp c.insert.new.self.entries c.in_ok-insert.ensures.ordered

pub returns-clause-ok : goal.returns-clause-ok
returns-clause-ok c =
    from_sorted-insert line_cmp key_total c.self.inside.changes.entries c.insert.new.self.entries c.args.key c.args.row c.self.invariant (ascends line_cmp c.insert.new.self.entries c.in_ok-insert.ensures.ordered) c.in_ok-insert.ensures.entries
    ∙ ap (λ (delta : Delta). insert delta c.args.key c.args.row) c.self.view_is
