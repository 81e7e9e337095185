use Rattle.std.proofs.Common.{rules, ◌∙◌}
use Rattle.std.specs.Ordering.{eq_by_cmp}
use Rattle.ov_specs.specs.rows.Lines.{line_cmp}
use Rattle.ov_specs.proofs.laws.LineKeys.{test_tied}
use Rattle.ov_keeper.proofs.line_key.LineKeyPartialEq.eq.Goals as goal

pub returns-then-eq : goal.returns-then-eq
returns-then-eq c =
    test_tied _ (c.other.inside.table, c.other.inside.id) (c.self.inside.table, c.self.inside.id) (search rules)
    ∙ (λ i. eq_by_cmp line_cmp (c.self.view_is i) (c.other.view_is i))

pub returns-else-eq : goal.returns-else-eq
returns-else-eq c =
    test_tied _ (c.other.inside.table, c.other.inside.id) (c.self.inside.table, c.self.inside.id) (search rules)
    ∙ (λ i. eq_by_cmp line_cmp (c.self.view_is i) (c.other.view_is i))
