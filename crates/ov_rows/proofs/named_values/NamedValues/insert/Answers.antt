use Rattle.std.proofs.Common.{ap, ◌∙◌, string_bytes}
use Rattle.std.specs.FinMap.{insert}
use Rattle.ov_specs.specs.rows.Database.{Columns}
use Rattle.ov_rows.proofs.Names.{names-ascend, columns_of-insert}
use Rattle.ov_rows.proofs.named_values.NamedValues.insert.Goals as goal

pub invariant_of-self-2 : goal.invariant_of-self-2
invariant_of-self-2 c = names-ascend c.insert.new.self.entries c.in_ok-insert.ensures.ordered

pub returns-clause-ok : goal.returns-clause-ok
returns-clause-ok c =
    columns_of-insert c.self.inside.values.entries c.insert.new.self.entries c.args.name c.args.datum c.self.invariant (names-ascend c.insert.new.self.entries c.in_ok-insert.ensures.ordered) c.in_ok-insert.ensures.entries
    ∙ ap (λ (columns : Columns). insert columns (string_bytes c.args.name) c.args.datum) c.self.view_is
