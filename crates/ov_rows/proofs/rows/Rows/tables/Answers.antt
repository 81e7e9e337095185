use Rattle.std.proofs.Common.{sym, ap, ◌∙◌}
use Rattle.std.specs.FinMap.{entries}
use Rattle.ov_specs.specs.rows.Database.{Database}
use Rattle.ov_rows.proofs.Nested.{entries-nested_of}
use Rattle.ov_rows.proofs.rows.Rows.tables.Goals as goal

pub returns : goal.returns
returns c = sym (entries-nested_of c.self.inside.tables.entries c.self.invariant) ∙ ap (λ (database : Database). entries database) c.self.view_is
