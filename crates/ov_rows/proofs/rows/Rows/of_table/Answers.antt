use Rattle.std.proofs.Common.{ap, ◌∙◌}
use Rattle.std.specs.FinMap.{entries}
use Rattle.std.specs.List.{filter}
use Rattle.std.specs.Str.{bytes_eq}
use Rattle.ov_specs.specs.rows.Database.{Database}
use Rattle.ov_rows.specs.Nested.{rows_in}
use Rattle.ov_rows.proofs.Nested.{filter-nested_of}
use Rattle.ov_rows.proofs.rows.Rows.of_table.Goals as goal

pub returns : goal.returns
returns c =
    ap (rows_in c.args.table.now) c.get.ensures.value ∙ filter-nested_of c.self.inside.tables.entries c.args.table.now c.self.invariant
    ∙ ap (λ (database : Database). filter (λ r. bytes_eq r.0.0 c.args.table.now) (entries database)) c.self.view_is
