use Rattle.std.proofs.Common.{rules}
use Rattle.ov_keeper.specs.Views.{cell_line_entry}
use Rattle.ov_specs.proofs.laws.LineKeys.{test_tied}
use Rattle.ov_keeper.proofs.cell_line.CellLine.is_at.Goals as goal

pub returns-then-eq : goal.returns-then-eq
returns-then-eq c = test_tied _ (cell_line_entry c.args.self.now).0 (c.args.table.now, c.args.id) (search rules)

pub returns-else-eq : goal.returns-else-eq
returns-else-eq c = test_tied _ (cell_line_entry c.args.self.now).0 (c.args.table.now, c.args.id) (search rules)
