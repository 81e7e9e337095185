use Rattle.std.proofs.Common.{sym, ◌∙◌}
use Rattle.std.specs.FinMap.{entries}
use Rattle.ov_index.proofs.RowEntries.{no_rows}
use Rattle.ov_index.proofs.indexes.Indexes.add_table.Goals as goal

pub returns-else-has_indexes : goal.returns-else-has_indexes
returns-else-has_indexes c = sym (no_rows c.args.schema.now c.args.name.now (entries c.args.rows.now) c.args.self.now (sym c.has_indexes.ensures ∙ c.if-has_indexes.false))
