use Rattle.ov_rows.proofs.Maps.{ascends}
use Rattle.ov_specs.specs.rows.Lines.{line_cmp}
use Rattle.ov_index.proofs.alike.indexes_of.Goals as goal

pub returns-clause-ascend : goal.returns-clause-ascend
returns-clause-ascend c = ascends line_cmp c.args.changes.now.entries c.into_iter-key-iterator.ensures.into_iter_gives.5
