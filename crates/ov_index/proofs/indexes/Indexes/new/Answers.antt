use Rattle.std.proofs.Common.{ap, ◌∙◌}
use Rattle.ov_rows.proofs.Maps.{from_sorted-nil}
use Rattle.ov_index.specs.IndexKeys.{index_cmp}
use Rattle.ov_index.specs.Nested.{by_table}
use Rattle.ov_index.proofs.indexes.Indexes.new.Goals as goal

pub returns : goal.returns
returns c = ap by_table c.new.ensures.empty ∙ from_sorted-nil index_cmp
