use Rattle.std.proofs.Common.{sym, ap, ◌∙◌}
use Rattle.std.specs.FinMap.{entries}
use Rattle.ov_index.specs.Nested.{TableIndexes}
use Rattle.ov_index.proofs.IdMaps.{entries_whole}
use Rattle.ov_index.proofs.IndexMaps.{by_numbers}
use Rattle.ov_index.proofs.table_indexes.TableIndexes.map.Goals as goal

pub returns : goal.returns
returns c = sym (entries_whole by_numbers c.self.inside.indexes.entries c.self.invariant) ∙ ap (λ (table : TableIndexes). entries table) c.self.view_is
