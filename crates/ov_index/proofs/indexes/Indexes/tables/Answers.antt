use Rattle.std.proofs.Common.{sym, ap, ◌∙◌}
use Rattle.std.specs.FinMap.{entries}
use Rattle.ov_index.specs.Indexing.{Indexes}
use Rattle.ov_index.proofs.IdMaps.{entries_whole}
use Rattle.ov_index.proofs.IndexMaps.{by_names}
use Rattle.ov_index.proofs.indexes.Indexes.tables.Goals as goal

pub returns : goal.returns
returns c = sym (entries_whole by_names c.self.inside.tables.entries c.self.invariant) ∙ ap (λ (indexes : Indexes). entries indexes) c.self.view_is
