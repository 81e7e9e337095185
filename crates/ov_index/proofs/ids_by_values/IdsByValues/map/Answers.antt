use Rattle.std.proofs.Common.{sym, ap, ◌∙◌}
use Rattle.std.specs.FinMap.{entries}
use Rattle.ov_index.specs.IndexKeys.{values_cmp}
use Rattle.ov_index.specs.Nested.{IdsByValues}
use Rattle.ov_index.proofs.IndexMaps.{items_of}
use Rattle.ov_index.proofs.SeenKeys.{entries_seen}
use Rattle.ov_index.proofs.ids_by_values.IdsByValues.map.Goals as goal

pub returns : goal.returns
returns c = sym (entries_seen items_of values_cmp c.self.inside.ids.entries c.self.invariant) ∙ ap (λ (all : IdsByValues). entries all) c.self.view_is
