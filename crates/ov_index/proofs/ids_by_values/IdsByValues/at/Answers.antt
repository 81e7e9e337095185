use Rattle.std.proofs.Common.{sym, ap, ◌∙◌}
use Rattle.std.specs.FinMap.{get}
use Rattle.ov_index.specs.IndexKeys.{values_cmp}
use Rattle.ov_index.specs.Nested.{IdsByValues}
use Rattle.ov_index.proofs.IndexMaps.{items_of}
use Rattle.ov_index.proofs.SeenKeys.{get_seen}
use Rattle.ov_index.proofs.ids_by_values.IdsByValues.at.Goals as goal

pub returns : goal.returns
returns c =
    c.get.ensures.value ∙ sym (get_seen items_of values_cmp c.self.inside.ids.entries c.args.values.now c.self.invariant)
    ∙ ap (λ (all : IdsByValues). get all c.args.values.now) c.self.view_is
