use Rattle.std.proofs.Common.{ap, ◌∙◌}
use Rattle.ov_rows.proofs.Maps.{from_sorted-nil}
use Rattle.ov_index.specs.IndexKeys.{values_cmp}
use Rattle.ov_index.specs.Indexing.{with_id}
use Rattle.ov_index.specs.Nested.{IdsByValues, by_values}
use Rattle.ov_index.proofs.ids_by_values.IdsByValues.of.Goals as goal

pub returns : goal.returns
returns c =
    c.in_ok-add.ensures.ok ∙ ap (λ (all : IdsByValues). with_id c.args.values.items c.args.id all) (ap by_values c.new.ensures.empty ∙ from_sorted-nil values_cmp)
