use Rattle.std.proofs.Common.{ap, ◌∙◌}
use Rattle.ov_rows.proofs.Maps.{from_sorted-nil}
use Rattle.ov_index.specs.IndexKeys.{numbered_cmp}
use Rattle.ov_index.specs.Indexing.{with_id}
use Rattle.ov_index.specs.Nested.{TableIndexes, by_number, numbered}
use Rattle.ov_index.proofs.table_indexes.TableIndexes.of.Goals as goal

pub returns : goal.returns
returns c =
    c.in_ok-add.ensures.ok
    ∙ ap (λ (table : TableIndexes). with_id (numbered c.args.number c.args.values.items) c.args.id table) (ap by_number c.new.ensures.empty ∙ from_sorted-nil numbered_cmp)
