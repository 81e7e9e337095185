use Rattle.std.proofs.Common.{ap, ◌∙◌}
use Rattle.std.specs.FinMap.{insert}
use Rattle.ov_rows.specs.Nested.{id_cmp, TableRows}
use Rattle.ov_rows.specs.Resident.{table_rows_of}
use Rattle.ov_rows.proofs.Maps.{from_sorted-nil}
use Rattle.ov_rows.proofs.table_rows.TableRows.of_row.Goals as goal

pub returns : goal.returns
returns c =
    c.in_ok-insert.ensures.ok
    ∙ ap (λ (table : TableRows). insert table c.args.id c.args.row) (ap table_rows_of c.new.ensures.empty ∙ from_sorted-nil id_cmp)
