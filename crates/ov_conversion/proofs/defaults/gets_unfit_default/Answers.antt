use Rattle.std.proofs.Common.{◌&&◌, sym}
use Rattle.std.specs.FinMap.{get}
use Rattle.std.specs.List.{list_any}
use Rattle.ov_specs.specs.conversion.Converted.{has_row, lacks_default}
use Rattle.ov_specs.specs.rows.RowNames.{row_columns}
use Rattle.ov_specs.specs.schema.Schema.{is_some_and}
use Rattle.ov_index.proofs.MapEntries.{tables_by_name}
use Rattle.ov_conversion.proofs.defaults.gets_unfit_default.Goals as goal

pub loop-name-init : goal.loop-name-init
loop-name-init c =
    sym (tables_by_name (λ name table. has_row c.args.rows.now name && is_some_and (λ former. list_any (lacks_default former) (row_columns table)) (get c.args.old.now.tables name)) c.tables-name-items.result.now
    c.args.new.now.tables c.tables-name-items.ensures)
