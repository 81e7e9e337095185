use Rattle.std.proofs.Common.{◌≡◌, ◌&&◌, drop}
use Rattle.std.specs.FinMap.{get}
use Rattle.std.specs.List.{list_any}
use Rattle.ov_specs.specs.conversion.Converted.{gets_unfit_default, has_row, lacks_default}
use Rattle.ov_specs.specs.rows.RowNames.{row_columns}
use Rattle.ov_specs.specs.schema.Schema.{is_some_and}
use Rattle.ov_conversion.proofs.defaults.gets_unfit_default.Given as goal

abbrev pub invariant-loop-name : goal.invariant-loop-name
invariant-loop-name l =
    gets_unfit_default l.old l.new l.rows
    ≡ list_any (λ t. is_some_and (λ table. has_row l.rows t.0 && is_some_and (λ former. list_any (lacks_default former) (row_columns table)) (get l.old.tables t.0)) (get l.new.tables t.0))
    (drop l.name-index l.name-items)
