use Rattle.std.proofs.Common.{◌≡◌, drop}
use Rattle.std.specs.List.{list_any}
use Rattle.ov_specs.specs.conversion.Converted.{lacks_default}
use Rattle.ov_specs.specs.rows.RowNames.{without_own_columns}
use Rattle.ov_conversion.proofs.defaults.is_any_unfit.Given as goal

abbrev pub invariant-loop-name : goal.invariant-loop-name
invariant-loop-name l =
    list_any (lacks_default l.old) (without_own_columns l.columns)
    ≡ list_any (lacks_default l.old) (without_own_columns (drop l.name-index l.columns))
