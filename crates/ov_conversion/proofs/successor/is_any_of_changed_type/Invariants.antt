use Rattle.std.proofs.Common.{◌≡◌, drop}
use Rattle.std.specs.List.{list_any}
use Rattle.ov_specs.specs.conversion.Converted.{is_of_changed_type}
use Rattle.ov_specs.specs.rows.RowNames.{without_own_columns}
use Rattle.ov_conversion.proofs.successor.is_any_of_changed_type.Given as goal

abbrev pub invariant-loop-name : goal.invariant-loop-name
invariant-loop-name l =
    list_any (is_of_changed_type l.old) (without_own_columns l.columns)
    ≡ list_any (is_of_changed_type l.old) (without_own_columns (drop l.name-index l.columns))
