-- Which columns may be given, by the kind of row.
use Rattle.std.specs.Prelude.{ℕ, List, Bool}
use Rattle.ov_specs.specs.operations.GivenRow.{may_be_new, may_be_changed}
use Rattle.ov_specs.specs.schema.SchemaTypes.{Column}
use Rattle.ov_given.specs.declared.row_values.GivenRow.{GivenRow}
use Rattle.ov_given.specs.declared.row_values.GivenRow.TheVariants.{New, Changed}

-- a new row, or one that exists (RFC 7047, 5.2.1 and 5.2.3)
abbrev pub may_be : GivenRow → List ℕ → Column → Bool
may_be New = may_be_new
may_be Changed = may_be_changed
