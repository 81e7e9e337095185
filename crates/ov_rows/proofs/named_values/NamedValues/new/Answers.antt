use Rattle.std.proofs.Common.{ap, ◌∙◌}
use Rattle.ov_specs.specs.schema.SchemaTypes.{name_cmp}
use Rattle.ov_rows.specs.Named.{columns_of}
use Rattle.ov_rows.proofs.Maps.{from_sorted-nil}
use Rattle.ov_rows.proofs.named_values.NamedValues.new.Goals as goal

pub returns : goal.returns
returns c = ap columns_of c.new.ensures.empty ∙ from_sorted-nil name_cmp
