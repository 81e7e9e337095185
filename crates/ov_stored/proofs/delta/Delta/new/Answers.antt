use Rattle.std.proofs.Common.{ap, ◌∙◌}
use Rattle.ov_specs.specs.rows.Lines.{line_cmp}
use Rattle.ov_stored.specs.DeltaModel.{delta_of}
use Rattle.ov_rows.proofs.Maps.{from_sorted-nil}
use Rattle.ov_stored.proofs.delta.Delta.new.Goals as goal

pub returns : goal.returns
returns c = ap delta_of c.new.ensures.empty ∙ from_sorted-nil line_cmp
