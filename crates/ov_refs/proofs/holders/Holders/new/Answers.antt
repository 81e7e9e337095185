use Rattle.std.proofs.Common.{ap, ◌∙◌}
use Rattle.ov_specs.specs.rows.Lines.{line_cmp}
use Rattle.ov_rows.specs.Resident.{nested_of}
use Rattle.ov_rows.proofs.Maps.{from_sorted-nil}
use Rattle.ov_refs.proofs.holders.Holders.new.Goals as goal

pub returns : goal.returns
returns c = ap nested_of c.new.ensures.empty ∙ from_sorted-nil line_cmp
