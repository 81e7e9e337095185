use Rattle.std.proofs.Common.{rules}
use Rattle.ov_schema.proofs.PartLemmas.{part_length-fits}
use Rattle.ov_schema.proofs.newer.first_part.Goals as goal

pub slice_bounds-result-end : goal.slice_bounds-result-end
slice_bounds-result-end c = search (rules, part_length-fits)
