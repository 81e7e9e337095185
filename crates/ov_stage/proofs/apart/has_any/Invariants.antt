use Rattle.std.proofs.Common.{◌≡◌, drop}
use Rattle.std.specs.List.{list_any}
use Rattle.ov_schema.specs.Built.{indexes_in}
use Rattle.ov_stage.specs.Apart.{has_index}
use Rattle.ov_stage.proofs.apart.has_any.Given as goal

abbrev pub invariant-loop-index : goal.invariant-loop-index
invariant-loop-index l = list_any (has_index l.names) (indexes_in l.index-items) ≡ list_any (has_index l.names) (indexes_in (drop l.index-index l.index-items))
