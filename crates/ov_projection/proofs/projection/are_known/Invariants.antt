use Rattle.std.proofs.Common.{◌≡◌, drop}
use Rattle.std.specs.FinMap.{contains_key}
use Rattle.std.specs.List.{list_all}
use Rattle.ov_projection.proofs.projection.are_known.Given as goal

abbrev pub invariant-loop-name : goal.invariant-loop-name
invariant-loop-name l = list_all (contains_key l.table.columns) l.names ≡ list_all (contains_key l.table.columns) (drop l.name-index l.names)
