use Rattle.std.proofs.Common.{◌≡◌, ◌++◌, drop}
use Rattle.ov_index.specs.IndexKeys.{values_in}
use Rattle.ov_index.proofs.key.values_in.Given as goal

abbrev pub invariant-loop-name : goal.invariant-loop-name
invariant-loop-name l = l.values.items ++ values_in (drop l.name-index l.index) l.columns ≡ values_in l.index l.columns
