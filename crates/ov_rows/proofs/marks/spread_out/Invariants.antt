use Rattle.std.proofs.Common.{◌≡◌, ◌++◌, drop, reverse}
use Rattle.ov_rows.specs.Spread.{spread}
use Rattle.ov_rows.proofs.marks.spread_out.Given as goal

abbrev pub invariant-loop-default : goal.invariant-loop-default
invariant-loop-default l = l.values.items ++ spread l.left (drop l.default-index l.defaults) (reverse l.rest.items) ≡ spread l.fn.marks l.fn.defaults l.fn.own.items
