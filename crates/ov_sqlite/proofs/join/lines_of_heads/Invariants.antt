use Rattle.std.proofs.Common.{◌≡◌, take, map, []}
use Rattle.ov_sqlite.specs.Joining.{line_parts, head_parts}
use Rattle.ov_sqlite.proofs.join.lines_of_heads.Given as goal

abbrev pub invariant-loop-head : goal.invariant-loop-head
invariant-loop-head l = map line_parts l.lines.items ≡ map (head_parts []) (take l.head-index l.heads)
