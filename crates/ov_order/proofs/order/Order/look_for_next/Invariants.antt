use Rattle.std.proofs.Common.{◌≡◌}
use Rattle.ov_order.proofs.order.Order.look_for_next.Given as goal

-- Until a note is there, nothing was taken.
abbrev pub invariant-loop : goal.invariant-loop
invariant-loop g l = l.taken.serials ≡ l.initial.taken.serials
