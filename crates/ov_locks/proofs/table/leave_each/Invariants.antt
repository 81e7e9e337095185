use Rattle.std.proofs.Common.{map, string_bytes}
use Rattle.ov_locks.proofs.Tables.{IsLeft}
use Rattle.ov_locks.proofs.table.leave_each.Given as goal

abbrev pub invariant-loop-name : goal.invariant-loop-name
invariant-loop-name l =
    IsLeft l.session
    (record { names = map string_bytes l.initial.name-iterator; queues = l.fn.queues; freeing = l.fn.freed })
    (record { names = map string_bytes l.name-iterator; queues = l.queues; freeing = l.freed })
