use Rattle.std.proofs.Common.{◌≡◌, take}
use Rattle.std.specs.List.{filter_map}
use Rattle.ov_specs.specs.machine.Machine.{least, timeout_of}
use Rattle.ov_requests.specs.Waiting.{earlier}
use Rattle.ov_requests.proofs.waiting.due_among.Given as goal

abbrev pub invariant-loop-one : goal.invariant-loop-one
invariant-loop-one l = l.due ≡ earlier l.fn.due (least (filter_map timeout_of (take l.one-index l.these)))
