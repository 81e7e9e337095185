use Rattle.std.proofs.Common.{◌≡◌, ◌++◌, take}
use Rattle.ov_specs.specs.machine.History.{joined}
use Rattle.ov_outbox.proofs.frames.append.Given as goal

abbrev pub invariant-loop-frame : goal.invariant-loop-frame
invariant-loop-frame l = l.out.items ≡ l.initial.out.items ++ joined (take l.frame-index l.frames)
