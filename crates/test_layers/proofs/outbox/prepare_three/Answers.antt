use Rattle.std.proofs.Common.{ap, arith}
use Rattle.ov_outbox.specs.Frames.{count_for, places_for}
use Rattle.test_layers.proofs.outbox.prepare_three.Goals as goal

pub returns : goal.returns
returns c other =
    let none = ap (count_for other) c.new-prepared.ensures in
    let first = c.prepare.ensures other (places_for other c.args.queues.now) (omega arith) in
    let second = c.prepare-2.ensures other (places_for other c.args.queues.now) first in
    let third = c.prepare-3.ensures other (places_for other c.args.queues.now) second in
    omega arith
