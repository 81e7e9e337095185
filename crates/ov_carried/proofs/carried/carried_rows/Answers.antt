use Rattle.std.proofs.Common.{◌∙◌}
use Rattle.ov_carried.specs.Carrying.{carried_of}
use Rattle.ov_carried.proofs.Made.{with_made, carried-made}
use Rattle.ov_carried.proofs.carried.carried_rows.Goals as goal

pub loop-key-init : goal.loop-key-init
loop-key-init c =
    let old = c.args.old.now in
    let new = c.args.new.now in
    let before = c.args.before.now in
    (λ i. with_made (carried_of old new c.args.version before) ((c.into_iter-key-iterator.ensures.into_iter_gives.0 ∙ c.in_ok-key-items.ensures) i) (c.new-rows.ensures i))
    ∙ carried-made old new c.args.version before
