use Rattle.ov_live.proofs.Preparings.{all_prepared}
use Rattle.ov_live.proofs.replying.ReplyingReady.ready.Goals as goal

pub returns-then-prepare_updates : goal.returns-then-prepare_updates
returns-then-prepare_updates g c =
    all_prepared c.args.self.now c.prepare_updates.new.self c.prepare.new.self c.in-Ok.frames c.args.db.now c.args.delta.now c.args.replies c.in-Ok.ensures c.prepare.result c.if-prepare_updates.ensures c.prepare.ensures
