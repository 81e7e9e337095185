use Rattle.std.proofs.Common.{rules, ◌++◌, ◌∷◌, []}
use Rattle.rtrb.specs.Ring.{received}
use Rattle.ov_workers.proofs.Frames.{frames_push}
use Rattle.ov_workers.proofs.writer.drop_frames.Goals as goal

pub loop-preserved : goal.loop-preserved
loop-preserved g c =
    let was = c.loop.invariant in
    (search rules, (was.1.0 ++ c.in-Frame._frame ∷ [], frames_push (received c.args.ring.now) (received c.loop.ring) (received c.wait_item.new.ring) was.1.0 c.in-Frame._frame was.1.1 c.in-Frame.ensures.taken))
