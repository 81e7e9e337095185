use denote.Param.Send.{sendable}
use Rattle.ov_threads.proofs.Crossing.{WriteDone-send}
use Rattle.ov_threads.proofs.writing.start_writer.Goals as goal

pub spawn_with-requires-send-T : goal.spawn_with-requires-send-T
spawn_with-requires-send-T g c = λ κs h.
    let w = c.type_bounds.send-W in
    search (sendable, WriteDone-send) depth 10
