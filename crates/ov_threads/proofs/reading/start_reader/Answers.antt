use denote.Param.Send.{sendable}
use Rattle.std.proofs.Crossing.{crosses}
use Rattle.ov_order.proofs.order.Order.TheSendSync as order
use Rattle.rtrb.proofs.consumer.Consumer.TheSendSync as consumer
use Rattle.ov_workers.proofs.common.Common.TheSendSync as common
use Rattle.ov_workers.proofs.Crossing.{Inlet-field-send}
use Rattle.ov_threads.proofs.Crossing.{ReadDone-send}
use Rattle.ov_threads.proofs.reading.start_reader.Goals as goal

pub spawn_with-requires-send-F : goal.spawn_with-requires-send-F
spawn_with-requires-send-F g c = λ κs h.
    let s = c.type_bounds.send-S in
    let l = c.type_bounds.send-L in
    let l-sync = c.type_bounds.sync-L in
    let r-sync = c.type_bounds.sync-R in
    let g-sync = c.type_bounds.sync-G in
    search (sendable, crosses, Inlet-field-send, order.the_sync, consumer.the_field_send, common.the_send, common.the_field_send) depth 40

pub spawn_with-requires-send-T : goal.spawn_with-requires-send-T
spawn_with-requires-send-T g c = λ κs h.
    let s = c.type_bounds.send-S in
    let l = c.type_bounds.send-L in
    search (sendable, ReadDone-send) depth 10
