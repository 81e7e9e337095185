-- What a worker's thread returns may go to another thread.
use denote.RattleType.{RattleType}
use denote.Struct.Declared.{shape}
use denote.Param.Send.{IsSend, struct_send, sendable}
use Rattle.std.proofs.Crossing.{crosses}
use Rattle.std.specs.declared.sync.ledger.Ledger.{Ghosts}
use Rattle.rtrb.proofs.consumer.Consumer.TheSendSync as consumer
use Rattle.ov_order.proofs.items.Sent.TheSendSync as sent
use Rattle.ov_workers.proofs.cause.ReadCause.TheSendSync as cause
use Rattle.ov_workers.proofs.Crossing.{Inlet-field-send}
use Rattle.ov_threads.specs.contracts.reading.ReadLeft as read_left
use Rattle.ov_threads.specs.contracts.reading.ReadDone as read_done
use Rattle.ov_threads.specs.contracts.writing.WriteLeft as write_left
use Rattle.ov_threads.specs.contracts.writing.WriteDone as write_done

module _ (S L : RattleType) (g : Ghosts L.Denot) (s : IsSend S) (l : IsSend L) where
  ReadLeft-field-send : IsSend (read_left.the_field S L g).row
  ReadLeft-field-send = struct_send (shape (read_left.the_type S L g)) (search (sendable, crosses) depth 10, (search (sendable, crosses) depth 10, (Inlet-field-send L g l, (cause.the_field_send, tt))))

  pub ReadDone-send : IsSend (read_done.the_row S L g)
  ReadDone-send = search (sendable, crosses, ReadLeft-field-send, consumer.the_field_send) depth 40

module _ (W : RattleType) (w : IsSend W) where
  WriteLeft-field-send : IsSend (write_left.the_field W).row
  WriteLeft-field-send = struct_send (shape (write_left.the_type W)) (search (sendable, crosses) depth 10, (search (sendable, crosses) depth 10, (search (sendable, crosses, sent.the_send, consumer.the_field_send) depth 40, (search (sendable, crosses) depth 10, tt))))

  pub WriteDone-send : IsSend (write_done.the_row W)
  WriteDone-send = search (sendable, crosses, WriteLeft-field-send, consumer.the_field_send) depth 40
