-- A reader's side of its session may go to another thread.
use denote.RattleType.{RattleType}
use denote.Struct.Declared.{shape}
use denote.Param.Send.{IsSend, struct_send, sendable}
use Rattle.std.proofs.Crossing.{crosses}
use Rattle.std.proofs.MapsCrossing as maps
use Rattle.std.specs.declared.sync.ledger.Ledger.{Ghosts}
use Rattle.ov_base.proofs.bytes.Bytes.TheSendSync as bytes
use Rattle.ov_base.proofs.text.Text.TheSendSync as text
use Rattle.ov_order.proofs.items.Brought.TheSendSync as brought
use Rattle.ov_rpc.specs.contracts.incoming.Incoming as incoming
use Rattle.ov_rpc.specs.contracts.received.MessageText as message_text
use Rattle.ov_rpc.specs.contracts.received.Received as received
use Rattle.std.proofs.sync.ledger.Share.TheSendSync as share
use Rattle.std.specs.contracts.sync.ledger.Share as share_row
use Rattle.ov_order.specs.contracts.items.Brought as item
use Rattle.ov_workers.specs.contracts.cause.ReadCause as cause_row
use Rattle.rtrb.proofs.producer.Producer.TheSendSync as producer
use Rattle.serde_json.proofs.value.Value.TheLaws.TheKnot as knot
use Rattle.ov_base.specs.contracts.tree.Tree as tree
use Rattle.ov_base.specs.contracts.trees.Trees as trees
use Rattle.ov_rpc.specs.contracts.message.Message as message
use Rattle.ov_workers.proofs.cause.ReadCause.TheSendSync as cause
use Rattle.ov_order.proofs.noter.Noter.TheSendSync as noter
use Rattle.ov_workers.specs.contracts.inlet.Inlet as inlet_row

Tree-send : IsSend tree.the_row
Tree-send = search (sendable, crosses, maps.crosses, knot.send-Value) depth 40

Trees-send : IsSend trees.the_row
Trees-send = search (sendable, crosses, maps.crosses, knot.send-Value) depth 40

Message-send : IsSend message.the_field.row
Message-send = search (sendable, Tree-send, Trees-send, text.the_send) depth 40

Incoming-send : IsSend incoming.the_field.row
Incoming-send = search (sendable, Message-send, bytes.the_send) depth 40

MessageText-send : IsSend message_text.the_row
MessageText-send = search (sendable, bytes.the_send) depth 40

-- so may a message with its text
Received-send : IsSend received.the_row
Received-send = search (sendable, Incoming-send, MessageText-send) depth 40

module _ (T : RattleType) (g : Ghosts T.Denot) where
  Share-field-send : IsSend (share_row.the_field T g).row
  Share-field-send = search (sendable, share.the_send) depth 40

Item-send : IsSend (item.the_row received.the_row cause_row.the_row)
Item-send = search (sendable, Received-send, cause.the_send, brought.the_send) depth 40

module _ (L : RattleType) (g : Ghosts L.Denot) (l : IsSend L) where
  pub Inlet-field-send : IsSend (inlet_row.the_field L g).row
  Inlet-field-send = struct_send (shape (inlet_row.the_type L g)) (search (sendable, crosses, Item-send, producer.the_field_send) depth 40, (search (sendable, crosses, noter.the_field_send) depth 40, tt))
