-- The messages of the code as those of the definitions.
use Rattle.ov_specs.specs.wire.Message as rpc
use Rattle.ov_rpc.specs.declared.message.BadKind.{BadKind}
use Rattle.ov_rpc.specs.declared.message.BadKind.TheVariants.{Syntax, Reals}
use Rattle.ov_rpc.specs.declared.message.Message.{Message}
use Rattle.ov_rpc.specs.declared.message.Message.TheVariants.{Call, Notification, Answer, Bad}

-- why a message is bad, as the definitions have it
abbrev pub bad_kind_view : BadKind → rpc.BadKind
bad_kind_view Syntax = rpc.NotARequest
bad_kind_view Reals = rpc.Reals

-- a message of the code as that of the definitions
abbrev pub message_view : Message → rpc.Message
message_view (Call id method params) = rpc.Call id method params
message_view (Notification method params) = rpc.Notification method params
message_view Answer = rpc.Answer
message_view (Bad id kind) = rpc.Bad id (bad_kind_view kind)
