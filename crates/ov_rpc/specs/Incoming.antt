-- Which message is taken in, with the reply to an echo already written.
use Rattle.std.specs.Prelude.{◌≡◌, Bool, false, codes}
use Rattle.std.specs.Str.{bytes_eq}
use Rattle.serde_json.specs.Data.{Data, array, Items}
use Rattle.ov_specs.specs.wire.Frame.{frame, reply_tree}
use Rattle.ov_specs.specs.wire.Message.{Message, Call, Notification, Answer, Bad}
use Rattle.ov_rpc.specs.Message.{message_view}
use Rattle.ov_rpc.specs.declared.incoming.Incoming as code
use Rattle.ov_rpc.specs.declared.incoming.Incoming.TheVariants as kinds

-- a call of "echo" (RFC 7047, 4.1.11)
abbrev pub is_echo : Message → Bool
is_echo (Call id method params) = bytes_eq method (codes "echo")
is_echo (Notification method params) = false
is_echo Answer = false
is_echo (Bad id kind) = false

-- The bytes of the reply to an echo, whose result is the params of the call; or the message itself, which is no echo.
abbrev pub StandsFor : code.Incoming → Message → Type 0
StandsFor (kinds.Echo reply) message =
    (id : Data) × (params : Items) × (message ≡ Call id (codes "echo") params) × (reply ≡ frame (reply_tree id (array params)))
StandsFor (kinds.Message kept) message = (message_view kept ≡ message) × (is_echo message ≡ false)
