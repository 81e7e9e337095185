-- The message that a text is, for texts that are one.
use Rattle.std.specs.Prelude.{ℕ, List, unwrap_or}
use Rattle.ov_specs.specs.wire.Message.{Message, Answer, message_in}

-- the message of a text; one that gets no answer if the text is not a message
abbrev pub message_of_text : List ℕ → Message
message_of_text text = unwrap_or (message_in text) Answer
