-- Worked messages, by computation. More examples are in the tests, in messages.rt.
use Rattle.std.proofs.Common.{◌≡◌, ◌∷◌, [], codes, Some, None, true, false, refl}
use Rattle.std.specs.Str.{is_utf8, chars}
use Rattle.serde_json.proofs.OnLiterals.{serde_json_on_literals}
use Rattle.serde_json.specs.Data.{number, unsigned, string, object, no_members, item, no_items}
use Rattle.ov_specs.specs.wire.Message.{message_in, Call, Notification, Answer, Bad, NotARequest, Reals, asked}
use Rattle.ov_specs.specs.wire.Cut.{cut}

-- ---- calls, notifications and answers

pub echo_keeps_quotes : message_in (codes "{\"id\":\"x\",\"method\":\"echo\",\"params\":[\"a\\\"}\",{}]}") ≡ Some (Call (string (codes "x")) (codes "echo") (item (string (codes "a\"}")) (item (object no_members) no_items)))
unfolding message_in is_utf8 chars serde_json_on_literals
echo_keeps_quotes = refl

pub notification_with_null_id : message_in (codes "{\"id\":null,\"method\":\"m\",\"params\":[]}") ≡ Some (Notification (codes "m") no_items)
unfolding message_in is_utf8 chars serde_json_on_literals
notification_with_null_id = refl

-- a result beside a method is ignored
pub result_beside_method : message_in (codes "{\"id\":1,\"method\":\"m\",\"params\":[],\"result\":1}") ≡ Some (Call (number (unsigned 1)) (codes "m") no_items)
unfolding message_in is_utf8 chars serde_json_on_literals
result_beside_method = refl

-- a method that is no text is there, so a result beside it makes no answer
pub wrong_method_beside_result : message_in (codes "{\"id\":1,\"method\":2,\"result\":1}") ≡ Some (Bad (number (unsigned 1)) NotARequest)
unfolding message_in is_utf8 chars serde_json_on_literals
wrong_method_beside_result = refl

-- a malformed request for which nobody expects a reply is ignored, as an answer is
pub wrong_without_id : message_in (codes "{\"method\":\"m\"}") ≡ Some Answer
unfolding message_in is_utf8 chars serde_json_on_literals
wrong_without_id = refl

-- ---- numbers that are no 64-bit integers

-- one more than the greatest 64-bit integer
pub one_more : message_in (codes "{\"id\":1,\"method\":\"m\",\"params\":[9223372036854775808]}") ≡ Some (Bad (number (unsigned 1)) Reals)
unfolding message_in is_utf8 chars serde_json_on_literals
one_more = refl

-- an answer with a real and an id is refused for the real: that case comes first
pub real_in_answer : message_in (codes "{\"id\":1,\"result\":1.5}") ≡ Some (Bad (number (unsigned 1)) Reals)
unfolding message_in is_utf8 chars serde_json_on_literals
real_in_answer = refl

pub fractional_id : message_in (codes "{\"id\":1.5,\"method\":\"echo\",\"params\":[]}") ≡ None
unfolding message_in is_utf8 chars serde_json_on_literals
fractional_id = refl

-- the id decides before the params do
pub reals_in_both : message_in (codes "{\"id\":1.5,\"method\":\"echo\",\"params\":[1.5]}") ≡ None
unfolding message_in is_utf8 chars serde_json_on_literals
reals_in_both = refl

-- a real that a later member of the same name replaces does not count
pub replaced_real : message_in (codes "{\"id\":1.5,\"id\":1,\"method\":\"m\",\"params\":[]}") ≡ Some (Call (number (unsigned 1)) (codes "m") no_items)
unfolding message_in is_utf8 chars serde_json_on_literals
replaced_real = refl

-- a number that no value is read of is not JSON, wherever it is
pub number_too_great : message_in (codes "{\"id\":1,\"method\":\"m\",\"params\":[1e999]}") ≡ None
unfolding message_in is_utf8 chars serde_json_on_literals
number_too_great = refl

-- ---- from bytes to requests

pub asks_and_is_damaged : asked (codes "{\"id\":0,\"method\":\"list_dbs\",\"params\":[]}]") ≡ record { messages = Call (number (unsigned 0)) (codes "list_dbs") no_items ∷ []; damaged = true }
unfolding asked cut message_in is_utf8 chars serde_json_on_literals
asks_and_is_damaged = refl

-- an answer, and a request that is built wrong, are messages like others
pub all_kinds_are_asked : asked (codes "{\"id\":0,\"result\":1}{\"id\":1}{\"method\":\"m\",\"params\":[]}") ≡ record { messages = Answer ∷ Bad (number (unsigned 1)) NotARequest ∷ Notification (codes "m") no_items ∷ []; damaged = false }
unfolding asked cut message_in is_utf8 chars serde_json_on_literals
all_kinds_are_asked = refl

-- nothing after an unreadable message is asked
pub unreadable_ends_the_stream : asked (codes "{\"id\":1.5}{\"id\":0,\"method\":\"list_dbs\",\"params\":[]}") ≡ record { messages = []; damaged = true }
unfolding asked cut message_in is_utf8 chars serde_json_on_literals
unreadable_ends_the_stream = refl

pub unfinished_asks_nothing : asked (codes "{\"id\":0,\"method\":\"echo\",\"params\":[") ≡ record { messages = []; damaged = false }
unfolding asked cut message_in is_utf8 chars serde_json_on_literals
unfinished_asks_nothing = refl
