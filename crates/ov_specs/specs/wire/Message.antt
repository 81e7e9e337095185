-- Which message a text is, and which messages a stream asks for.
use Rattle.std.specs.Prelude.{ℕ, ◌&&◌, ◌||◌, not, List, [], ◌∷◌, Bool, true, false, if◌then◌else◌, Option, Some, None, is_some, option_map, option_and_then, unwrap_or, codes}
use Rattle.std.specs.Str.{is_utf8}
use Rattle.serde_json.specs.Data.{Data, null, boolean, number, string, array, object, Items}
use Rattle.serde_json.specs.Find.{get, as_str, as_array}
use Rattle.serde_json.specs.Read.{read}
use Rattle.ov_specs.specs.wire.Tree.{has_real}
use Rattle.ov_specs.specs.wire.Cut.{Cut, cut}

-- why a request can't be taken: it is malformed, or it has a number that is no 64-bit integer
pub data BadKind : Type 0 where
  NotARequest : BadKind
  Reals : BadKind

-- a request that wants a reply, a notification, a reply to a request of the server, or what is answered with an error
-- (JSON-RPC 1.0, 1)
pub data Message : Type 0 where
  Call : (id : Data) (method : List ℕ) (params : Items) → Message
  Notification : (method : List ℕ) (params : Items) → Message
  Answer : Message
  Bad : (id : Data) (kind : BadKind) → Message

-- the tree, unless it is null
abbrev pub not_null : Data → Option Data
not_null null = None
not_null (boolean b) = Some (boolean b)
not_null (number n) = Some (number n)
not_null (string s) = Some (string s)
not_null (array ds) = Some (array ds)
not_null (object ms) = Some (object ms)

-- the id that a reply goes to; None if it is null or absent (JSON-RPC 1.0, 1.3)
abbrev pub asker_of : Data → Option Data
asker_of d = option_and_then not_null (get (codes "id") d)

-- the tree has a member of this name
abbrev pub has_member : List ℕ → Data → Bool
has_member name d = is_some (get name d)

-- a number inside the id that is no 64-bit integer
abbrev pub has_real_id : Data → Bool
has_real_id d = unwrap_or (option_map has_real (get (codes "id") d)) false

-- a result or an error, and no method (JSON-RPC 1.0, 1.2)
abbrev pub is_answer : Data → Bool
is_answer d = not (has_member (codes "method") d) && (has_member (codes "result") d || has_member (codes "error") d)

-- reports what is wrong to the one that asked; if nobody did, reports nothing
abbrev pub bad : Option Data → BadKind → Message
bad None kind = Answer
bad (Some id) kind = Bad id kind

-- a method that is a text and params that are an array, with or without an id (JSON-RPC 1.0, 1.1 and 1.3)
abbrev pub request : Option (List ℕ) → Option Items → Option Data → Message
request (Some method) (Some params) (Some id) = Call id method params
request (Some method) (Some params) None = Notification method params
request (Some method) None asker = bad asker NotARequest
request None params asker = bad asker NotARequest

-- the request that a tree is, by its three members (JSON-RPC 1.0, 1.1 and 1.3)
abbrev pub request_in : Data → Message
request_in d =
    request (option_and_then as_str (get (codes "method") d)) (option_and_then as_array (get (codes "params") d)) (asker_of d)

-- The message that a tree is, or None if it is unreadable; the first case that applies decides (this server's rule, over
-- JSON-RPC 1.0, 1).
abbrev pub message_of : Data → Option Message
message_of d =
    if has_real_id d then None
    else (if has_real d then Some (bad (asker_of d) Reals)
    else (if is_answer d then Some Answer
    else Some (request_in d)))

-- the tree of a text, or None if it is not UTF-8 or no JSON (RFC 8259, 8.1)
abbrev pub tree_of : List ℕ → Option Data
tree_of text = if is_utf8 text then read text else None

-- the message that a text is, or None if it is unreadable
unfoldable pub message_in : List ℕ → Option Message
message_in text = option_and_then message_of (tree_of text)

-- what a stream asks for, and whether it is damaged
pub record Asked : Type 0 where
  pub messages : List Message
  pub damaged : Bool

-- one message in front, or damage if a text is unreadable
abbrev pub with_asked : Option Message → Asked → Asked
with_asked None asked = record { messages = []; damaged = true }
with_asked (Some message) asked = record asked { messages = message ∷ asked.messages }

-- the messages of these texts up to the first that is unreadable; damage lies after the last one
abbrev pub asked_of : List (List ℕ) → Bool → Asked
asked_of [] damaged = record { messages = []; damaged = damaged }
asked_of (text ∷ texts) damaged = with_asked (message_in text) (asked_of texts damaged)

-- the messages of a stream, up to its damage
unfoldable pub asked : List ℕ → Asked
asked stream = let c : Cut = cut stream in asked_of c.messages (is_some c.damage)
