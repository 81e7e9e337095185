-- What is sent: replies and notifications as trees, and a tree as its bytes.
use Rattle.std.specs.Prelude.{ℕ, List, codes}
use Rattle.serde_json.specs.Data.{Data, null, string, array, object, Items, no_members, member}
use Rattle.serde_json.specs.Written.{compact_text}

-- the reply with a result (JSON-RPC 1.0, 1.2)
abbrev pub reply_tree : Data → Data → Data
reply_tree id result = object (member (codes "error") null (member (codes "id") id (member (codes "result") result no_members)))

-- the reply with an error, a plain text (JSON-RPC 1.0, 1.2; the texts are this server's)
abbrev pub failure_tree : Data → List ℕ → Data
failure_tree id text =
    object (member (codes "error") (string text) (member (codes "id") id (member (codes "result") null no_members)))

-- a notification (JSON-RPC 1.0, 1.3)
abbrev pub notification_tree : List ℕ → Items → Data
notification_tree method params =
    object
    (member (codes "id") null (member (codes "method") (string method) (member (codes "params") (array params) no_members)))

-- The bytes that are sent for a tree: its compact text, members in ascending order of their names' bytes, no white space
-- (RFC 8259, 2; the order is this server's).
abbrev pub frame : Data → List ℕ
frame tree = compact_text tree
