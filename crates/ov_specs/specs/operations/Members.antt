-- The members of an operation (RFC 7047, 5.2).
use Rattle.std.specs.Prelude.{ℕ, List, Option, option_and_then}
use Rattle.serde_json.specs.Data.{Data, Items, Members}
use Rattle.serde_json.specs.Find.{as_str, as_array, as_object}
use Rattle.serde_json.specs.Find as find

-- the text at a member
abbrev pub text_at : List ℕ → Data → Option (List ℕ)
text_at name d = option_and_then as_str (find.get name d)

-- the array at a member
abbrev pub array_at : List ℕ → Data → Option Items
array_at name d = option_and_then as_array (find.get name d)

-- the object at a member
abbrev pub object_at : List ℕ → Data → Option Members
object_at name d = option_and_then as_object (find.get name d)
