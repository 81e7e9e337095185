-- What is known of a text, by what was read from it.
use Rattle.std.proofs.Common.{◌≡◌, List, ℕ, Bool, true, false, Some, None, refl}
use Rattle.std.specs.Str.{IsUtf8, is_utf8}
use Rattle.std.proofs.lemmas.Str.{is_utf8-from_IsUtf8, IsUtf8-from_is_utf8}
use Rattle.serde_json.specs.Data.{Data}
use Rattle.serde_json.specs.Read.{read}
use Rattle.ov_specs.specs.wire.Message.{tree_of}

tree_by : (text : List ℕ) (b : Bool) → is_utf8 text ≡ b → (IsUtf8 text → read text ≡ None) → tree_of text ≡ None
tree_by text true e h = rw e (h (IsUtf8-from_is_utf8 text e))
tree_by text false e h = rw e refl

pub no_tree : (text : List ℕ) → (IsUtf8 text → read text ≡ None) → tree_of text ≡ None
no_tree text h = tree_by text (is_utf8 text) refl h

pub some_tree : (text : List ℕ) (d : Data) → IsUtf8 text → read text ≡ Some d → tree_of text ≡ Some d
some_tree text d u h = rw (is_utf8-from_IsUtf8 text u) h
