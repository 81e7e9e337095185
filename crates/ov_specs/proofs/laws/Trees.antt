-- Laws of trees without reals, and of texts that are read as trees.
use Rattle.std.proofs.Common.{◌≡◌, ℕ, List, Some, false, refl}
use Rattle.std.specs.Str.{IsUtf8}
use Rattle.std.proofs.lemmas.Str.{is_utf8-from_IsUtf8}
use Rattle.std.proofs.lemmas.Bool.{or_parts}
use Rattle.serde_json.specs.Data.{Num, unsigned, negative, float, Data, null, boolean, number, string, array, object, Items, no_items, item, Members, no_members, member}
use Rattle.serde_json.specs.Find.{is_float}
use Rattle.serde_json.specs.Written.{has_float, items_have_float, members_have_float}
use Rattle.serde_json.specs.Read.{read}
use Rattle.ov_specs.specs.wire.Message.{tree_of}
use Rattle.ov_specs.specs.wire.Tree.{is_real, has_real, items_have_real, members_have_real}

no_float : (n : Num) → is_real n ≡ false → is_float n ≡ false
no_float (unsigned n) h = refl
no_float (negative z) h = refl
no_float (float x) h = h

mutual
  pub has_no_float : (d : Data) → has_real d ≡ false → has_float d ≡ false
  has_no_float null h = refl
  has_no_float (boolean b) h = refl
  has_no_float (number n) h = no_float n h
  has_no_float (string s) h = refl
  has_no_float (array ds) h = items_have_no_float ds h
  has_no_float (object ms) h = members_have_no_float ms h

  pub items_have_no_float : (ds : Items) → items_have_real ds ≡ false → items_have_float ds ≡ false
  items_have_no_float no_items h = refl
  items_have_no_float (item d ds) h = let p = or_parts (has_real d) (items_have_real ds) h in rw (has_no_float d p.0) (items_have_no_float ds p.1)

  pub members_have_no_float : (ms : Members) → members_have_real ms ≡ false → members_have_float ms ≡ false
  members_have_no_float no_members h = refl
  members_have_no_float (member k d ms) h = let p = or_parts (has_real d) (members_have_real ms) h in rw (has_no_float d p.0) (members_have_no_float ms p.1)

-- a text in UTF-8 is the tree that it reads as
pub tree_of-read : (text : List ℕ) (d : Data) → IsUtf8 text → read text ≡ Some d → tree_of text ≡ Some d
tree_of-read text d u h = rw (is_utf8-from_IsUtf8 text u) h
