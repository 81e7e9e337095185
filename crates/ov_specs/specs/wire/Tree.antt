-- The parts of JSON trees as lists, and which trees have reals.
use Rattle.std.specs.Prelude.{ℕ, ◌||◌, Bool, false, is_none, List, [], ◌∷◌}
use Rattle.serde_json.specs.Data.{Num, Data, null, boolean, number, string, array, object, Items, no_items, item, Members, no_members, member}
use Rattle.serde_json.specs.Find.{as_i64}

-- ---- parts

-- the items of an array
abbrev pub item_list : Items → List Data
item_list no_items = []
item_list (item d ds) = d ∷ item_list ds

-- the members of an object, each with its name, in ascending order of the names
abbrev pub member_list : Members → List (List ℕ × Data)
member_list no_members = []
member_list (member name d members) = (name, d) ∷ member_list members

-- ---- reals

-- a number that is no integer from -2^63 to 2^63-1 (RFC 7047, 3.1 has reals, which this server leaves out)
abbrev pub is_real : Num → Bool
is_real n = is_none (as_i64 n)

-- such a number stands somewhere in the tree
abbrev mutual
  pub has_real : Data → Bool
  has_real null = false
  has_real (boolean b) = false
  has_real (number n) = is_real n
  has_real (string s) = false
  has_real (array ds) = items_have_real ds
  has_real (object ms) = members_have_real ms

  pub items_have_real : Items → Bool
  items_have_real no_items = false
  items_have_real (item d ds) = has_real d || items_have_real ds

  pub members_have_real : Members → Bool
  members_have_real no_members = false
  members_have_real (member k d ms) = has_real d || members_have_real ms
