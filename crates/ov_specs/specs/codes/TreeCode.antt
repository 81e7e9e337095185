-- How a tree is stored in the model of a type: as a value of the toolchain's own, distinguished by the shape of its first part.
use Rattle.std.specs.Prelude.{◌≡◌, refl}
use mathlib.Core.Path.{ap}
use base.Stored.{Gv, gnil, gnum, gcons, Coded, coded_ℕ, coded_ℤ, coded_bool, coded_list, coded_float}
use Rattle.serde_json.specs.Data.{Num, unsigned, negative, float, Data, null, boolean, number, string, array, object, Items, no_items, item, Members, no_members, member}

-- one step deeper
abbrev mark : Gv → Gv
mark g = gcons g gnil

-- a number, its kind in front
abbrev num_code : Num → Gv
num_code (unsigned n) = gcons gnil (gnum n)
num_code (negative z) = gcons (mark gnil) (coded_ℤ.code z)
num_code (float x) = gcons (mark (mark gnil)) (coded_float.code x)

-- a tree, its kind in front
abbrev mutual
  pub tree_to : Data → Gv
  tree_to null = gnil
  tree_to (boolean b) = gcons gnil (coded_bool.code b)
  tree_to (number n) = gcons (mark gnil) (num_code n)
  tree_to (string s) = gcons (mark (mark gnil)) ((coded_list coded_ℕ).code s)
  tree_to (array ds) = gcons (mark (mark (mark gnil))) (items_to ds)
  tree_to (object ms) = gcons (mark (mark (mark (mark gnil)))) (members_to ms)

  pub items_to : Items → Gv
  items_to no_items = gnil
  items_to (item d ds) = gcons (tree_to d) (items_to ds)

  pub members_to : Members → Gv
  members_to no_members = gnil
  members_to (member k d ms) = gcons ((coded_list coded_ℕ).code k) (gcons (tree_to d) (members_to ms))

-- numbers that are stored alike are equal
num_inj : (x y : Num) → num_code x ≡ num_code y → x ≡ y
num_inj (unsigned m) (unsigned n) p = cc
num_inj (negative m) (negative n) p = let q : coded_ℤ.code m ≡ coded_ℤ.code n = cc in ap negative (coded_ℤ.inj m n q)
num_inj (float m) (float n) p = let q : coded_float.code m ≡ coded_float.code n = cc in ap float (coded_float.inj m n q)
num_inj x y p = cc

-- trees that are stored alike are equal
mutual
  pub tree_inj : (x y : Data) → tree_to x ≡ tree_to y → x ≡ y
  tree_inj null null p = refl
  tree_inj (boolean b) (boolean c) p = let q : coded_bool.code b ≡ coded_bool.code c = cc in ap boolean (coded_bool.inj b c q)
  tree_inj (number m) (number n) p = let q : num_code m ≡ num_code n = cc in ap number (num_inj m n q)
  tree_inj (string s) (string t) p =
      let q : (coded_list coded_ℕ).code s ≡ (coded_list coded_ℕ).code t = cc in
      ap string ((coded_list coded_ℕ).inj s t q)
  tree_inj (array ds) (array es) p = let q : items_to ds ≡ items_to es = cc in ap array (items_inj ds es q)
  tree_inj (object ms) (object ns) p = let q : members_to ms ≡ members_to ns = cc in ap object (members_inj ms ns q)
  tree_inj x y p = cc

  pub items_inj : (x y : Items) → items_to x ≡ items_to y → x ≡ y
  items_inj no_items no_items p = refl
  items_inj (item d ds) (item e es) p =
      let q : tree_to d ≡ tree_to e = cc in
      let r : items_to ds ≡ items_to es = cc in
      let s = tree_inj d e q in
      let t = items_inj ds es r in
      cc
  items_inj x y p = cc

  pub members_inj : (x y : Members) → members_to x ≡ members_to y → x ≡ y
  members_inj no_members no_members p = refl
  members_inj (member k d ms) (member l e ns) p =
      let o : (coded_list coded_ℕ).code k ≡ (coded_list coded_ℕ).code l = cc in
      let q : tree_to d ≡ tree_to e = cc in
      let r : members_to ms ≡ members_to ns = cc in
      let u = (coded_list coded_ℕ).inj k l o in
      let s = tree_inj d e q in
      let t = members_inj ms ns r in
      cc
  members_inj x y p = cc

-- the code of a tree
abbrev pub tree_code : Coded Data
tree_code = record { code = tree_to; inj = tree_inj }

-- the code of an array's items
abbrev pub items_code : Coded Items
items_code = record { code = items_to; inj = items_inj }
