-- The written form of a value: the one tree that is sent and stored for it (RFC 7047, 5.1).
use Rattle.std.specs.Prelude.{List, [], ◌∷◌, map, codes}
use Rattle.std.specs.FinMap.{keys, entries}
use Rattle.serde_json.specs.Data.{Data, boolean, number, string, array, no_items, item}
use Rattle.serde_json.specs.View.{items_of}
use Rattle.serde_json.specs.Find.{of_integer}
use Rattle.uuid.specs.Text.{hyphenated_text, lower}
use Rattle.ov_specs.specs.values.Value.{Atom, Integer, Boolean, Text, Uuid, Datum, Atoms, Pairs}

-- an array of two
abbrev pub two : Data → Data → Data
two first second = array (item first (item second no_items))

-- one atom; an identifier in lower case (RFC 7047, 5.1, <atom>; the case is this server's choice)
abbrev pub atom_tree : Atom → Data
atom_tree (Integer n) = number (of_integer n)
atom_tree (Boolean b) = boolean b
atom_tree (Text text) = string text
atom_tree (Uuid bytes) = two (string (codes "uuid")) (string (hyphenated_text lower bytes))

-- [key,value] (RFC 7047, 5.1, <pair>)
abbrev pub pair_tree : Atom × Atom → Data
pair_tree p = two (atom_tree p.0) (atom_tree p.1)

-- ["set",[atom,..]], but a set of one as its atom (RFC 7047, 5.1, <set>; that it is the bare atom is this server's choice)
abbrev pub set_tree : List Atom → Data
set_tree [] = two (string (codes "set")) (array no_items)
set_tree (a ∷ []) = atom_tree a
set_tree (a ∷ b ∷ atoms) = two (string (codes "set")) (array (items_of (map atom_tree (a ∷ b ∷ atoms))))

-- ["map",[[key,value],..]] (RFC 7047, 5.1, <map>)
abbrev pub map_tree : List (Atom × Atom) → Data
map_tree pairs = two (string (codes "map")) (array (items_of (map pair_tree pairs)))

-- the written form: atoms, and pairs by their keys, in ascending order (RFC 7047, 5.1, <value>; the order is this server's)
abbrev pub tree : Datum → Data
tree (Atoms atoms) = set_tree (keys atoms)
tree (Pairs pairs) = map_tree (entries pairs)
