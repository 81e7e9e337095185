-- What a JSON tree stands for, as an atom and as a value (RFC 7047, 5.1).
use Rattle.std.specs.Prelude.{ℤ, ◌&&◌, ◌||◌, not, ℕ, List, [], ◌∷◌, Bool, false, if◌then◌else◌, Option, Some, None, option_map, option_and_then, codes}
use Rattle.std.specs.Option.{option_or, option_zip}
use Rattle.std.specs.List.{list_any}
use Rattle.std.specs.Ordering.{eq_by_cmp}
use Rattle.std.specs.Str.{bytes_eq}
use Rattle.serde_json.specs.Data.{Num, Data, Items, no_items, item}
use Rattle.serde_json.specs.Find.{as_number, as_bool, as_str, as_array, as_i64}
use Rattle.uuid.specs.Text.{parsed_hyphenated}
use Rattle.ov_specs.specs.values.Results.{all_results}
use Rattle.ov_specs.specs.values.Uuid as uuid
use Rattle.ov_specs.specs.values.Uuid.{is_id, Names}
use Rattle.ov_specs.specs.values.Value.{AtomKind, Integers, Booleans, Texts, Uuids, Atom, Integer, Boolean, Text, Uuid, is_in_64_bits, is_text, atom_cmp, Kinds, Single, Pair, Datum, Atoms, Pairs, set_of, map_of}
use Rattle.ov_specs.specs.wire.Tree.{item_list}

-- What reading a tree gives: a value; some part does not read; or all parts read and one key has two values.
pub data Reading (A : Type 0) : Type 0 where
  Reads : (value : A) → Reading A
  Unreadable : Reading A
  Clashing : Reading A

-- ---- parts of trees

-- exactly two items
abbrev pub two_items : Items → Option (Data × Data)
two_items no_items = None
two_items (item first no_items) = None
two_items (item first (item second no_items)) = Some (first, second)
two_items (item first (item second (item third rest))) = None

-- the items of an array of two
abbrev pub as_two : Data → Option (Data × Data)
as_two d = option_and_then two_items (as_array d)

-- the text is there, and is the word
abbrev pub is_word : List ℕ → Option (List ℕ) → Bool
is_word word None = false
is_word word (Some text) = bytes_eq text word

-- the item after a word in an array of two, as in ["set",[..]] (RFC 7047, 5.1)
abbrev pub tagged : List ℕ → Data → Option Data
tagged word d = option_and_then (λ p. if is_word word (as_str p.0) then Some p.1 else None) (as_two d)

-- ---- atoms

-- the number, if it fits 64 bits (RFC 7047, 3.1, <integer>)
abbrev pub in_64_bits : ℤ → Option ℤ
in_64_bits n = if is_in_64_bits n then Some n else None

-- an integer of 64 bits, written without fraction and exponent (RFC 7047, 3.1, <integer>)
abbrev pub integer_read : Num → Option ℤ
integer_read n = option_and_then in_64_bits (as_i64 n)

-- the text, if it is UTF-8 without U+0000; all texts of a tree that was read from a text are UTF-8 (RFC 7047, 3.1, <string>)
abbrev pub text_read : List ℕ → Option (List ℕ)
text_read text = if is_text text then Some text else None

-- what a name stands for, if it is an <id> (RFC 7047, 5.1, <named-uuid>)
abbrev pub name_read : Names → List ℕ → Option uuid.Uuid
name_read names name = if is_id name then names name else None

-- ["uuid",text], or ["named-uuid",id] (RFC 7047, 5.1, <uuid> and <named-uuid>)
abbrev pub uuid_read : Names → Data → Option uuid.Uuid
uuid_read names d = option_or
    (option_and_then parsed_hyphenated (option_and_then as_str (tagged (codes "uuid") d)))
    (option_and_then (name_read names) (option_and_then as_str (tagged (codes "named-uuid") d)))

-- the atom of the kind that a tree stands for (RFC 7047, 5.1, <atom>)
abbrev pub atom_read : Names → AtomKind → Data → Option Atom
atom_read names Integers d = option_map Integer (option_and_then integer_read (as_number d))
atom_read names Booleans d = option_map Boolean (as_bool d)
atom_read names Texts d = option_map Text (option_and_then text_read (as_str d))
atom_read names Uuids d = option_map Uuid (uuid_read names d)

-- ---- lists of atoms and of pairs

-- [key,value] (RFC 7047, 5.1, <pair>)
abbrev pub pair_read : Names → AtomKind → AtomKind → Data → Option (Atom × Atom)
pair_read names key value d = option_and_then (λ p. option_zip (atom_read names key p.0) (atom_read names value p.1)) (as_two d)

-- each item, if all of them read
abbrev pub each_read : {A : Type 0} → (Data → Option A) → Items → Option (List A)
each_read reader items = all_results reader (item_list items)

-- each item of an array, if all of them read
abbrev pub list_read : {A : Type 0} → (Data → Option A) → Data → Option (List A)
list_read reader d = option_and_then (each_read reader) (as_array d)

-- the list after "set", if there is one, else the tree itself as one atom (RFC 7047, 5.1, <set>)
abbrev pub listed_or_one : (Data → Option Atom) → Option Data → Data → Option (List Atom)
listed_or_one reader None d = option_map (λ a. a ∷ []) (reader d)
listed_or_one reader (Some list) d = list_read reader list

-- ["set",[atom,..]], or one atom (RFC 7047, 5.1, <set>)
abbrev pub atoms_read : Names → AtomKind → Data → Option (List Atom)
atoms_read names kind d = listed_or_one (atom_read names kind) (tagged (codes "set") d) d

-- ["map",[[key,value],..]] (RFC 7047, 5.1, <map>)
abbrev pub pairs_read : Names → AtomKind → AtomKind → Data → Option (List (Atom × Atom))
pairs_read names key value d = option_and_then (list_read (pair_read names key value)) (tagged (codes "map") d)

-- ---- values

-- the pairs have one key and two values
abbrev pub differ_at_one_key : Atom × Atom → Atom × Atom → Bool
differ_at_one_key p q = eq_by_cmp atom_cmp p.0 q.0 && not (eq_by_cmp atom_cmp p.1 q.1)

-- one key has two values somewhere in the list
abbrev pub has_clash : List (Atom × Atom) → Bool
has_clash [] = false
has_clash (p ∷ ps) = list_any (differ_at_one_key p) ps || has_clash ps

-- the set of the atoms; equal ones merge (RFC 7047, 5.1, <set>)
abbrev pub set_reading : Option (List Atom) → Reading Datum
set_reading None = Unreadable
set_reading (Some atoms) = Reads (Atoms (set_of atoms))

-- the map of the pairs; equal ones merge, and one key with two values is a clash
abbrev pub map_reading : Option (List (Atom × Atom)) → Reading Datum
map_reading None = Unreadable
map_reading (Some pairs) = if has_clash pairs then Clashing else Reads (Pairs (map_of pairs))

-- the value of these kinds that a tree stands for (RFC 7047, 5.1, <value>)
abbrev pub reads : Names → Kinds → Data → Reading Datum
reads names (Single kind) d = set_reading (atoms_read names kind d)
reads names (Pair key value) d = map_reading (pairs_read names key value d)
