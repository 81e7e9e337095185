-- Worked values, by computation and by the laws of sets. More examples are in the tests, in atoms.rt.
use Rattle.std.proofs.Common.{◌≡◌, ℕ, pos, nat_eq, List, [], ◌∷◌, ◌++◌, map, if◌then◌else◌, T, Option, Some, None, option_map, refl, ap, ◌∙◌, append-nil, codes}
use Rattle.std.specs.Str.{is_utf8, chars}
use Rattle.std.specs.Cmp.Lexicographic.{pointwise}
use Rattle.std.specs.FinMap.{keys, is_sorted}
use Rattle.std.specs.BTreeSet.{insert_key}
use Rattle.serde_json.specs.Read.{read}
use Rattle.serde_json.proofs.OnLiterals.{serde_json_on_literals}
use Rattle.uuid.specs.Text.{by_index}
use Rattle.ov_specs.specs.values.Uuid.{Names}
use Rattle.ov_specs.specs.values.Value.{AtomKind, Integers, Texts, Uuids, Kinds, Single, Pair, Atom, Integer, Text, Uuid, atom_cmp, marked, set_of, map_of, Datum, Atoms, Pairs}
use Rattle.ov_specs.specs.values.Reading.{Reading, Reads, Unreadable, Clashing, reads, atom_read}
use Rattle.ov_specs.specs.values.Writing.{set_tree, tree}
use Rattle.ov_specs.proofs.laws.Inserting.{set_of-insert_key}
use Rattle.ov_specs.proofs.laws.Clashing.{map_of-again}
use Rattle.ov_specs.proofs.laws.ReadingBack.{keys-set_of}

-- the identifier of the one row that has a name, "a"
abbrev seven : List ℕ
seven = 0 ∷ 0 ∷ 0 ∷ 0 ∷ 0 ∷ 0 ∷ 0 ∷ 0 ∷ 0 ∷ 0 ∷ 0 ∷ 0 ∷ 0 ∷ 0 ∷ 0 ∷ 7 ∷ []

abbrev names : Names
names name = if pointwise nat_eq name (codes "a") then Some seven else None

abbrev value_in : Kinds → List ℕ → Option (Reading Datum)
value_in kinds text = option_map (reads names kinds) (read text)

abbrev atom_in : AtomKind → List ℕ → Option (Option Atom)
atom_in kind text = option_map (atom_read names kind) (read text)

-- ---- atoms

-- one more than the greatest integer of 64 bits
pub above_greatest : atom_in Integers (codes "9223372036854775808") ≡ Some None
unfolding serde_json_on_literals
above_greatest = refl

-- minus zero is read as a real
pub minus_zero : atom_in Integers (codes "-0") ≡ Some None
unfolding serde_json_on_literals
minus_zero = refl

pub text_with_nul : atom_in Texts (codes "\"a\\u0000\"") ≡ Some None
unfolding serde_json_on_literals
text_with_nul = refl

-- the digits of an identifier may be in either case
pub upper_case : atom_in Uuids (codes "[\"uuid\",\"ABCDEFab-cdef-0000-0000-00000000000F\"]") ≡ Some (Some (Uuid (171 ∷ 205 ∷ 239 ∷ 171 ∷ 205 ∷ 239 ∷ 0 ∷ 0 ∷ 0 ∷ 0 ∷ 0 ∷ 0 ∷ 0 ∷ 0 ∷ 0 ∷ 15 ∷ [])))
unfolding serde_json_on_literals by_index
upper_case = refl

pub named : atom_in Uuids (codes "[\"named-uuid\",\"a\"]") ≡ Some (Some (Uuid seven))
unfolding serde_json_on_literals by_index
named = refl

-- a name that is no <id> reads as nothing, whatever is declared
pub no_id : option_map (atom_read (λ name. Some seven) Uuids) (read (codes "[\"named-uuid\",\"1a\"]")) ≡ Some None
unfolding serde_json_on_literals by_index
no_id = refl

-- ---- sets

abbrev in_order : List Atom → List Atom → List Atom
in_order done [] = done
in_order done (a ∷ rest) = in_order (insert_key atom_cmp done a) rest

set_of-in_order : (done rest : List Atom) → set_of (done ++ rest) ≡ set_of (in_order done rest)
set_of-in_order done [] = ap set_of (append-nil done)
set_of-in_order done (a ∷ rest) = set_of-insert_key a done rest ∙ set_of-in_order (insert_key atom_cmp done a) rest

-- a set made of a list computes: its atoms in order
keys-in_order : (atoms : List Atom) → T (is_sorted atom_cmp (map marked (in_order [] atoms))) → keys (set_of atoms) ≡ in_order [] atoms
keys-in_order atoms h = ap keys (set_of-in_order [] atoms) ∙ keys-set_of (in_order [] atoms) h

-- ["set",[3,1,3]] reads, and is written ["set",[1,3]]
abbrev three_one_three : List Atom
three_one_three = Integer (pos 3) ∷ Integer (pos 1) ∷ Integer (pos 3) ∷ []

pub set_reads : value_in (Single Integers) (codes "[\"set\",[3,1,3]]") ≡ Some (Reads (Atoms (set_of three_one_three)))
unfolding serde_json_on_literals
set_reads = refl

pub set_written : Some (tree (Atoms (set_of three_one_three))) ≡ read (codes "[\"set\",[1,3]]")
unfolding serde_json_on_literals
set_written = ap (λ atoms. Some (set_tree atoms)) (keys-in_order three_one_three tt)

-- a set of one is written as its atom
pub one_written : Some (tree (Atoms (set_of (Integer (pos 7) ∷ [])))) ≡ read (codes "7")
unfolding serde_json_on_literals
one_written = ap (λ atoms. Some (set_tree atoms)) (keys-in_order (Integer (pos 7) ∷ []) tt)

-- ---- maps

-- one key with two values
pub two_values : value_in (Pair Texts Integers) (codes "[\"map\",[[\"a\",1],[\"a\",2]]]") ≡ Some Clashing
unfolding is_utf8 chars serde_json_on_literals
two_values = refl

-- equal pairs are no clash, and merge
abbrev one : Atom × Atom
one = (Text (codes "a"), Integer (pos 1))

pub equal_pairs : value_in (Pair Texts Integers) (codes "[\"map\",[[\"a\",1],[\"a\",1]]]") ≡ Some (Reads (Pairs (map_of (one ∷ one ∷ []))))
unfolding is_utf8 chars serde_json_on_literals
equal_pairs = refl

pub equal_pairs_merge : map_of (one ∷ one ∷ []) ≡ map_of (one ∷ [])
equal_pairs_merge = map_of-again one.0 one.1 [] (one ∷ []) refl

-- a part that does not read counts before a clash, even if it comes later
pub unread_before_clash : value_in (Pair Texts Integers) (codes "[\"map\",[[\"a\",1],[\"a\",2],[\"a\",null]]]") ≡ Some Unreadable
unfolding is_utf8 chars serde_json_on_literals
unread_before_clash = refl
