-- Atoms and values: what a column of a row holds (RFC 7047, 5.1).
use Rattle.std.specs.Prelude.{ℕ, ◌^◌, ◌-◌, ◌==◌, ◌&&◌, ℤ, pos, negsuc, int_le, int_lt, not, Bool, true, false, List, [], ◌∷◌, map, Option, Some, None}
use Rattle.std.specs.List.{list_any, list_all}
use Rattle.std.specs.declared.cmp.Ordering.{Ordering}
use Rattle.std.specs.declared.cmp.Ordering.TheVariants.{Less, Greater}
use Rattle.std.specs.Ordering.{nat_cmp, int_cmp, bool_cmp, ordering_then}
use Rattle.std.specs.Cmp.Lexicographic.{slice_cmp}
use Rattle.std.specs.FinMap as map
use Rattle.std.specs.Str.{is_utf8}
use Rattle.ov_specs.specs.values.Uuid.{is_uuid, zero_uuid}

-- ---- atoms

-- the atomic types but "real" (RFC 7047, 3.2, <atomic-type>)
pub data AtomKind : Type 0 where
  Integers : AtomKind
  Booleans : AtomKind
  Texts : AtomKind
  Uuids : AtomKind

-- a number, a truth value, a text by its bytes, an identifier by its sixteen bytes (RFC 7047, 5.1, <atom>)
pub data Atom : Type 0 where
  Integer : (n : ℤ) → Atom
  Boolean : (b : Bool) → Atom
  Text : (text : List ℕ) → Atom
  Uuid : (bytes : List ℕ) → Atom

-- the atomic type that an atom is of (RFC 7047, 5.1, <atom>)
abbrev pub kind_of : Atom → AtomKind
kind_of (Integer n) = Integers
kind_of (Boolean b) = Booleans
kind_of (Text text) = Texts
kind_of (Uuid bytes) = Uuids

-- from -2^63 to 2^63-1 (RFC 7047, 3.1, <integer>)
abbrev pub is_in_64_bits : ℤ → Bool
is_in_64_bits n = int_le (negsuc (2 ^ 63 - 1)) n && int_lt n (pos (2 ^ 63))

-- the text has a U+0000 (RFC 7047, 3.1, <string>)
abbrev pub has_nul : List ℕ → Bool
has_nul text = list_any (λ c. c == 0) text

-- UTF-8 without U+0000 (RFC 7047, 3.1, <string>)
abbrev pub is_text : List ℕ → Bool
is_text bytes = not (has_nul bytes) && is_utf8 bytes

-- the atom is of the kind, and within its bounds (RFC 7047, 3.1)
abbrev pub is_atom_of : AtomKind → Atom → Bool
is_atom_of Integers (Integer n) = is_in_64_bits n
is_atom_of Booleans (Boolean b) = true
is_atom_of Texts (Text text) = is_text text
is_atom_of Uuids (Uuid bytes) = is_uuid bytes
is_atom_of kind a = false

-- ---- their order

-- the place of a kind among the four
abbrev pub kind_rank : AtomKind → ℕ
kind_rank Integers = 0
kind_rank Booleans = 1
kind_rank Texts = 2
kind_rank Uuids = 3

-- Numbers by value; false before true; texts by their bytes; identifiers by their number, which is the order of their bytes.
-- Atoms of two kinds, which no column holds, are ordered by kind.
abbrev pub atom_cmp : Atom → Atom → Ordering
atom_cmp (Integer m) (Integer n) = int_cmp m n
atom_cmp (Boolean a) (Boolean b) = bool_cmp a b
atom_cmp (Text a) (Text b) = slice_cmp nat_cmp a b
atom_cmp (Uuid a) (Uuid b) = slice_cmp nat_cmp a b
atom_cmp a b = nat_cmp (kind_rank (kind_of a)) (kind_rank (kind_of b))

-- ---- values

-- what a column holds: atoms of one kind, or pairs of two kinds (RFC 7047, 3.2, <type>)
pub data Kinds : Type 0 where
  Single : (of : AtomKind) → Kinds
  Pair : (key value : AtomKind) → Kinds

-- a finite set of atoms: a finite map to nothing, which gives its atoms in ascending order (RFC 7047, 5.1, <set>)
abbrev pub AtomSet : Type 0
AtomSet = map.FinMap atom_cmp (Unit {0})

-- a finite map between atoms (RFC 7047, 5.1, <map>)
abbrev pub AtomMap : Type 0
AtomMap = map.FinMap atom_cmp Atom

-- an element as an entry of a set
abbrev pub marked : {A : Type 0} → A → A × Unit {0}
marked a = (a, tt)

-- the set of these atoms; equal ones merge (RFC 7047, 5.1, <set>)
abbrev pub set_of : List Atom → AtomSet
set_of atoms = map.from_entries (map marked atoms)

-- the map of these pairs; of two with one key the first stays (reading refuses two unless they are equal)
abbrev pub map_of : List (Atom × Atom) → AtomMap
map_of pairs = map.from_entries pairs

-- a finite set of atoms, or a finite map; a scalar is a set of one (RFC 7047, 5.1, <value>)
pub data Datum : Type 0 where
  Atoms : (atoms : AtomSet) → Datum
  Pairs : (pairs : AtomMap) → Datum

-- the atoms of a set, ascending; None if it is a map
abbrev pub atoms_in : Datum → Option (List Atom)
atoms_in (Atoms atoms) = Some (map.keys atoms)
atoms_in (Pairs pairs) = None

-- the pairs of a map, ascending by their keys; None if it is a set
abbrev pub pairs_in : Datum → Option (List (Atom × Atom))
pairs_in (Atoms atoms) = None
pairs_in (Pairs pairs) = Some (map.entries pairs)

-- how many atoms, or pairs (RFC 7047, 3.2, <type>, min and max)
abbrev pub count : Datum → ℕ
count (Atoms atoms) = map.len atoms
count (Pairs pairs) = map.len pairs

-- the pair is of these kinds
abbrev pub is_pair_of : AtomKind → AtomKind → Atom × Atom → Bool
is_pair_of key value p = is_atom_of key p.0 && is_atom_of value p.1

-- a set of atoms of the kind, or a map between the two (RFC 7047, 5.1, <value>)
abbrev pub is_of : Kinds → Datum → Bool
is_of (Single kind) (Atoms atoms) = list_all (is_atom_of kind) (map.keys atoms)
is_of (Pair key value) (Pairs pairs) = list_all (is_pair_of key value) (map.entries pairs)
is_of kinds d = false

-- the order of pairs: by the key, then by the value
abbrev pub pair_cmp : Atom × Atom → Atom × Atom → Ordering
pair_cmp p q = ordering_then (atom_cmp p.0 q.0) (atom_cmp p.1 q.1)

-- The order of values: by their elements in ascending order, a prefix first. Sets come before maps; no column holds both.
abbrev pub datum_cmp : Datum → Datum → Ordering
datum_cmp (Atoms a) (Atoms b) = slice_cmp atom_cmp (map.keys a) (map.keys b)
datum_cmp (Pairs a) (Pairs b) = slice_cmp pair_cmp (map.entries a) (map.entries b)
datum_cmp (Atoms a) (Pairs b) = Less
datum_cmp (Pairs a) (Atoms b) = Greater

-- ---- defaults

-- 0, false, the empty text, the zero UUID (RFC 7047, 5.2.1)
abbrev pub default_atom : AtomKind → Atom
default_atom Integers = Integer (pos 0)
default_atom Booleans = Boolean false
default_atom Texts = Text []
default_atom Uuids = Uuid zero_uuid

-- the empty set or map: the default if `min` is 0 (RFC 7047, 5.2.1)
abbrev pub nothing_of : Kinds → Datum
nothing_of (Single kind) = Atoms (set_of [])
nothing_of (Pair key value) = Pairs (map_of [])

-- one default atom, or one pair of two: the default if `min` is 1 (RFC 7047, 5.2.1)
abbrev pub one_default_of : Kinds → Datum
one_default_of (Single kind) = Atoms (set_of (default_atom kind ∷ []))
one_default_of (Pair key value) = Pairs (map_of ((default_atom key, default_atom value) ∷ []))
