-- How values are compared, by the ascending lists of their elements.
use Rattle.std.specs.Prelude.{ℤ, List, [], ◌∷◌, Bool, true, false, Option, Some, None}
use Rattle.std.specs.Cmp.Lexicographic.{pointwise}
use Rattle.std.specs.FinMap.{keys, entries}
use Rattle.ov_specs.specs.operations.Conditions.{lone_integer}
use Rattle.ov_specs.specs.rows.Database.{same_atom, same_pair}
use Rattle.ov_specs.specs.values.Uuid.{Uuid}
use Rattle.ov_specs.specs.values.Value as value
use Rattle.ov_specs.specs.values.Value.{Datum}
use Rattle.ov_conds.specs.Walks.{includes_atoms, includes_pairs, excludes_atoms, excludes_pairs}

-- the atoms of a set, or the pairs of a map, ascending
pub data Elements : Type 0 where
  Atoms : (atoms : List value.Atom) → Elements
  Pairs : (pairs : List (value.Atom × value.Atom)) → Elements

-- the elements of a value
abbrev pub elements_of : Datum → Elements
elements_of (value.Atoms atoms) = Atoms (keys atoms)
elements_of (value.Pairs pairs) = Pairs (entries pairs)

-- the number, if there is one and nothing else
abbrev pub number_of : Elements → Option ℤ
number_of (Atoms atoms) = lone_integer atoms
number_of (Pairs pairs) = None

-- the identifier of a set of one (RFC 7047, 5.1, <uuid>)
abbrev pub lone_uuid : List value.Atom → Option Uuid
lone_uuid (value.Uuid id ∷ []) = Some id
lone_uuid atoms = None

-- the identifier, if there is one and nothing else
abbrev pub uuid_of : Elements → Option Uuid
uuid_of (Atoms atoms) = lone_uuid atoms
uuid_of (Pairs pairs) = None

-- the same elements; `same_datum` says it of values
abbrev pub are_same : Elements → Elements → Bool
are_same (Atoms a) (Atoms b) = pointwise same_atom a b
are_same (Pairs a) (Pairs b) = pointwise same_pair a b
are_same a b = false

-- all elements of the value are among those of the column; `includes` says it of values
abbrev pub lists_include : Elements → Elements → Bool
lists_include (Atoms column) (Atoms value) = includes_atoms column value
lists_include (Pairs column) (Pairs value) = includes_pairs column value
lists_include column value = false

-- no element of the value is among those of the column; `excludes` says it of values
abbrev pub lists_exclude : Elements → Elements → Bool
lists_exclude (Atoms column) (Atoms value) = excludes_atoms column value
lists_exclude (Pairs column) (Pairs value) = excludes_pairs column value
lists_exclude column value = true
