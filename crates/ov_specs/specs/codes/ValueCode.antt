-- How a model stores an atom, and a value.
use Rattle.std.specs.Prelude.{ℕ, ℤ, Bool, List, ◌⊎◌, ◌≡◌, refl}
use Rattle.std.specs.Coded.{Coded, code_by, coded⊎, coded_ℕ, coded_ℤ, coded_bool, coded_list}
use Rattle.std.specs.FinMap as map
use mathlib.Core.Logic.{inl, inr}
use base.Stored.{coded_unit}
use Rattle.ov_specs.specs.values.Value.{Atom, Integer, Boolean, Text, Uuid, AtomSet, AtomMap, Datum, Atoms, Pairs}

-- an atom as one of four
abbrev atom_to : Atom → ℤ ⊎ (Bool ⊎ (List ℕ ⊎ List ℕ))
atom_to (Integer n) = inl n
atom_to (Boolean b) = inr (inl b)
atom_to (Text text) = inr (inr (inl text))
atom_to (Uuid bytes) = inr (inr (inr bytes))

-- and back
abbrev atom_from : ℤ ⊎ (Bool ⊎ (List ℕ ⊎ List ℕ)) → Atom
atom_from (inl n) = Integer n
atom_from (inr (inl b)) = Boolean b
atom_from (inr (inr (inl text))) = Text text
atom_from (inr (inr (inr bytes))) = Uuid bytes

-- each atom comes back
pub atom_from-atom_to : (a : Atom) → atom_from (atom_to a) ≡ a
atom_from-atom_to (Integer n) = refl
atom_from-atom_to (Boolean b) = refl
atom_from-atom_to (Text text) = refl
atom_from-atom_to (Uuid bytes) = refl

-- the code of an atom
abbrev pub atom_code : Coded Atom
atom_code =
    code_by (ℤ ⊎ (Bool ⊎ (List ℕ ⊎ List ℕ)))
    (coded⊎ coded_ℤ (coded⊎ coded_bool (coded⊎ (coded_list coded_ℕ) (coded_list coded_ℕ)))) atom_to atom_from atom_from-atom_to

-- a value as one of two
abbrev datum_to : Datum → AtomSet ⊎ AtomMap
datum_to (Atoms atoms) = inl atoms
datum_to (Pairs pairs) = inr pairs

-- and back
abbrev datum_from : AtomSet ⊎ AtomMap → Datum
datum_from (inl atoms) = Atoms atoms
datum_from (inr pairs) = Pairs pairs

-- each value comes back
pub datum_from-datum_to : (d : Datum) → datum_from (datum_to d) ≡ d
datum_from-datum_to (Atoms atoms) = refl
datum_from-datum_to (Pairs pairs) = refl

-- the code of a value
abbrev pub datum_code : Coded Datum
datum_code =
    code_by (AtomSet ⊎ AtomMap)
    (coded⊎ (map.code atom_code coded_unit) (map.code atom_code atom_code)) datum_to datum_from datum_from-datum_to
