-- Values that are sets.
use Rattle.std.specs.Prelude.{[]}
use Rattle.ov_specs.specs.values.Value.{AtomSet, set_of, Datum, Atoms, Pairs}

-- the atoms of a set; a map has none
abbrev pub set_in : Datum → AtomSet
set_in (Atoms atoms) = atoms
set_in (Pairs pairs) = set_of []
