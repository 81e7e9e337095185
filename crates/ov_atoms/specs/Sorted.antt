-- The value that a sorted list stands for.
use Rattle.std.specs.Prelude.{map, T}
use Rattle.std.specs.FinMap.{is_sorted}
use Rattle.ov_specs.specs.values.Value as value
use Rattle.ov_atoms.specs.declared.datum.SortedElements.{SortedElements}
use Rattle.ov_atoms.specs.declared.datum.SortedElements.TheVariants.{Atoms, Pairs}
use Rattle.ov_atoms.specs.Views.{pairs_view}

-- the set or the map that is kept as a list
abbrev pub sorted_view : SortedElements → value.Datum
sorted_view (Atoms atoms) = value.Atoms (value.set_of atoms)
sorted_view (Pairs pairs) = value.Pairs (value.map_of (pairs_view pairs.items))

-- the list ascends, and repeats nothing
abbrev pub IsAscending : SortedElements → Type 0
IsAscending (Atoms atoms) = T (is_sorted value.atom_cmp (map value.marked atoms))
IsAscending (Pairs pairs) = T (is_sorted value.atom_cmp (pairs_view pairs.items))
