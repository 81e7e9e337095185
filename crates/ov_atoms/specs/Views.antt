-- The kinds, atoms and values of the code as those of the definitions.
use Rattle.std.specs.Prelude.{List, map}
use Rattle.ov_specs.specs.values.Value as value
use Rattle.ov_atoms.specs.declared.kind.AtomKind.{AtomKind}
use Rattle.ov_atoms.specs.declared.kind.AtomKind.TheVariants as kind
use Rattle.ov_atoms.specs.declared.kind.Kinds.{Kinds}
use Rattle.ov_atoms.specs.declared.kind.Kinds.TheVariants.{Single, Pair}
use Rattle.ov_atoms.specs.declared.atom.Atom.{Atom}
use Rattle.ov_atoms.specs.declared.atom.Atom.TheVariants as atom

-- an atomic type
abbrev pub kind_view : AtomKind → value.AtomKind
kind_view kind.Integer = value.Integers
kind_view kind.Boolean = value.Booleans
kind_view kind.Text = value.Texts
kind_view kind.Uuid = value.Uuids

-- the kinds of a column
abbrev pub kinds_view : Kinds → value.Kinds
kinds_view (Single of) = value.Single (kind_view of)
kinds_view (Pair key val) = value.Pair (kind_view key) (kind_view val)

-- an atom
abbrev pub atom_view : Atom → value.Atom
atom_view (atom.Integer n) = value.Integer n
atom_view (atom.Boolean b) = value.Boolean b
atom_view (atom.Text text) = value.Text text
atom_view (atom.Uuid bytes) = value.Uuid bytes

-- a key with its value
abbrev pub pair_view : Atom × Atom → value.Atom × value.Atom
pair_view p = (atom_view p.0, atom_view p.1)

-- atoms in a list
abbrev pub atoms_view : List Atom → List value.Atom
atoms_view = map atom_view

-- pairs in a list
abbrev pub pairs_view : List (Atom × Atom) → List (value.Atom × value.Atom)
pairs_view = map pair_view
