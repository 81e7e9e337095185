-- What an operator makes of atoms, one after another.
use Rattle.std.specs.Prelude.{ℤ, List, Option, Result, Ok, Err, if◌then◌else◌}
use Rattle.ov_specs.specs.operations.Mutators.{Operator, MutateError, Domain, Range, Constraint, computed, computed_atom, divides_by_zero, fitting, has_equal_two}
use Rattle.ov_specs.specs.values.Reading.{in_64_bits}
use Rattle.ov_specs.specs.values.Results.{each_or_fault, result_and_then}
use Rattle.ov_specs.specs.schema.SchemaTypes.{ColumnType}
use Rattle.ov_specs.specs.values.Value.{Integers, is_atom_of, Atom, Datum, Atoms, set_of}

-- a number of 64 bits, or none
abbrev pub number_computed : Operator → ℤ → ℤ → Option ℤ
number_computed operator by n = in_64_bits (computed operator by n)

-- an atom, which is a number of 64 bits
abbrev pub atom_computed : Operator → ℤ → Atom → Result Atom MutateError
atom_computed operator by a =
    if divides_by_zero operator by then Err Domain
    else (if is_atom_of Integers (computed_atom operator by a) then Ok (computed_atom operator by a) else Err Range)

-- all results, in order, or the first fault
abbrev pub each_computed : Operator → ℤ → List Atom → Result (List Atom) MutateError
each_computed operator by atoms = each_or_fault (atom_computed operator by) atoms

-- the set of the atoms, if no two are equal and it fits
abbrev pub distinct : ColumnType → List Atom → Result Datum MutateError
distinct t atoms = if has_equal_two atoms then Err Constraint else fitting t (Atoms (set_of atoms))

-- the set of all results, or the first fault
abbrev pub set_computed : ColumnType → Operator → ℤ → List Atom → Result Datum MutateError
set_computed t operator by atoms = result_and_then (distinct t) (each_computed operator by atoms)
