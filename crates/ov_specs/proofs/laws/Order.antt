-- The order of atoms is total, and only an atom ties with itself.
use Rattle.std.proofs.Common.{◌≡◌, ℕ, ℤ, pos, List, [], Bool, true, false, refl, sym, ap, subst, Ordering}
use Rattle.std.specs.Ordering.{nat_cmp, int_cmp, bool_cmp, on, then_cmp}
use Rattle.std.specs.Cmp.{IsTotalOrder, nat_cmp_total, int_cmp_total, bool_cmp_total, on_total, then_total}
use Rattle.std.specs.Cmp.Lexicographic.{slice_cmp, nat_list_cmp_total}
use Rattle.std.specs.FinMap.{IsAntisymmetric, nat_cmp-IsAntisymmetric, int_cmp-IsAntisymmetric, slice_cmp-IsAntisymmetric}
use Rattle.ov_specs.specs.values.Value.{Atom, Integer, Boolean, Text, Uuid, kind_of, kind_rank, atom_cmp}
use Rattle.ov_specs.proofs.laws.Truths.{then_equal}

abbrev rank : Atom → ℕ
rank a = kind_rank (kind_of a)

abbrev number : Atom → ℤ
number (Integer n) = n
number a = pos 0

abbrev truth : Atom → Bool
truth (Boolean b) = b
truth a = false

abbrev bytes : Atom → List ℕ
bytes (Text text) = text
bytes (Uuid u) = u
bytes a = []

-- the same order, part by part
abbrev by_parts : Atom → Atom → Ordering
by_parts = then_cmp (on rank nat_cmp) (then_cmp (on number int_cmp) (then_cmp (on truth bool_cmp) (on bytes (slice_cmp nat_cmp))))

atom_cmp-by_parts : (a b : Atom) → by_parts a b ≡ atom_cmp a b
atom_cmp-by_parts (Integer m) (Integer n) = sym (then_equal _)
atom_cmp-by_parts (Boolean a) (Boolean b) = sym (then_equal _)
atom_cmp-by_parts (Text a) (Text b) = refl
atom_cmp-by_parts (Uuid a) (Uuid b) = refl
atom_cmp-by_parts a b = refl

pub atom_cmp_total : IsTotalOrder atom_cmp
atom_cmp_total =
    let total : IsTotalOrder by_parts = then_total (on_total rank nat_cmp_total) (then_total (on_total number int_cmp_total) (then_total (on_total truth bool_cmp_total) (on_total bytes nat_list_cmp_total))) in
    subst IsTotalOrder (λ i a b. atom_cmp-by_parts a b i) total

bool_cmp-IsAntisymmetric : IsAntisymmetric bool_cmp
bool_cmp-IsAntisymmetric true true e = refl
bool_cmp-IsAntisymmetric false false e = refl
bool_cmp-IsAntisymmetric true false e = cc
bool_cmp-IsAntisymmetric false true e = cc

pub atom_cmp-IsAntisymmetric : IsAntisymmetric atom_cmp
atom_cmp-IsAntisymmetric (Integer m) (Integer n) e = ap Integer (int_cmp-IsAntisymmetric m n e)
atom_cmp-IsAntisymmetric (Boolean a) (Boolean b) e = ap Boolean (bool_cmp-IsAntisymmetric a b e)
atom_cmp-IsAntisymmetric (Text a) (Text b) e = ap Text (slice_cmp-IsAntisymmetric nat_cmp-IsAntisymmetric a b e)
atom_cmp-IsAntisymmetric (Uuid a) (Uuid b) e = ap Uuid (slice_cmp-IsAntisymmetric nat_cmp-IsAntisymmetric a b e)
atom_cmp-IsAntisymmetric a b e = cc
