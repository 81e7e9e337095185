-- The order of values is total, and only a value ties with itself.
use Rattle.std.proofs.Common.{◌≡◌, ℕ, List, [], refl, sym, ap, subst, ◌∙◌, Ordering, Less, Equal, Greater}
use Rattle.std.specs.Ordering.{nat_cmp, ordering_then, on, then_cmp}
use Rattle.std.specs.Cmp.{IsTotalOrder, nat_cmp_total, on_total, then_total}
use Rattle.std.specs.Cmp.Lexicographic.{slice_cmp, lists_total}
use Rattle.std.specs.FinMap.{IsAntisymmetric, slice_cmp-IsAntisymmetric, keys, entries, same_entries_map}
use Rattle.ov_specs.specs.values.Value.{Atom, atom_cmp, pair_cmp, set_of, Datum, Atoms, Pairs, datum_cmp}
use Rattle.ov_specs.proofs.laws.Order.{atom_cmp_total, atom_cmp-IsAntisymmetric}
use Rattle.ov_specs.proofs.laws.ReadingBack.{set_of-keys}
use Rattle.ov_specs.proofs.laws.Truths.{then_equal}

abbrev rank : Datum → ℕ
rank (Atoms atoms) = 0
rank (Pairs pairs) = 1

abbrev atoms_of : Datum → List Atom
atoms_of (Atoms atoms) = keys atoms
atoms_of (Pairs pairs) = []

abbrev pairs_of : Datum → List (Atom × Atom)
pairs_of (Atoms atoms) = []
pairs_of (Pairs pairs) = entries pairs

-- the same order, part by part
abbrev by_parts : Datum → Datum → Ordering
by_parts = then_cmp (on rank nat_cmp) (then_cmp (on atoms_of (slice_cmp atom_cmp)) (on pairs_of (slice_cmp pair_cmp)))

datum_cmp-by_parts : (a b : Datum) → by_parts a b ≡ datum_cmp a b
datum_cmp-by_parts (Atoms a) (Atoms b) = sym (then_equal _)
datum_cmp-by_parts (Pairs a) (Pairs b) = refl
datum_cmp-by_parts (Atoms a) (Pairs b) = refl
datum_cmp-by_parts (Pairs a) (Atoms b) = refl

pair_cmp_total : IsTotalOrder pair_cmp
pair_cmp_total = then_total (on_total (λ (p : Atom × Atom). p.0) atom_cmp_total) (on_total (λ (p : Atom × Atom). p.1) atom_cmp_total)

pub datum_cmp_total : IsTotalOrder datum_cmp
datum_cmp_total =
    let total : IsTotalOrder by_parts = then_total (on_total rank nat_cmp_total) (then_total (on_total atoms_of (lists_total atom_cmp_total)) (on_total pairs_of (lists_total pair_cmp_total))) in
    subst IsTotalOrder (λ i a b. datum_cmp-by_parts a b i) total

both_Equal : (o p : Ordering) → ordering_then o p ≡ Equal → (o ≡ Equal) × (p ≡ Equal)
both_Equal Less p e = cc
both_Equal Equal p e = (refl, e)
both_Equal Greater p e = cc

pair_cmp-IsAntisymmetric : IsAntisymmetric pair_cmp
pair_cmp-IsAntisymmetric p q e =
    let parts = both_Equal (atom_cmp p.0 q.0) (atom_cmp p.1 q.1) e in
    λ i. (atom_cmp-IsAntisymmetric p.0 q.0 parts.0 i, atom_cmp-IsAntisymmetric p.1 q.1 parts.1 i)

pub datum_cmp-IsAntisymmetric : IsAntisymmetric datum_cmp
datum_cmp-IsAntisymmetric (Atoms a) (Atoms b) e =
    let same = slice_cmp-IsAntisymmetric atom_cmp-IsAntisymmetric (keys a) (keys b) e in
    ap Atoms (sym (set_of-keys a) ∙ (ap set_of same ∙ set_of-keys b))
datum_cmp-IsAntisymmetric (Pairs a) (Pairs b) e =
    ap Pairs (same_entries_map a b (slice_cmp-IsAntisymmetric pair_cmp-IsAntisymmetric (entries a) (entries b) e))
datum_cmp-IsAntisymmetric a b e = cc
