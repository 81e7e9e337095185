use Rattle.std.proofs.Common.{map, T, sym, ap, subst, ◌∙◌}
use Rattle.std.specs.FinMap.{is_sorted}
use Rattle.std.proofs.lemmas.List.Filters.{dedup_is}
use Rattle.ov_specs.specs.values.Value as value
use Rattle.ov_specs.specs.values.Value.{atom_cmp, marked, set_of}
use Rattle.ov_atoms.specs.Views.{atoms_view}
use Rattle.ov_atoms.proofs.Sorting.{equals, set_of-dedup, dedup-ascends}
use Rattle.ov_atoms.proofs.datum.Datum.of_atoms.Goals as goal

pub invariant_of-result : goal.invariant_of-result
invariant_of-result c =
    let kept = subst (λ xs. T (is_sorted atom_cmp (map marked (atoms_view xs)))) (sym (dedup_is equals _ _ c.dedup.ensures.filtered)) (dedup-ascends _ (c.in_ok-sort.ensures.sorted)) in
    subst (λ ys. T (is_sorted atom_cmp (map marked ys))) (sym c.from_vec.ensures) kept

pub returns : goal.returns
returns c =
    ap (λ ys. value.Atoms (set_of ys)) c.from_vec.ensures
    ∙ (ap (λ xs. value.Atoms (set_of (atoms_view xs))) (dedup_is equals _ _ c.dedup.ensures.filtered) ∙ ap value.Atoms (set_of-dedup _ _ c.sort.ensures.permutation))
