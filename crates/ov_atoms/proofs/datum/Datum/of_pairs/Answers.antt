use Rattle.std.proofs.Common.{T, cond, Some, None, sym, ap, subst, ◌∙◌}
use Rattle.std.specs.FinMap.{is_sorted}
use Rattle.std.proofs.lemmas.List.Filters.{dedup_is}
use Rattle.ov_specs.specs.values.Value as value
use Rattle.ov_specs.specs.values.Value.{atom_cmp, map_of}
use Rattle.ov_atoms.specs.Views.{pairs_view}
use Rattle.ov_atoms.proofs.Merging.{equal_pairs, merged}
use Rattle.ov_atoms.proofs.datum.Datum.of_pairs.Goals as goal

pub invariant_of-result : goal.invariant_of-result
invariant_of-result c =
    let told = c.do_ascend.ensures ∙ ap (λ es. is_sorted atom_cmp (pairs_view es)) c.as_slice.ensures.value in
    subst T (sym (sym told ∙ c.if-do_ascend.true)) tt

pub returns-then-do_ascend : goal.returns-then-do_ascend
returns-then-do_ascend c =
    let told = c.do_ascend.ensures ∙ ap (λ es. is_sorted atom_cmp (pairs_view es)) c.as_slice.ensures.value in
    let all = merged value.Pairs _ _ _ c.sort.ensures.permutation c.in_ok-sort.ensures.sorted (dedup_is equal_pairs _ _ c.dedup.ensures.filtered) in
    sym (all ∙ ap (λ b. cond b (Some (value.Pairs (map_of (pairs_view c.dedup.new.self.items)))) None) (sym told ∙ c.if-do_ascend.true))

pub returns : goal.returns
returns c =
    let told = c.do_ascend.ensures ∙ ap (λ es. is_sorted atom_cmp (pairs_view es)) c.as_slice.ensures.value in
    let all = merged value.Pairs _ _ _ c.sort.ensures.permutation c.in_ok-sort.ensures.sorted (dedup_is equal_pairs _ _ c.dedup.ensures.filtered) in
    sym (all ∙ ap (λ b. cond b (Some (value.Pairs (map_of (pairs_view c.dedup.new.self.items)))) None) (sym told ∙ c.if-do_ascend.false))
