use Rattle.std.proofs.Common.{◌+◌, sym, ap, ◌∙◌}
use Rattle.std.specs.Prelude.{option_and_then}
use Rattle.ov_refs.specs.Counting.{hits}
use Rattle.ov_specs.specs.values.Capped.{capped_to_64_bits}
use Rattle.ov_refs.specs.Targets.{key_atoms, value_atoms, all_targets}
use Rattle.ov_refs.proofs.Counts.{in_64-both, hits-append}
use Rattle.ov_refs.proofs.Referring.{by_parts}
use Rattle.ov_refs.proofs.counting.count_datum.Goals as goal

pub returns : goal.returns
returns c =
    let of = c.args.column.now.type_of in
    let datum = c.args.datum.now in
    let to = c.args.to.now in
    let by_key = all_targets of.key.refers (key_atoms datum) in
    let by_value = all_targets (option_and_then (λ b. b.refers) of.value) (value_atoms datum) in
    c.saturating_add.ensures ∙ (λ i. capped_to_64_bits (c.count_by_key.ensures i + c.count_by_value.ensures i)) ∙ in_64-both (hits to by_key) (hits to by_value)
    ∙ ap capped_to_64_bits (sym (ap (hits to) (by_parts of datum) ∙ hits-append to by_key by_value))
