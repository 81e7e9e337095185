use Rattle.std.proofs.Common.{◌++◌, sym, ap, ◌∙◌, append_assoc}
use Rattle.std.specs.Prelude.{option_and_then}
use Rattle.ov_refs.specs.Targets.{key_atoms, value_atoms, all_targets}
use Rattle.ov_refs.proofs.Referring.{by_parts}
use Rattle.ov_rows.proofs.Nested.{ok_gives}
use Rattle.ov_refs.proofs.targets.push_datum.Goals as goal

pub returns : goal.returns
returns c =
    let before = c.args.targets.now.items in
    let of = c.args.column.now.type_of in
    let datum = c.args.datum.now in
    let by_value = all_targets (option_and_then (λ b. b.refers) of.value) (value_atoms datum) in
    ok_gives c.push_by_value.result _ _ (λ more.
    more ∙ ap (λ items. items ++ by_value) c.in_ok-push_by_key.ensures ∙ append_assoc before (all_targets of.key.refers (key_atoms datum)) by_value
    ∙ ap (λ targets. before ++ targets) (sym (by_parts of datum))) c.push_by_value.ensures
