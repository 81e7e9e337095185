use Rattle.std.proofs.Common.{◌≡◌, IfOk, subst, ap, ◌∙◌}
use Rattle.ov_specs.specs.values.Reading.{has_clash}
use Rattle.ov_specs.specs.values.Value.{Datum, Atoms, Pairs, set_of, map_of}
use Rattle.ov_mutate.proofs.LeftLemmas.{deleted-atoms, clash-deleted_pairs, deleted-pairs, clash-deleted_keys, deleted-keys}
use Rattle.ov_mutate.proofs.delete.deleted.Goals as goal

pub map_of-requires : goal.map_of-requires
map_of-requires c = ap has_clash c.in_ok-left-in-Pairs-Pairs.ensures ∙ clash-deleted_pairs c.args.column.now c.args.elements.now _ _ c.in-Pairs-Pairs.ensures c.in-Pairs-Pairs.ensures'

pub map_of-requires-in-Pairs-Atoms : goal.map_of-requires-in-Pairs-Atoms
map_of-requires-in-Pairs-Atoms c = ap has_clash c.in_ok-left-in-Pairs-Atoms.ensures ∙ clash-deleted_keys c.args.column.now c.args.elements.now _ _ c.in-Pairs-Atoms.ensures c.in-Pairs-Atoms.ensures'

pub returns-in_ok-left-in-Atoms-Atoms : goal.returns-in_ok-left-in-Atoms-Atoms
returns-in_ok-left-in-Atoms-Atoms c =
    let made = ap (λ zs. Atoms (set_of zs)) c.in_ok-left-in-Atoms-Atoms.ensures ∙ deleted-atoms c.args.column.now c.args.elements.now _ _ c.in-Atoms-Atoms.ensures c.in-Atoms-Atoms.ensures' in
    subst (λ (v : Datum). IfOk c.of_atoms.result (λ d. d ≡ v)) made c.of_atoms.ensures

pub returns-in_ok-left-in-Pairs-Pairs : goal.returns-in_ok-left-in-Pairs-Pairs
returns-in_ok-left-in-Pairs-Pairs c =
    let made = ap (λ zs. Pairs (map_of zs)) c.in_ok-left-in-Pairs-Pairs.ensures ∙ deleted-pairs c.args.column.now c.args.elements.now _ _ c.in-Pairs-Pairs.ensures c.in-Pairs-Pairs.ensures' in
    subst (λ (v : Datum). IfOk c.map_of.result (λ d. d ≡ v)) made c.map_of.ensures

pub returns-in_ok-left-in-Pairs-Atoms : goal.returns-in_ok-left-in-Pairs-Atoms
returns-in_ok-left-in-Pairs-Atoms c =
    let made = ap (λ zs. Pairs (map_of zs)) c.in_ok-left-in-Pairs-Atoms.ensures ∙ deleted-keys c.args.column.now c.args.elements.now _ _ c.in-Pairs-Atoms.ensures c.in-Pairs-Atoms.ensures' in
    subst (λ (v : Datum). IfOk c.map_of-in-Pairs-Atoms.result (λ d. d ≡ v)) made c.map_of-in-Pairs-Atoms.ensures
