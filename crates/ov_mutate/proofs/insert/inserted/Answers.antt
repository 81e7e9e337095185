use Rattle.std.proofs.Common.{◌≡◌, IfOk, subst, ap, ◌∙◌}
use Rattle.ov_specs.specs.values.Reading.{has_clash}
use Rattle.ov_specs.specs.values.Value.{Datum, Pairs, map_of}
use Rattle.ov_mutate.proofs.LeftLemmas.{clash-inserted, inserted-pairs}
use Rattle.ov_mutate.proofs.insert.inserted.Goals as goal

pub map_of-requires : goal.map_of-requires
map_of-requires c = ap has_clash c.in_ok-union-in-Pairs-Pairs.ensures ∙ clash-inserted c.args.column.now c.args.elements.now _ _ c.in-Pairs-Pairs.ensures c.in-Pairs-Pairs.ensures'

pub returns-in_ok-union-in-Pairs-Pairs : goal.returns-in_ok-union-in-Pairs-Pairs
returns-in_ok-union-in-Pairs-Pairs c =
    let made = ap (λ zs. Pairs (map_of zs)) c.in_ok-union-in-Pairs-Pairs.ensures ∙ inserted-pairs c.args.column.now c.args.elements.now _ _ c.in-Pairs-Pairs.ensures c.in-Pairs-Pairs.ensures' in
    subst (λ (v : Datum). IfOk c.map_of.result (λ d. d ≡ v)) made c.map_of.ensures
