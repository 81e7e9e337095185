use Rattle.ov_atoms.specs.Views.{pairs_view}
use Rattle.ov_specs.specs.integrity.Committed.{pair_stays}
use Rattle.ov_specs.specs.values.Value.{Pairs, map_of}
use Rattle.ov_conversion.proofs.PrunedRows.{no_clash}
use Rattle.ov_conversion.proofs.pruned.pruned_datum.Goals as goal

pub returns-in-None-2 : goal.returns-in-None-2
returns-in-None-2 c =
    let pairs = pairs_view c.in-Some-pairs.pairs.now in
    let left = pairs_view c.in_ok-left-in-Some-pairs.left.items in
    absurd (no_clash (pair_stays c.args.rows.now c.args.column.now.type_of) c.args.datum.now pairs left c.in-Some-pairs.ensures c.in_ok-left-in-Some-pairs.ensures
    (Pairs (map_of left)) c.in_ok-datum-in-Some-pairs.field-0 c.in_ok-datum-in-Some-pairs.ensures c.in-None-2.is)
