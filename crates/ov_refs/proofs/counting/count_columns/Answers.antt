use Rattle.std.proofs.Common.{◌+◌, List, ℕ, sym, ap, ◌∙◌}
use Rattle.std.specs.FinMap.{get, entries}
use Rattle.std.specs.List.{flat_map}
use Rattle.ov_specs.specs.integrity.References.{Target, column_targets}
use Rattle.ov_specs.specs.schema.SchemaTypes.{Table}
use Rattle.ov_specs.specs.values.Value.{Datum}
use Rattle.ov_rows.proofs.Names.{paired-start, paired-end, zip-entries, paired-empty}
use Rattle.ov_refs.specs.Counting.{hits}
use Rattle.ov_specs.specs.values.Capped.{capped_to_64_bits}
use Rattle.ov_refs.proofs.Counts.{in_64-last}
use Rattle.ov_refs.proofs.counting.count_columns.Goals as goal

abbrev in_columns : Table → List (List ℕ × Datum) → List Target
in_columns table columns = flat_map (λ c. column_targets (get table.columns c.0) c.1) columns

pub returns : goal.returns
returns c =
    let table = c.args.table.now in
    let to = c.args.to.now in
    let count = c.loop-name.count in
    let pairs = c.zip-name-items.ensures in
    let whole =
    paired-start _ _ _ _ _ _ c.into_iter-name-iterator.ensures.into_iter_gives pairs.first c.iter.ensures.rest c.names.ensures (pairs.second ∙ c.values.ensures) in
    let end = paired-end _ _ (paired-empty c.loop-name.name-iterator c.next.new.self c.next.result c.in-None.is c.next.ensures.steps) in
    in_64-last count c.loop-name.invariant.small ∙ sym (ap (λ rest. capped_to_64_bits (count + hits to (in_columns table rest))) end) ∙ c.loop-name.invariant.counted
    ∙ (λ j. capped_to_64_bits (hits to (in_columns table (whole j)))) ∙ ap (λ columns. capped_to_64_bits (hits to (in_columns table columns))) (zip-entries (entries c.args.columns.now))
