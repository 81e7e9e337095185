use Rattle.std.proofs.Common.{sym, ap, ◌∙◌}
use Rattle.std.specs.FinMap.{keys, values, entries}
use Rattle.ov_specs.specs.operations.GivenRow.{with_values}
use Rattle.ov_rows.proofs.Names.{paired-start, zip-entries, paired-end, paired-empty}
use Rattle.ov_rows.proofs.Values.{with_values-all}
use Rattle.ov_rows.proofs.columns.Columns.to_named.Goals as goal

pub returns : goal.returns
returns c =
    let columns = c.args.self.now in
    let pairs = c.zip-name-items.ensures in
    let whole = paired-start _ _ _ _ (keys columns) (values columns) c.into_iter-name-iterator.ensures.into_iter_gives pairs.first c.iter.ensures.rest c.names.ensures (pairs.second ∙ c.values.ensures) ∙ zip-entries (entries columns) in
    let end = paired-end _ _ (paired-empty c.loop-name.name-iterator c.next.new.self c.next.result c.in-None.is c.next.ensures.steps) in
    sym (ap (λ es. with_values es c.loop-name.named) end) ∙ (c.loop-name.invariant
    ∙ ((λ j. with_values (whole j) (c.new-named.ensures j)) ∙ with_values-all columns))
