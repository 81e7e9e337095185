use Rattle.std.proofs.Common.{◌≡◌, [], length, map, sym, ap, subst, ◌∙◌}
use Rattle.std.proofs.lemmas.List.{nil_from_length}
use Rattle.std.specs.FinMap.{entries, keys, values}
use Rattle.ov_specs.proofs.laws.Truths.{zero_is}
use Rattle.ov_rows.proofs.Names.{paired-start, paired-end, zip-entries, paired-empty}
use Rattle.ov_keeper.specs.Views.{cell_entry}
use Rattle.ov_stored.proofs.WrittenCells.{EachRead, all_read, all_written, written}
use Rattle.ov_stored.proofs.cells.are_cells_of.Goals as goal

pub returns-clause-cells : goal.returns-clause-cells
returns-clause-cells c is =
    let columns = c.args.columns.now in
    let pairs = c.zip-name-items.ensures in
    let whole = paired-start _ _ _ _ (keys columns) (values columns) c.into_iter-name-iterator.ensures.into_iter_gives pairs.first c.iter.ensures.rest c.names.ensures (pairs.second ∙ c.values.ensures) ∙ zip-entries (entries columns) in
    let end = paired-end _ _ (paired-empty c.loop-name.name-iterator c.next.new.self c.next.result c.in-None.is c.next.ensures.steps) in
    let none : c.loop-name.rest.now ≡ [] = nil_from_length c.loop-name.rest.now (zero_is (length c.loop-name.rest.now) (sym c.is_empty.ensures ∙ is)) in
    all_written columns c.args.cells.now (c.loop-name.invariant.same (ap (map cell_entry) none ∙ sym (ap (map written) end)) ∙ ap (map written) whole)

pub returns-clause-read : goal.returns-clause-read
returns-clause-read c is =
    let columns = c.args.columns.now in
    let pairs = c.zip-name-items.ensures in
    let whole = paired-start _ _ _ _ (keys columns) (values columns) c.into_iter-name-iterator.ensures.into_iter_gives pairs.first c.iter.ensures.rest c.names.ensures (pairs.second ∙ c.values.ensures) ∙ zip-entries (entries columns) in
    let end = paired-end _ _ (paired-empty c.loop-name.name-iterator c.next.new.self c.next.result c.in-None.is c.next.ensures.steps) in
    all_read columns (subst EachRead whole (c.loop-name.invariant.read (subst EachRead (sym end) tt)))
