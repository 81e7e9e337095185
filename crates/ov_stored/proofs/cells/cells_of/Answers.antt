use Rattle.std.proofs.Common.{◌++◌, map, sym, ap, subst, ◌∙◌, append-nil}
use Rattle.std.specs.FinMap.{entries, keys, values}
use Rattle.ov_rows.proofs.Names.{paired, paired-start, paired-end, zip-entries, paired-empty}
use Rattle.ov_keeper.specs.Views.{cell_entry}
use Rattle.ov_stored.proofs.WrittenCells.{EachRead, all_read, all_written, written}
use Rattle.ov_stored.proofs.cells.cells_of.Goals as goal

pub returns-clause-cells : goal.returns-clause-cells
returns-clause-cells c =
    let columns = c.args.columns.now in
    let cells = c.loop-name.cells.items in
    let first = c.into_iter-name-iterator.result in
    let pairs = c.zip-name-items.ensures in
    let whole = paired-start _ _ _ _ (keys columns) (values columns) c.into_iter-name-iterator.ensures.into_iter_gives pairs.first c.iter.ensures.rest c.names-2.ensures (pairs.second ∙ c.values.ensures) ∙ zip-entries (entries columns) in
    let end = paired-end _ _ (paired-empty c.loop-name.name-iterator c.next.new.self c.next.result c.in-None.is c.next.ensures.steps) in
    all_written columns cells (
    sym (append-nil (map cell_entry cells)) ∙ sym (ap (λ es. map cell_entry cells ++ map written es) end) ∙ c.loop-name.invariant.made
    ∙ ap (λ cs. map cell_entry cs ++ map written (paired first.a.rest.now first.b)) c.in_ok-cells.ensures.items ∙ ap (map written) whole)

pub returns-clause-read : goal.returns-clause-read
returns-clause-read c =
    let columns = c.args.columns.now in
    let pairs = c.zip-name-items.ensures in
    let whole = paired-start _ _ _ _ (keys columns) (values columns) c.into_iter-name-iterator.ensures.into_iter_gives pairs.first c.iter.ensures.rest c.names-2.ensures (pairs.second ∙ c.values.ensures) ∙ zip-entries (entries columns) in
    let end = paired-end _ _ (paired-empty c.loop-name.name-iterator c.next.new.self c.next.result c.in-None.is c.next.ensures.steps) in
    all_read columns (subst EachRead whole (c.loop-name.invariant.read (subst EachRead (sym end) tt)))
