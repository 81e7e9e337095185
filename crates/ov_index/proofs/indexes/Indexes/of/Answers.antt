use Rattle.std.proofs.Common.{List, sym, ap, ◌∙◌, string_bytes, String, Global}
use Rattle.std.specs.FinMap.{entries}
use Rattle.ov_rows.specs.Named.{named}
use Rattle.ov_rows.specs.Nested.{TableRows, in_table, all_rows}
use Rattle.ov_index.specs.Collecting.{with_entries_of_rows}
use Rattle.ov_index.proofs.RowEntries.{indexes_are, with_entries_of_rows-append}
use Rattle.ov_index.proofs.indexes.Indexes.of.Goals as goal

pub loop-name-preserved : goal.loop-name-preserved
loop-name-preserved c =
    let schema = c.args.schema.now in
    let indexes = c.loop-name.indexes in
    let table = entries c.in-Some.table.now in
    let rest = c.next.new.self in
    ap (with_entries_of_rows schema (all_rows (named rest))) (c.in_ok-add_table.ensures ∙ ap (λ name. with_entries_of_rows schema (in_table name table) indexes) c.as_str.ensures.value)
    ∙ sym (with_entries_of_rows-append schema (in_table (string_bytes c.in-Some.name.now) table) (all_rows (named rest)) indexes)
    ∙ ap (λ (ts : List (String Global × TableRows)). with_entries_of_rows schema (all_rows (named ts)) indexes) (sym c.in-Some.ensures.steps) ∙ c.loop-name.invariant

pub returns : goal.returns
returns c =
    let schema = c.args.schema.now in
    let none = c.new-indexes.result in
    let indexes = c.loop-name.indexes in
    indexes_are schema c.args.rows.now none indexes c.new-indexes.ensures
    (sym (ap (λ (ts : List (String Global × TableRows)). with_entries_of_rows schema (all_rows (named ts)) indexes) c.in-None.ensures.steps.0) ∙ c.loop-name.invariant
    ∙ ap (λ (ts : List (String Global × TableRows)). with_entries_of_rows schema (all_rows (named ts)) none) c.into_iter-name-iterator.ensures.into_iter_gives.0
    ∙ ap (λ rs. with_entries_of_rows schema rs none) c.tables-name-items.ensures)
