use Rattle.std.proofs.Common.{refl, sym, subst}
use Rattle.std.specs.List.{AllByRecursion}
use Rattle.sqlite.specs.Held.{state}
use Rattle.ov_tables.specs.Format.{IsLine, entry, rows_of_line}
use Rattle.ov_tables.specs.Holding.{IsNumbered}
use Rattle.ov_sqlite.specs.Joining.{AreNumbered}
use Rattle.ov_tables.specs.Querying.{row_selected}
use Rattle.ov_sqlite.proofs.HeldLemmas.{stored_all, read_all, stored_numbered, line_shown, shown_line}
use Rattle.ov_sqlite.proofs.EndingLemmas.{ends_read, ends_malformed}
use Rattle.ov_sqlite.proofs.read.read_lines.Goals as goal

pub returns-clause-reads : goal.returns-clause-reads
returns-clause-reads g c =
    let stored = rows_of_line (state g.S.Store c.args.conn.now).now.trees in
    let read = c.in-Ok.rows.items in
    let are = subst (AllByRecursion IsLine) c.as_slice-2.ensures.value (c.are_lines.ensures.0 c.if-not-are_lines.false) in
    let numbered = subst (IsNumbered (λ r. r)) c.as_slice.ensures.value c.in-Ok-test_numbers.ensures.numbered in
    let distinct = subst AreNumbered c.as_slice.ensures.value c.in-Ok-test_numbers.ensures.distinct in
    ends_read _
    (λ clean has.
    let it = c.in-Ok.ensures.rows clean has in
    (it.0, record { same = it.1; are = stored_all row_selected stored read it.1 IsLine shown_line are; numbered = stored_numbered row_selected stored read it.1 entry (λ r. refl) (λ r. refl) numbered; distinct = distinct }))
    c.line_rows.ensures.same c.line_rows.ensures.survives

pub returns-then-not-are_lines-clause-reads : goal.returns-then-not-are_lines-clause-reads
returns-then-not-are_lines-clause-reads g c =
    let stored = rows_of_line (state g.S.Store c.args.conn.now).now.trees in
    ends_malformed
    (λ clean has.
    let it = c.in-Ok.ensures.rows clean has in
    (it.0, λ all. let yes = c.are_lines.ensures.1 (subst (AllByRecursion IsLine) (sym c.as_slice-2.ensures.value) (read_all row_selected stored c.in-Ok.rows.items it.1 IsLine line_shown all)) in let no = c.if-not-are_lines.true in absurd cc))
    c.line_rows.ensures.same c.line_rows.ensures.survives
