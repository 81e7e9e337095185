use Rattle.std.proofs.Common.{refl, sym, subst}
use Rattle.std.specs.List.{AllByRecursion}
use Rattle.sqlite.specs.Held.{state}
use Rattle.ov_tables.specs.Format.{IsHead, head_of, rows_of_head}
use Rattle.ov_tables.specs.Holding.{IsNumbered}
use Rattle.ov_sqlite.specs.Joining.{AreNumbered}
use Rattle.ov_tables.specs.Querying.{head_selected}
use Rattle.ov_sqlite.proofs.HeldLemmas.{stored_all, read_all, stored_numbered, head_shown, shown_head}
use Rattle.ov_sqlite.proofs.EndingLemmas.{ends_read, ends_malformed}
use Rattle.ov_sqlite.proofs.read.read_heads.Goals as goal

pub returns-clause-reads : goal.returns-clause-reads
returns-clause-reads g c =
    let stored = rows_of_head (state g.S.Store c.args.conn.now).now.trees in
    let read = c.in-Ok.rows.items in
    let are = subst (AllByRecursion IsHead) c.as_slice-2.ensures.value (c.are_heads.ensures.0 c.if-not-are_heads.false) in
    let numbered = subst (IsNumbered (λ r. r)) c.as_slice.ensures.value c.in-Ok-test_numbers.ensures.numbered in
    let distinct = subst AreNumbered c.as_slice.ensures.value c.in-Ok-test_numbers.ensures.distinct in
    ends_read _
    (λ clean has.
    let it = c.in-Ok.ensures.rows clean has in
    (it.0, record { same = it.1; are = stored_all head_selected stored read it.1 IsHead shown_head are; numbered = stored_numbered head_selected stored read it.1 head_of (λ r. refl) (λ r. refl) numbered; distinct = distinct }))
    c.head_rows.ensures.same c.head_rows.ensures.survives

pub returns-then-not-are_heads-clause-reads : goal.returns-then-not-are_heads-clause-reads
returns-then-not-are_heads-clause-reads g c =
    let stored = rows_of_head (state g.S.Store c.args.conn.now).now.trees in
    ends_malformed
    (λ clean has.
    let it = c.in-Ok.ensures.rows clean has in
    (it.0, λ all. let yes = c.are_heads.ensures.1 (subst (AllByRecursion IsHead) (sym c.as_slice-2.ensures.value) (read_all head_selected stored c.in-Ok.rows.items it.1 IsHead head_shown all)) in let no = c.if-not-are_heads.true in absurd cc))
    c.head_rows.ensures.same c.head_rows.ensures.survives
