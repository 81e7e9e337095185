use Rattle.std.proofs.Common.{sym, subst}
use Rattle.sqlite.specs.Held.{state}
use Rattle.ov_tables.specs.Format.{IsMeta, rows_of_meta}
use Rattle.ov_sqlite.proofs.HeldLemmas.{meta_stored, meta_read}
use Rattle.ov_sqlite.proofs.EndingLemmas.{ends_read, ends_malformed}
use Rattle.ov_sqlite.proofs.read.read_meta.Goals as goal

pub returns-in_default-clause-reads : goal.returns-in_default-clause-reads
returns-in_default-clause-reads g c =
    let stored = rows_of_meta (state g.S.Store c.args.conn.now).now.trees in
    let none = rw c.in_default.is at c.meta_of.ensures in
    ends_malformed
    (λ clean has.
    let it = c.in-Ok.ensures.rows clean has in
    (it.0, λ n text m. none n text (subst (IsMeta n text) (sym c.as_slice.ensures.value) (meta_read n text stored c.in-Ok.rows.items it.1 m))))
    c.meta_rows.ensures.same c.meta_rows.ensures.survives

pub returns-in-Ok-from_str-clause-reads : goal.returns-in-Ok-from_str-clause-reads
returns-in-Ok-from_str-clause-reads g c =
    let stored = rows_of_meta (state g.S.Store c.args.conn.now).now.trees in
    let n = c.in-Some.meta.format in
    let text = c.in-Some.meta.schema.now in
    let reads : IsMeta n text c.in-Ok.rows.items = subst (IsMeta n text) c.as_slice.ensures.value c.in-Some.ensures in
    ends_read _
    (λ clean has.
    let it = c.in-Ok.ensures.rows clean has in
    (it.0, subst (λ t. IsMeta n t stored) (sym c.in-Ok-from_str.ensures) (meta_stored n text stored c.in-Ok.rows.items it.1 reads)))
    c.meta_rows.ensures.same c.meta_rows.ensures.survives
