use Rattle.std.proofs.Common.{sym, subst, ◌∙◌}
use Rattle.std.specs.Prelude.{slice_get}
use Rattle.ov_index.specs.IndexKeys.{index_key}
use Rattle.ov_db.specs.Lookups.{TellsIndexed}
use Rattle.ov_db.proofs.IndexedRow.{tells_first, tells_none}
use Rattle.ov_db.proofs.db.Db.indexed.Goals as goal

pub returns-in_err-ids : goal.returns-in_err-ids
returns-in_err-ids g c =
    let inside = c.self.inside in
    let key = index_key c.args.table.now c.args.number c.args.values.now in
    let rows = inside.resident.rows in
    let kept = c.self.invariant.2 in
    rw (← c.self.view_is) (subst (TellsIndexed inside.schema rows key) (sym c.from_residual.ensures)
    (tells_none inside.schema rows kept.committed_kept.suits kept.committed_whole key inside.resident.indexes c.self.invariant.3.indexes (sym c.in_err-ids.ensures)))

pub returns : goal.returns
returns g c =
    let inside = c.self.inside in
    let key = index_key c.args.table.now c.args.number c.args.values.now in
    let rows = inside.resident.rows in
    let kept = c.self.invariant.2 in
    let told = c.copied.ensures ∙ c.first.ensures.value in
    rw (← c.self.view_is) (subst (TellsIndexed inside.schema rows key) (sym told)
    (subst (λ ids. TellsIndexed inside.schema rows key (slice_get ids 0)) (sym c.as_slice.ensures)
    (tells_first inside.schema rows kept.committed_kept.suits kept.committed_whole key inside.resident.indexes c.self.invariant.3.indexes c.in_ok-ids.ids.now (sym c.in_ok-ids.ensures))))
