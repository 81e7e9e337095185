use Rattle.std.proofs.Common.{◌≡◌, ℕ, List, length, IsUtf8, subst, ◌∙◌}
use Rattle.sqlite.specs.Held.{state}
use Rattle.ov_keeper.specs.Views.{cell_entry}
use Rattle.ov_sqlite.proofs.ChangeLemmas.{four_inserted}
use Rattle.ov_sqlite.proofs.WritingLemmas.{writes_by}
use Rattle.ov_sqlite.proofs.write.insert_four.Goals as goal

pub returns : goal.returns
returns g c =
    let old = state g.S.Store c.args.tx.now.conn.now in
    let new = state g.S.Store c.execute.new.self.conn.now in
    let line = c.args.line.now in
    let named = subst IsUtf8 (c.as_bytes.ensures.value ∙ c.as_str.ensures) c.as_bytes.ensures.utf8 in
    let first_named = subst IsUtf8 (c.as_bytes-2.ensures.value ∙ c.as_str-2.ensures) c.as_bytes-2.ensures.utf8 in
    let second_named = subst IsUtf8 (c.as_bytes-3.ensures.value ∙ c.as_str-3.ensures) c.as_bytes-3.ensures.utf8 in
    let third_named = subst IsUtf8 (c.as_bytes-4.ensures.value ∙ c.as_str-4.ensures) c.as_bytes-4.ensures.utf8 in
    let last_named = subst IsUtf8 (c.as_bytes-5.ensures.value ∙ c.as_str-5.ensures) c.as_bytes-5.ensures.utf8 in
    let id_sixteen = subst (λ (bytes : List ℕ). length bytes ≡ 16) c.id_bytes.ensures.bytes c.id_bytes.ensures.sixteen in
    record {
      writes = writes_by _ _ _ _ c.execute.ensures.same_reference c.in_ok-execute.ensures.runs c.execute.ensures.survives
          (λ text may ran.
          let there = may.1 ran.1.was_open in
          four_inserted text old new (may.0 ran.1.was_open) ran.1.mode ran.1.was_open ran.1.committed_is line.table line.id named id_sixteen c.in_ok-execute.field-0
          (cell_entry c.args.a.now) (cell_entry c.args.b.now) (cell_entry c.args.c.now) (cell_entry c.args.d.now) there.0 first_named second_named third_named last_named there.1
          (rw (
            c.as_bytes.ensures.value,
            c.as_str.ensures,
            c.id_bytes.ensures.bytes,
            c.as_bytes-2.ensures.value,
            c.as_str-2.ensures,
            c.as_slice.ensures,
            c.as_bytes-3.ensures.value,
            c.as_str-3.ensures,
            c.as_slice-2.ensures,
            c.as_bytes-4.ensures.value,
            c.as_str-4.ensures,
            c.as_slice-3.ensures,
            c.as_bytes-5.ensures.value,
            c.as_str-5.ensures,
            c.as_slice-4.ensures,
          ) at ran.0));
    }
