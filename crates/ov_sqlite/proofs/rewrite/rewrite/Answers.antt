use Rattle.std.proofs.Common.{◌∙◌, arith}
use Rattle.sqlite.specs.State.{HasCleanDisk}
use Rattle.sqlite.specs.Held.{state}
use Rattle.ov_specs.specs.rows.Cells.{after_cell_changes}
use Rattle.ov_keeper.specs.Views.{changes_view}
use Rattle.ov_tables.proofs.KeepLemmas.{keeps_then, nothing_then}
use Rattle.ov_sqlite.proofs.RewriteLemmas.{remade}
use Rattle.ov_sqlite.proofs.WritingLemmas.{writes_after}
use Rattle.ov_sqlite.proofs.rewrite.rewrite.Goals as goal

pub returns : goal.returns
returns g c =
    let old = state g.S.Store c.args.tx.now.conn.now in
    let a = state g.S.Store c.clear_tables.new.tx.conn.now in
    let b = state g.S.Store c.fill_meta.new.tx.conn.now in
    let new = state g.S.Store c.apply_all.new.tx.conn.now in
    let schema = c.args.schema.now in
    let clear = c.in_ok-clear_tables.ensures in
    let fill = c.in_ok-fill_meta.ensures in
    let early = λ (clean : HasCleanDisk b). let before : HasCleanDisk a = omega (arith, c.fill_meta.ensures.survives.clean) in before in
    record {
      writes = writes_after c.apply_all.result (c.fill_meta.ensures.same_reference ∙ c.clear_tables.ensures.same_reference) (λ clean mode. fill.goes_on clean (clear.goes_on (early clean) mode))
          (λ clean mode. keeps_then _ _ _ (clear.kept (early clean) mode) (fill.kept clean)) (nothing_then _ _ _ c.clear_tables.ensures.survives c.fill_meta.ensures.survives) c.apply_all.ensures.writes
          (λ text clean mode may.
          let one = clear.ok (early clean) mode text may in
          let two = fill.ok clean one.mode (λ _. one.bare) in
          (schema, (λ _. two.stored), λ three. remade schema (after_cell_changes (changes_view c.args.changes.now)) old a b new one two three));
    }
