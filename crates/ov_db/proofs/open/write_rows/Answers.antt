use Rattle.std.proofs.Common.{ap, subst, ◌∙◌}
use Rattle.std.specs.Prelude.{IfErr, OnOk}
use Rattle.ov_specs.specs.rows.Cells.{Stored}
use Rattle.ov_keeper.specs.Keeping.{LeavesMade, LeavesRefused}
use Rattle.ov_keeper.specs.Views.{changes_view}
use Rattle.ov_stored.proofs.Putting.{puts_kept, puts_stored}
use Rattle.ov_db.proofs.Residing.{so_if_ok}
use Rattle.ov_db.proofs.open.write_rows.Goals as goal

pub returns-clause-kept : goal.returns-clause-kept
returns-clause-kept g c = so_if_ok c.rewrite.result (puts_kept c.args.schema.now c.args.rows.now c.requires c.in-Ok-puts_of.ensures.read)

pub returns-clause-ok : goal.returns-clause-ok
returns-clause-ok g c honest =
    let changes = ap changes_view c.as_slice.ensures.value ∙ c.in-Ok-puts_of.ensures.changes in
    let same = puts_stored c.args.schema.now c.args.rows.now c.in-Ok.text (changes_view c.as_slice.result.now) c.in-Ok.ensures changes in
    subst (λ (s : Stored). OnOk c.rewrite.result (LeavesMade (λ _. s) (g.K.Keeper.leaves c.args.keeper.now) (g.K.Keeper.leaves c.rewrite.new.self))) same (c.rewrite.ensures.ok honest)

pub returns-clause-err : goal.returns-clause-err
returns-clause-err g c honest =
    let changes = ap changes_view c.as_slice.ensures.value ∙ c.in-Ok-puts_of.ensures.changes in
    let same = puts_stored c.args.schema.now c.args.rows.now c.in-Ok.text (changes_view c.as_slice.result.now) c.in-Ok.ensures changes in
    subst (λ (s : Stored). IfErr c.rewrite.result (LeavesRefused (λ _. s) (g.K.Keeper.leaves c.args.keeper.now) (g.K.Keeper.leaves c.rewrite.new.self))) same (c.rewrite.ensures.err honest)
