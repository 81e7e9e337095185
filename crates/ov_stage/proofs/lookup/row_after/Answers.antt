use Rattle.std.proofs.Common.{None, Some, ap, ◌∙◌}
use Rattle.ov_stage.specs.Staging.{entry_if_found}
use Rattle.ov_stage.proofs.Lookups.{after-changed, after-unchanged}
use Rattle.ov_stage.proofs.lookup.row_after.Goals as goal

pub returns-in-Some-default-Some : goal.returns-in-Some-default-Some
returns-in-Some-default-Some c =
    let found = c.in-Some-default-Some in
    after-changed c.args.delta.now c.args.rows.now c.args.key.now found.id.now (Some found.row) (rw found.field-0-1-is at found.ensures)

pub returns-in-Some-default-None : goal.returns-in-Some-default-None
returns-in-Some-default-None c =
    let found = c.in-Some-default-None in
    after-changed c.args.delta.now c.args.rows.now c.args.key.now found.field-0-0.now None (rw found.field-0-1-is at found.ensures)

pub returns-in-None : goal.returns-in-None
returns-in-None c =
    let key = c.args.key.now in
    c.row_before.ensures ∙ ap (entry_if_found key) (after-unchanged c.args.delta.now c.args.rows.now key c.in-None.ensures)
