use Rattle.std.proofs.Common.{◌≡◌, Some, false, sym, ap, subst, ◌∙◌}
use Rattle.std.specs.FinMap.{get, insert, entries}
use Rattle.std.specs.List.{list_any}
use Rattle.ov_specs.specs.integrity.Committed.{pruned_columns}
use Rattle.ov_specs.specs.integrity.Limits.{has_too_few}
use Rattle.ov_specs.specs.rows.Database.{Columns, Row}
use Rattle.ov_specs.specs.rows.Suits.{Suits}
use Rattle.ov_specs.specs.rows.Version.{row_now}
use Rattle.ov_stage.specs.Staging.{Stage}
use Rattle.ov_integrity.specs.Pruning.{is_short_at}
use Rattle.ov_integrity.proofs.PrunedInTurn.{pruned_of_no_table, pruned_whole, short_put}
use Rattle.ov_integrity.proofs.SuitingRows.{pruned_row_suits}
use Rattle.ov_integrity.proofs.prune.prune_row.Goals as goal

pub returns-in_default-clause-now : goal.returns-in_default-clause-now
returns-in_default-clause-now c =
    let schema = c.args.schema.now in
    let stage = c.args.stage.now in
    pruned_of_no_table schema stage.before c.args.version c.args.key stage.now (sym (c.in_default.ensures ∙ ap (get schema.tables) c.table.ensures))

pub returns-then-not-branch-clause-now : goal.returns-then-not-branch-clause-now
returns-then-not-branch-clause-now c =
    let stage = c.args.stage.now in
    pruned_whole c.args.schema.now stage.before c.args.version c.args.key stage.now c.in-Some-row.row.now (sym c.in-Some-row.ensures)
    (sym c.in_ok-dangles.ensures ∙ c.if-not-branch.true)

pub returns-clause-short : goal.returns-clause-short
returns-clause-short c =
    let schema = c.args.schema.now in
    let stage = c.args.stage.now in
    let key = c.args.key in
    let table = c.in-Some.table.now in
    let named : get schema.tables key.0 ≡ Some table = sym (c.in-Some.ensures ∙ ap (get schema.tables) c.table.ensures) in
    c.is_short-short.ensures ∙ short_put schema key stage.now table (row_now stage.before c.args.version key c.in_ok-columns.columns) named
    ∙ ap (λ (s : Stage). is_short_at schema key s.now) (sym c.in_ok-put.ensures.ok)

pub returns-clause-suits : goal.returns-clause-suits
returns-clause-suits c enough suits =
    let schema = c.args.schema.now in
    let stage = c.args.stage.now in
    let version = c.args.version in
    let key = c.args.key in
    let table = c.in-Some.table.now in
    let row = c.in-Some-row.row.now in
    let named : get schema.tables key.0 ≡ Some table = sym (c.in-Some.ensures ∙ ap (get schema.tables) c.table.ensures) in
    let left : c.in_ok-columns.columns ≡ pruned_columns stage.now (Some table) row.columns =
    c.in_ok-columns.ensures ∙ ap (λ (r : Row). pruned_columns stage.now (Some table) r.columns) c.row-2.view_is in
    let short : list_any (has_too_few table) (entries (pruned_columns stage.now (Some table) row.columns)) ≡ false =
    ap (λ (columns : Columns). list_any (has_too_few table) (entries columns)) (sym left) ∙ sym c.is_short-short.ensures ∙ enough in
    subst (Suits schema) (ap (λ (columns : Columns). insert stage.now key (row_now stage.before version key columns)) (sym left) ∙ sym (ap (λ (s : Stage). s.now) c.in_ok-put.ensures.ok))
    (pruned_row_suits schema stage.before stage.now version key table row named (sym c.in-Some-row.ensures) c.have_sixteen_bytes.ensures.version c.have_sixteen_bytes.ensures.former short suits)
