use Rattle.std.proofs.Common.{rules, ◌≡◌, Some, ◌∙◌}
use Rattle.std.proofs.lemmas.Result.{IfOk-weaker, err_from_is_err_and}
use Rattle.ov_specs.specs.conversion.Converted.{schema_stored}
use Rattle.ov_keeper.specs.Views.{lines_view}
use Rattle.ov_db.proofs.Answers.{converts, no_rows, no_schema, refused_same}
use Rattle.ov_db.proofs.Residing.{each_error}
use Rattle.ov_db.proofs.convert.loaded_converted.Goals as goal

pub returns-in_err-old-clause-err : goal.returns-in_err-old-clause-err
returns-in_err-old-clause-err c =
    let loaded = c.args.loaded in
    let p = err_from_is_err_and c.from_residual.result c.from_residual.ensures.1 in
    rw (p.1, p.2) (no_schema (schema_stored loaded.schema) c.args.schema.now c.args.version (lines_view loaded.lines) c.in_err-old.field-0.0 (search rules))

pub returns-in_err-rows-clause-err : goal.returns-in_err-rows-clause-err
returns-in_err-rows-clause-err c =
    let loaded = c.args.loaded in
    let stored : schema_stored loaded.schema ≡ Some c.in_ok-old.old = search rules in
    let p = err_from_is_err_and c.from_residual-in_err-rows.result c.from_residual-in_err-rows.ensures.1 in
    rw (p.1, p.2) (no_rows (schema_stored loaded.schema) c.in_ok-old.old c.args.schema.now c.args.version (lines_view loaded.lines) c.in_err-rows.field-0.0 stored c.in_err-rows.ensures.loaded)

pub returns-clause-ok : goal.returns-clause-ok
returns-clause-ok c =
    let loaded = c.args.loaded in
    let stored : schema_stored loaded.schema ≡ Some c.in_ok-old.old = search rules in
    let same = converts (schema_stored loaded.schema) c.in_ok-old.old c.args.schema.now c.args.version (lines_view loaded.lines) c.in_ok-rows.rows stored c.in_ok-rows.ensures.loaded in
    IfOk-weaker c.converted.result _ _ (λ resident is. same ∙ is) c.converted.ensures.ok

pub returns-clause-err : goal.returns-clause-err
returns-clause-err c =
    let loaded = c.args.loaded in
    let stored : schema_stored loaded.schema ≡ Some c.in_ok-old.old = search rules in
    let same = converts (schema_stored loaded.schema) c.in_ok-old.old c.args.schema.now c.args.version (lines_view loaded.lines) c.in_ok-rows.rows stored c.in_ok-rows.ensures.loaded in
    each_error c.converted.result (λ fault is. refused_same _ _ fault same is) c.converted.ensures.err
