use Rattle.std.proofs.Common.{◌∙◌}
use Rattle.ov_specs.specs.integrity.Limits.{has_too_many}
use Rattle.ov_index.proofs.MapEntries.{tables_by_name}
use Rattle.ov_index.proofs.limits.have_too_many.Goals as goal

pub returns : goal.returns
returns c =
    c.is_any_too_many.ensures
    ∙ tables_by_name (λ name table. has_too_many c.args.rows.now (name, table)) c.tables.result.now c.args.schema.now.tables c.tables.ensures
