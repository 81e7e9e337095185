use Rattle.std.proofs.Common.{ap, ◌∙◌}
use Rattle.std.specs.FinMap.{keys}
use Rattle.ov_specs.specs.rows.Database.{Columns}
use Rattle.ov_rows.proofs.Listed.{keys-columns_at, shared-listed}
use Rattle.ov_rows.proofs.body_reader.BodyReader.columns.Goals as goal

pub listed-requires : goal.listed-requires
listed-requires c = shared-listed c.in_ok-share.field-0 c.args.shape.now c.names.result.now c.in_ok-values.values.items c.in_ok-share.ensures c.names.ensures c.in_ok-values.ensures c.requires

pub returns-then-eq-clause-names : goal.returns-then-eq-clause-names
returns-then-eq-clause-names c =
    let listed = shared-listed c.in_ok-share.field-0 c.args.shape.now c.names.result.now c.in_ok-values.values.items c.in_ok-share.ensures c.names.ensures c.in_ok-values.ensures c.requires in
    ap (λ (columns : Columns). keys columns) c.in_ok-columns.ensures ∙ keys-columns_at c.in_ok-share.field-0.names c.in_ok-values.values.items listed ∙ ap (λ s. s.names) c.in_ok-share.ensures
