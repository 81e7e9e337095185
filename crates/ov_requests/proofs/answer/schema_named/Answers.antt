use Rattle.std.proofs.Common.{◌∙◌, Some, codes, sym, ap}
use Rattle.std.proofs.lemmas.Result.{IfOk-weaker}
use Rattle.ov_specs.specs.machine.Machine.{schema_call_on}
use Rattle.ov_specs.specs.schema.SchemaTypes.{Schema}
use Rattle.ov_requests.proofs.Asked.{refused_asked, ne_at, schema_elsewhere}
use Rattle.ov_requests.proofs.answer.schema_named.Goals as goal

pub returns-then-ne : goal.returns-then-ne
returns-then-ne c =
    IfOk-weaker c.refused_work.result _ _ (λ w is s session same. refused_asked s session c.args.id (codes "unknown database") (schema_call_on s c.args.id (Some c.args.name.now)) w is (schema_elsewhere s c.args.id c.args.name.now (ne_at c.args.name.now c.as_str.result.now s.schema.name c.if-ne.ensures (c.as_str.ensures ∙ (c.name.ensures ∙ sym (ap (λ (x : Schema). x.name) same)))))) c.refused_work.ensures
