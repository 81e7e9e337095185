use Rattle.std.proofs.Common.{option_map, sym, ap, ◌∙◌}
use Rattle.serde_json.specs.View.{view}
use Rattle.ov_schema_text.specs.FaultViews.{refusal_view}
use Rattle.ov_schema_text.specs.ShapeViews.{schema_view}
use Rattle.ov_schema_text.proofs.RefusalLemmas.{judged-refused, judged-built}
use Rattle.ov_schema_text.proofs.schema.SchemaMembers.read.Goals as goal

pub returns-in-Some-2-clause-refused : goal.returns-in-Some-2-clause-refused
returns-in-Some-2-clause-refused c =
    judged-refused (view c.args.tree.now) _ (schema_view c.in-Some.shape) (sym (ap (option_map schema_view) c.in-Some.is) ∙ c.in_ok-shape.ensures)
    (refusal_view c.in-Some-2.fault) (sym (ap (option_map refusal_view) c.in-Some-2.is) ∙ c.in_ok-fault.ensures)

pub returns-clause-ok : goal.returns-clause-ok
returns-clause-ok c =
    judged-built (view c.args.tree.now) _ (schema_view c.in-Some.shape) (sym (ap (option_map schema_view) c.in-Some.is) ∙ c.in_ok-shape.ensures)
    _ (sym (ap (option_map refusal_view) c.in-None.is) ∙ c.in_ok-fault.ensures) (c.in_ok-build-in-None.ensures (view c.args.tree.now))
