use Rattle.std.proofs.Common.{rules, ◌≡◌, ◌∙◌, ap, sym, Some, Ok}
use Rattle.serde_json.specs.View.{view}
use Rattle.ov_specs.specs.schema.Schema.{accepted}
use Rattle.ov_schema.proofs.TextLemmas.{no_tree, some_tree}
use Rattle.ov_schema_text.proofs.TextLemmas.{real_refused}
use Rattle.ov_schema_text.proofs.text.schema_of.Goals as goal

pub returns-in-Err-2-clause-refused : goal.returns-in-Err-2-clause-refused
returns-in-Err-2-clause-refused c = no_tree c.args.text.now (c.in-Err.ensures.err (λ m. let t = c.is_memory.ensures.1 m in cc))

pub returns-then-has_real-clause-refused : goal.returns-then-has_real-clause-refused
returns-then-has_real-clause-refused c =
    let tree = some_tree c.args.text.now (view c.in-Ok.value) c.in-Ok.ensures.ok.0 c.in-Ok.ensures.ok.1 in
    (λ same. cc, (view c.in-Ok.value, tree, real_refused (view c.in-Ok.value) cc))

pub returns-in-Ok-schema_of_tree-clause-schema : goal.returns-in-Ok-schema_of_tree-clause-schema
returns-in-Ok-schema_of_tree-clause-schema c =
    let tree = some_tree c.args.text.now (view c.in-Ok.value) c.in-Ok.ensures.ok.0 c.in-Ok.ensures.ok.1 in
    let same : c.in-Ok-schema_of_tree.schema.tree ≡ view c.in-Ok.value = c.in-Ok-schema_of_tree.ensures.tree ∙ c.new.ensures in
    let read : accepted (view c.in-Ok.value) ≡ Ok c.in-Ok-schema_of_tree.schema = ap accepted (sym c.new.ensures) ∙ c.in-Ok-schema_of_tree.ensures.ok in
    record { tree = tree ∙ ap Some (sym same); accepted = ap accepted same ∙ read }

pub returns-in-Err-schema_of_tree : goal.returns-in-Err-schema_of_tree
returns-in-Err-schema_of_tree c =
    let tree = some_tree c.args.text.now (view c.in-Ok.value) c.in-Ok.ensures.ok.0 c.in-Ok.ensures.ok.1 in
    record { schema = tt; refused = (search rules, (c.new.result, tree ∙ ap Some (sym c.new.ensures), c.in-Err-schema_of_tree.ensures.refused)) }
