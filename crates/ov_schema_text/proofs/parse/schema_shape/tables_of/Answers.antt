use Rattle.std.proofs.Common.{◌++◌, [], ◌∷◌, map, option_map, ap, sym, ◌∙◌}
use Rattle.std.proofs.lemmas.List.{map-append}
use Rattle.serde_json.specs.View.{members_view}
use Rattle.ov_specs.specs.schema.SchemaShape.{each_member, table_shape}
use Rattle.ov_atoms.proofs.Lists.{after}
use Rattle.ov_schema_text.specs.ShapeViews.{table_view, named_table_view}
use Rattle.ov_schema_text.proofs.MemberLemmas.{after-member}
use Rattle.ov_schema_text.proofs.parse.schema_shape.tables_of.Goals as goal

pub loop-name-preserved : goal.loop-name-preserved
loop-name-preserved c =
    let done = map named_table_view c.loop-name.tables.items in
    let rest = each_member table_shape (members_view c.next.new.self) in
    let table = c.in-Some-2.table in
    let pushed = ap (map named_table_view) c.in_ok-push-in-Some-2.ensures.items ∙ map-append named_table_view c.loop-name.tables.items ((c.as_str.result, table) ∷ []) in
    c.loop-name.invariant
    ∙ after-member table_shape done c.loop-name.name-iterator c.next.new.self c.in-Some.name.now c.in-Some.member.now (table_view table) c.in-Some.ensures.steps (sym (ap (option_map table_view) c.in-Some-2.is) ∙ c.in_ok-table.ensures)
    ∙ ap (λ n. after (done ++ (n, table_view table) ∷ []) rest) (sym c.as_str.ensures.value)
    ∙ ap (λ xs. after xs rest) (sym pushed)
