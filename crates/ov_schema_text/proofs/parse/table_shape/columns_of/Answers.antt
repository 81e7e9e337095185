use Rattle.std.proofs.Common.{◌++◌, [], ◌∷◌, map, ap, sym, ◌∙◌}
use Rattle.std.proofs.lemmas.List.{map-append}
use Rattle.serde_json.specs.View.{members_view}
use Rattle.ov_specs.specs.schema.SchemaShape.{each_member, column_shape}
use Rattle.ov_atoms.proofs.Lists.{after}
use Rattle.ov_schema_text.specs.ShapeViews.{column_view, named_column_view}
use Rattle.ov_schema_text.proofs.MemberLemmas.{after-member}
use Rattle.ov_schema_text.proofs.parse.table_shape.columns_of.Goals as goal

pub loop-name-preserved : goal.loop-name-preserved
loop-name-preserved c =
    let done = map named_column_view c.loop-name.columns.items in
    let rest = each_member column_shape (members_view c.next.new.self) in
    let column = c.in-Some-read.column in
    let pushed = ap (map named_column_view) c.in_ok-push-in-Some-read.ensures.items ∙ map-append named_column_view c.loop-name.columns.items ((c.as_str.result, column) ∷ []) in
    c.loop-name.invariant
    ∙ after-member column_shape done c.loop-name.name-iterator c.next.new.self c.in-Some.name.now c.in-Some.member.now (column_view column) c.in-Some.ensures.steps c.in-Some-read.ensures
    ∙ ap (λ n. after (done ++ (n, column_view column) ∷ []) rest) (sym c.as_str.ensures.value)
    ∙ ap (λ xs. after xs rest) (sym pushed)
