use Rattle.std.proofs.Common.{not, option_map, sym, ap, ◌∙◌}
use Rattle.std.specs.FinMap.{keys}
use Rattle.serde_json.specs.View.{view}
use Rattle.ov_specs.specs.schema.Schema.{is_empty, is_some_and, reads_as_choices}
use Rattle.ov_schema.specs.Sets.{set_in}
use Rattle.ov_schema_text.specs.ShapeViews.{name_view}
use Rattle.ov_schema_text.proofs.ChoiceLemmas.{reads_as_choices-keys}
use Rattle.ov_schema_text.proofs.parse.base_shape.BaseShape.is_bad_enum.Goals as goal

pub returns-in-Some-2 : goal.returns-in-Some-2
returns-in-Some-2 c =
    let of = name_view c.args.self.now.of in
    ap not (c.has_atoms.ensures
    ∙ ap (is_some_and (λ m. not (is_empty (keys m)))) (sym (ap (option_map set_in) c.in-Some-2.is) ∙ c.in_ok-choices.ensures)
    ∙ sym (reads_as_choices-keys of (view c.in-Some.tree.now)))
    ∙ ap (λ o. is_some_and (λ d. not (reads_as_choices of d)) (option_map (λ v. view v.now) o)) (sym c.in-Some.is)
