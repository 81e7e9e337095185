use Rattle.std.proofs.Common.{◌≡◌, [], ◌||◌, sym, ap, ◌∙◌}
use Rattle.std.proofs.lemmas.Bool.{or_parts}
use Rattle.std.proofs.lemmas.List.{nil_from_length}
use Rattle.std.specs.FinMap.{entries}
use Rattle.std.specs.List.{list_any}
use Rattle.ov_specs.specs.integrity.Limits.{has_too_many, has_duplicates}
use Rattle.ov_specs.proofs.laws.Committing.{whole_is, IsWhole}
use Rattle.ov_support.specs.Counting.{is_overfull}
use Rattle.ov_support.proofs.Counting.{many_by_names}
use Rattle.ov_support.proofs.limits.are_too_many.Goals as goal

pub returns-then-branch : goal.returns-then-branch
returns-then-branch c =
    let schema = c.args.schema.now in
    let before = c.args.stage.now.before in
    let now = c.args.stage.now.now in
    let names = c.in_ok-name-items.name-items.items in
    let few = (or_parts (list_any (has_too_many before) (entries schema.tables)) (list_any (has_duplicates before) (entries schema.tables)) (IsWhole.limited (whole_is schema before c.requires.whole))).0 in
    let all : list_any (is_overfull schema now) names ≡ list_any (has_too_many now) (entries schema.tables) =
    many_by_names schema before now c.changes.result.now c.changes.ensures.made few names c.in_ok-name-items.ensures in
    ap (λ b. b || list_any (is_overfull schema now) c.next.new.self.rest.items)
    (sym c.if-branch.true ∙ c.in_ok-is_overfull.ensures ∙ ap (is_overfull schema now) c.as_str.ensures)
    ∙ sym (ap (list_any (is_overfull schema now)) c.in-Some.ensures.steps.0) ∙ c.loop-name.invariant
    ∙ ap (list_any (is_overfull schema now)) c.into_iter-name-iterator.ensures.into_iter_gives.0 ∙ all

pub returns : goal.returns
returns c =
    let schema = c.args.schema.now in
    let before = c.args.stage.now.before in
    let now = c.args.stage.now.now in
    let names = c.in_ok-name-items.name-items.items in
    let few = (or_parts (list_any (has_too_many before) (entries schema.tables)) (list_any (has_duplicates before) (entries schema.tables)) (IsWhole.limited (whole_is schema before c.requires.whole))).0 in
    let all : list_any (is_overfull schema now) names ≡ list_any (has_too_many now) (entries schema.tables) =
    many_by_names schema before now c.changes.result.now c.changes.ensures.made few names c.in_ok-name-items.ensures in
    let none : c.loop-name.name-iterator.rest.items ≡ [] =
    nil_from_length c.loop-name.name-iterator.rest.items (sym c.loop-name.name-iterator.rest.ok.0 ∙ c.in-None.ensures.steps.0) in
    sym (ap (list_any (is_overfull schema now)) none) ∙ c.loop-name.invariant
    ∙ ap (list_any (is_overfull schema now)) c.into_iter-name-iterator.ensures.into_iter_gives.0 ∙ all
