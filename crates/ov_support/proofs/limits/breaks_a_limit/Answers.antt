use Rattle.std.proofs.Common.{◌≡◌, ◌||◌, List, Option, false, sym, ap, subst, ◌∙◌}
use Rattle.std.proofs.lemmas.Bool.{or_parts}
use Rattle.std.specs.FinMap.{entries}
use Rattle.std.specs.List.{list_any}
use Rattle.ov_specs.specs.integrity.Limits.{has_too_many, has_duplicates}
use Rattle.ov_specs.specs.rows.Database.{Row}
use Rattle.ov_specs.specs.rows.Lines.{LineKey}
use Rattle.ov_specs.proofs.laws.Committing.{whole_is, IsWhole}
use Rattle.ov_specs.specs.rows.Changed.{IsAfter}
use Rattle.ov_index.specs.Changing.{are_any_alike}
use Rattle.ov_support.proofs.Indexed.{made_after}
use Rattle.ov_support.proofs.limits.breaks_a_limit.Goals as goal

pub returns-in_ok-are_made_alike : goal.returns-in_ok-are_made_alike
returns-in_ok-are_made_alike c =
    let schema = c.args.schema.now in
    let before = c.args.stage.now.before in
    let now = c.args.stage.now.now in
    let delta = c.changes.result.now in
    let none = (or_parts (list_any (has_too_many before) (entries schema.tables)) (list_any (has_duplicates before) (entries schema.tables)) (IsWhole.limited (whole_is schema before c.requires.whole))).1 in
    let after : IsAfter c.map-changes.result.now.entries before now =
    subst (λ (changes : List (LineKey × Option Row)). IsAfter changes before now) (sym c.map-changes.ensures) (made_after delta before now c.changes.ensures.made) in
    let few : list_any (has_too_many now) (entries schema.tables) ≡ false = sym c.in_ok-are_too_many.ensures ∙ c.if-branch.false in
    c.in_ok-are_made_alike.ensures before now c.requires.indexed none after c.requires.suits ∙ sym (ap (λ b. b || are_any_alike schema now) few)
