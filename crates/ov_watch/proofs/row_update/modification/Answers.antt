use Rattle.std.proofs.Common.{◌≡◌, ◌==◌, ℕ, List, [], ◌∷◌, length, false, Some, refl, sym, ap, ◌∙◌, codes}
use Rattle.serde_json.specs.Data.{object, no_members, member}
use Rattle.ov_specs.specs.monitors.Updates as spec
use Rattle.ov_specs.specs.rows.Database.{Row}
use Rattle.ov_specs.specs.rows.Lines.{LineKey}
use Rattle.ov_watch.proofs.row_update.modification.Goals as goal

some_modified : (names modified : List (List ℕ)) (before after : LineKey × Row) → (length modified == 0) ≡ false
    → spec.with_both names modified before after ≡ Some (object (member (codes "new") (spec.shown names after) (member (codes "old") (spec.shown modified before) no_members)))
some_modified names [] before after h = cc
some_modified names (name ∷ modified) before after h = refl

pub returns : goal.returns
returns c table =
    let id = c.args.id.now in
    let names = c.args.names.now in
    let before : LineKey × Row = ((table, id), c.args.before.now) in
    let after : LineKey × Row = ((table, id), c.args.after.now) in
    let modified = c.in_ok-modified.modified in
    let old = c.in_ok-old.ensures table ∙ ap (λ ns. spec.shown ns before) c.as_slice.ensures.value in
    ap Some (c.in_ok-new_and_old.ensures ∙ (λ i. object (member (codes "new") (c.in_ok-new.ensures table i) (member (codes "old") (old i) no_members))))
    ∙ sym (some_modified names modified.items before after (ap (λ n. n == 0) (sym modified.ok.0) ∙ sym c.if-is_empty.ensures))
    ∙ ap (λ ns. spec.with_both names ns before after) (c.in_ok-modified.ensures table id)
