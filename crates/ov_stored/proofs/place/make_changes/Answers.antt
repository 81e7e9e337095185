use Rattle.std.proofs.Common.{◌≡◌, ◌∷◌, T, Option, Some, refl, sym, ap, subst, ◌∙◌}
use Rattle.std.specs.FinMap.{find, get, contains_key, entries, is_sorted, get-from_sorted, entries-from_sorted}
use Rattle.ov_specs.specs.rows.Database.{Database, Row}
use Rattle.ov_specs.specs.rows.Lines.{LineKey, line_cmp}
use Rattle.ov_specs.proofs.laws.LineKeys.{same_tied}
use Rattle.ov_stored.specs.Changing.{Delta, with_row_changes}
use Rattle.ov_stored.proofs.Places.{Changes, apart, sorted-rest, found-first, found-later, no-place, row-stays}
use Rattle.ov_stored.proofs.place.make_changes.Goals as goal

pub loop-key-init : goal.loop-key-init
loop-key-init c =
    let given = c.into_iter-key-iterator.ensures.into_iter_gives.0 in
    record {
      ascending = subst (λ (es : Changes). T (is_sorted line_cmp es)) (sym given) c.delta.invariant;
      placed = λ q r found. c.requires q r (sym (ap (λ (delta : Delta). get delta q) c.delta.view_is) ∙ get-from_sorted line_cmp c.delta.inside.changes.entries q c.delta.invariant ∙ sym (ap (find line_cmp q) given) ∙ found);
      made = refl;
    }

pub make_one-requires : goal.make_one-requires
make_one-requires c =
    let later = c.next.new.self in
    let entry : LineKey × Option Row = (c.in-Some.key, c.in-Some.row) in
    no-place c.in-Some.row c.loop-key.rows c.in-Some.key (λ r is. c.loop-key.invariant.placed c.in-Some.key r (ap (find line_cmp c.in-Some.key) c.in-Some.ensures.steps ∙ found-first entry later c.in-Some.key (same_tied c.in-Some.key c.in-Some.key refl) ∙ ap Some is))

pub loop-key-preserved : goal.loop-key-preserved
loop-key-preserved c =
    let rest = c.loop-key.key-iterator in
    let later = c.next.new.self in
    let entry : LineKey × Option Row = (c.in-Some.key, c.in-Some.row) in
    let steps : rest ≡ entry ∷ later = c.in-Some.ensures.steps in
    let ascends : T (is_sorted line_cmp (entry ∷ later)) = subst (λ (es : Changes). T (is_sorted line_cmp es)) steps c.loop-key.invariant.ascending in
    record {
      ascending = sorted-rest entry later ascends;
      placed = λ q r found.
          ap (λ (rows : Database). contains_key rows q) c.make_one.ensures ∙ row-stays c.in-Some.key c.in-Some.row c.loop-key.rows q (apart entry later q (Some r) ascends found)
          ∙ c.loop-key.invariant.placed q r (ap (find line_cmp q) steps ∙ found-later entry later q (Some r) ascends found);
      made = ap (with_row_changes later) c.make_one.ensures ∙ sym (ap (λ es. with_row_changes es c.loop-key.rows) steps) ∙ c.loop-key.invariant.made;
    }

pub returns : goal.returns
returns c =
    let given = c.into_iter-key-iterator.ensures.into_iter_gives.0 in
    sym (ap (λ es. with_row_changes es c.loop-key.rows) c.in-None.ensures.steps.0) ∙ c.loop-key.invariant.made ∙ ap (λ es. with_row_changes es c.args.rows.now) (given ∙ sym (entries-from_sorted line_cmp c.delta.inside.changes.entries c.delta.invariant) ∙ ap (λ (delta : Delta). entries delta) c.delta.view_is)
