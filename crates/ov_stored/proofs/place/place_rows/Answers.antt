use Rattle.std.proofs.Common.{◌≡◌, ◌∷◌, T, Option, refl, sym, ap, subst, ◌∙◌}
use Rattle.std.specs.FinMap.{find, get, is_sorted, get-from_sorted}
use Rattle.ov_specs.specs.operations.MatchingRows.{without_rows}
use Rattle.ov_specs.specs.rows.Database.{Row}
use Rattle.ov_specs.specs.rows.Lines.{LineKey, line_cmp}
use Rattle.ov_stored.specs.Adding.{lent_keys}
use Rattle.ov_stored.specs.Changing.{Delta}
use Rattle.ov_stored.proofs.Places.{Changes, sorted-rest, found-later, not-next, not-there, left-later, all-placed}
use Rattle.ov_stored.proofs.place.place_rows.Goals as goal

pub loop-key-init : goal.loop-key-init
loop-key-init c = record {
  ascending = subst (λ (es : Changes). T (is_sorted line_cmp es)) (sym c.into_iter-key-iterator.ensures.into_iter_gives.0) c.delta.invariant;
  inside = λ q o found. found;
  added = ap (λ ks. without_rows (lent_keys ks) c.args.rows.now) c.requires;
  same = λ q none. refl;
  left = λ q r found absent. found;
}

pub loop-key-preserved : goal.loop-key-preserved
loop-key-preserved c =
    let all = c.into_iter-key-iterator.result in
    let rest = c.loop-key.key-iterator in
    let later = c.next.new.self in
    let entry : LineKey × Option Row = (c.in-Some.key.now, c.in-Some.row.now) in
    let steps : rest ≡ entry ∷ later = c.in-Some.ensures.steps in
    let ascends : T (is_sorted line_cmp (entry ∷ later)) = subst (λ (es : Changes). T (is_sorted line_cmp es)) steps c.loop-key.invariant.ascending in
    record {
      ascending = sorted-rest entry later ascends;
      inside = λ q o found. c.loop-key.invariant.inside q o (ap (find line_cmp q) steps ∙ found-later entry later q o ascends found);
      added = c.in_ok-place_one.ensures.added ∙ c.loop-key.invariant.added;
      same = λ q none. c.in_ok-place_one.ensures.same q (not-next all rest later entry q steps (c.loop-key.invariant.inside q) none) ∙ c.loop-key.invariant.same q none;
      left = λ q r found absent.
          left-later rest later entry q r c.place_one.new.rows steps c.in_ok-place_one.ensures.placed absent
          (c.loop-key.invariant.left q r found (not-there c.loop-key.rows c.place_one.new.rows q (c.in_ok-place_one.ensures.stays q) absent));
    }

pub returns-clause-same : goal.returns-clause-same
returns-clause-same c q none =
    let changes = c.delta.inside.changes.entries in
    c.loop-key.invariant.same q
    (ap (find line_cmp q) c.into_iter-key-iterator.ensures.into_iter_gives.0 ∙ sym (get-from_sorted line_cmp changes q c.delta.invariant) ∙ ap (λ (delta : Delta). get delta q) c.delta.view_is ∙ none)

pub returns-clause-placed : goal.returns-clause-placed
returns-clause-placed c q r found =
    let changes = c.delta.inside.changes.entries in
    all-placed c.loop-key.key-iterator c.loop-key.rows q r c.in-None.ensures.steps.0 (c.loop-key.invariant.left q r
    (ap (find line_cmp q) c.into_iter-key-iterator.ensures.into_iter_gives.0 ∙ sym (get-from_sorted line_cmp changes q c.delta.invariant) ∙ ap (λ (delta : Delta). get delta q) c.delta.view_is ∙ found))
