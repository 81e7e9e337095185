use Rattle.std.proofs.Common.{◌≡◌, ◌+◌, ◌-◌, ◌^◌, ◌<◌, drop, length, arith, refl, sym, subst, ◌∙◌}
use Rattle.ov_rows.proofs.Spreading.{AreMarked, none-marked, marked-here, own-here, fits-one_more, fits-none, same-datum}
use Rattle.ov_rows.proofs.marks.marks_of.Goals as goal
use Rattle.ov_rows.proofs.marks.marks_of.Goals.{After-eq}

pub loop-place-init : goal.loop-place-init
loop-place-init c = record {
  small = fits-none c.min-place.result;
  marked = none-marked 0 (drop c.min-place.result c.args.defaults.now) (drop c.min-place.result c.args.values.now) refl;
}

-- the place of this turn, before which one more place is left
at : (c : After-eq) → c.loop-place.place ≡ (c.loop-place.place - 1) + 1
at c = omega arith

small : (c : After-eq) → c.loop-place.marks < 2 ^ (64 - ((c.loop-place.place - 1) + 1))
small c = subst (λ n. c.loop-place.marks < 2 ^ (64 - n)) (at c) c.loop-place.invariant.small

marked : (c : After-eq) → AreMarked c.loop-place.marks (drop ((c.loop-place.place - 1) + 1) c.args.defaults.now) (drop ((c.loop-place.place - 1) + 1) c.args.values.now)
marked c = subst (λ n. AreMarked c.loop-place.marks (drop n c.args.defaults.now) (drop n c.args.values.now)) (at c) c.loop-place.invariant.marked

pub loop-place-preserved-then-eq : goal.loop-place-preserved-then-eq
loop-place-preserved-then-eq c =
    let before = (goal.at.loop-place-preserved-then-eq c).After-eq in
    let place = c.loop-place.place - 1 in
    let known : place < length c.args.defaults.now = omega arith in
    let there : place < length c.args.values.now = omega arith in
    record {
      small = fits-one_more c.loop-place.marks place 1 (omega arith) (small before) (omega arith);
      marked = marked-here c.loop-place.marks place c.args.defaults.now c.args.values.now c.index-defaults-place.result c.index-values-place.result c.index-defaults-place.is c.index-values-place.is known there
          (marked before) (same-datum c.index-values-place.result c.index-defaults-place.result (sym c.eq.ensures ∙ c.if-eq.true));
    }

pub loop-place-preserved : goal.loop-place-preserved
loop-place-preserved c =
    let before = (goal.at.loop-place-preserved c).After-eq in
    let place = c.loop-place.place - 1 in
    let known : place < length c.args.defaults.now = omega arith in
    let there : place < length c.args.values.now = omega arith in
    let fits = fits-one_more c.loop-place.marks place 0 (omega arith) (small before) (omega arith) in
    record {
      small = omega (arith, fits);
      marked = own-here c.loop-place.marks place c.args.defaults.now c.args.values.now c.index-defaults-place.result c.index-values-place.result c.index-defaults-place.is c.index-values-place.is known there (marked before);
    }
