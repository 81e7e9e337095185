use Rattle.std.proofs.Common.{rules, arith, inl, inr, sym, ◌∙◌}
use Rattle.std.proofs.lemmas.Bool.{false≢true}
use Rattle.ov_lanes.specs.Lanes.{unmarked}
use Rattle.ov_lanes.proofs.Steady.{flushes_none, flushes_along}
use Rattle.ov_lanes.proofs.Turning.{flushed_all, fewer_then}
use Rattle.ov_lanes.proofs.desk.Desk.flush_each.Goals.{then-flush_at, else-flush_at}
use Rattle.ov_lanes.proofs.desk.Desk.flush_each.Goals as goal

pub loop-at-init : goal.loop-at-init
loop-at-init g c = record {
  flushes = flushes_none g.K.Keeper.is_honest c.args.self.now;
  fewer = omega arith;
  flushed = λ quiet j l low is. absurd (omega (arith, low));
}

pub loop-at-preserved : goal.loop-at-preserved
loop-at-preserved g c =
    let was = c.loop-at.invariant in let now = c.flush_at.ensures in
    let ls = c.args.self.now.lanes.items in let ms = c.loop-at.self.lanes.items in let ns = c.flush_at.new.self.lanes.items in
    record {
      flushes = flushes_along g.K.Keeper.is_honest c.args.self.now c.loop-at.self c.flush_at.new.self was.flushes now.flushes;
      fewer = fewer_then c.loop-at.any c.if-flush_at.any c.flush_at.result (unmarked ls) (unmarked ms) (unmarked ns) was.fewer now.fewer (elim c.if-flush_at.branch [
        | then-flush_at w ↦ inl (w.if-flush_at.true, w.any-is)
        | else-flush_at w ↦ inr (w.if-flush_at.false, w.any-is)
      ]);
      flushed = λ quiet. elim c.if-flush_at.branch [
        | then-flush_at w ↦ absurd (false≢true (sym quiet ∙ w.any-is))
        | else-flush_at w ↦ now.flushed w.if-flush_at.false (was.flushed (sym w.any-is ∙ quiet))
      ];
    }

pub returns-clause-flushed : goal.returns-clause-flushed
returns-clause-flushed g c quiet = flushed_all c.loop-at.self.core c.loop-at.self.lanes.items c.loop-at.at (search rules) (c.loop-at.invariant.flushed quiet)
