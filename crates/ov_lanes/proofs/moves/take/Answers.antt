use Rattle.std.proofs.Common.{◌≡◌, ℕ, ◌++◌, [], ◌∷◌, refl, ap, subst, ◌∙◌}
use Rattle.rtrb.specs.Ring.{sent, received}
use Rattle.ov_lanes.specs.Entering.{EntersItem}
use Rattle.ov_lanes.proofs.Entering.{overruns_none, enters_item}
use Rattle.ov_lanes.proofs.Moving.{moves_item}
use Rattle.ov_lanes.proofs.Single.{moves_as, flushing_of}
use Rattle.ov_lanes.proofs.PlaceLaws.{looked_moves}
use Rattle.ov_lanes.proofs.Steady.{steady_none, item_next}
use Rattle.ov_lanes.proofs.moves.take.Goals as goal

pub returns-in_default-clause-moves : goal.returns-in_default-clause-moves
returns-in_default-clause-moves g c first since fits =
    looked_moves c.args.moment since c.args.lane.now _ (c.in_default.ensures.empty.0, refl, refl, refl, refl, refl) fits

pub returns-in_default-clause-taken : goal.returns-in_default-clause-taken
returns-in_default-clause-taken g c = (refl, (c.in_default.ensures.empty.0, refl, refl, refl, refl, refl))

pub returns-in_default-clause-steady : goal.returns-in_default-clause-steady
returns-in_default-clause-steady g c = steady_none g.K.Keeper.is_honest c.args.core.now

pub returns-clause-moves : goal.returns-clause-moves
returns-clause-moves g c first since fits =
    let l = c.args.lane.now in let v = c.flush.new.lane in let w = c.take_item.new.lane in
    let n = l.session.serial in let item = c.in-Ok.item in let items = received l.inbound in
    let same = c.flush.ensures.inbound.2 in
    let s = flushing_of c.args.moment since items _ v same (c.flush.ensures.flushes c.args.moment first since items fits) in
    moves_as c.args.moment since l w w.cause (items ++ item ∷ []) (sent v.outbound) v.marked w.ended
    (record {
      serial = ap (λ k. k.serial) (c.take_item.ensures.same.0 ∙ same);
      cause = refl;
      taken = ap received c.take_item.ensures.rings.1 ∙ (ap received c.flush.ensures.inbound.1 ∙ c.in-Ok.ensures.ok.0);
      puts = ap sent c.take_item.ensures.rings.0;
      is_marked = c.take_item.ensures.same.1;
      is_ended = refl;
    })
    (moves_item c.args.moment since items (sent v.outbound) v.marked v w n (ap (λ k. k.serial) same) s g.D.Draws.draws item c.take_item.ensures.takes)

pub returns-clause-steady : goal.returns-clause-steady
returns-clause-steady g c = record {
  next = item_next c.flush.new.core c.take_item.new.core g.D.Draws.draws c.args.moment c.in-Ok.item c.flush.new.lane c.take_item.new.lane c.take_item.ensures.takes ∙ c.flush.ensures.steady.next;
  honest = λ honest. c.flush.ensures.steady.honest (c.take_item.ensures.honest honest);
}

pub returns-clause-taken : goal.returns-clause-taken
returns-clause-taken g c =
    let l = c.args.lane.now in let v = c.flush.new.lane in let w = c.take_item.new.lane in
    let n = l.session.serial in let item = c.in-Ok.item in
    let ready = c.flush.new.core in let taken = c.take_item.new.core in
    let same = c.flush.ensures.inbound.2 in (
      item,
      ap received c.take_item.ensures.rings.1 ∙ (ap received c.flush.ensures.inbound.1 ∙ c.in-Ok.ensures.ok.0),
      record {
        ready = ready;
        taken = taken;
        before = c.flush.ensures.enters;
        enters = subst (λ (k : ℕ). EntersItem k item ready taken) (ap (λ k. k.serial) same) (enters_item ready taken g.D.Draws.draws c.args.moment item v w c.take_item.ensures.takes);
        after = overruns_none taken taken (λ k. k ≡ n) refl refl;
      },
    )
