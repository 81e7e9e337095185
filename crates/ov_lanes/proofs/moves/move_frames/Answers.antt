use Rattle.std.proofs.Common.{rules, ◌++◌, [], ◌∷◌, length, refl, sym, ap, subst, ◌∙◌, arith, append-nil}
use Rattle.rtrb.specs.Ring.{sent}
use Rattle.ov_lanes.proofs.Courses.{hands_none, hands_more}
use Rattle.ov_lanes.proofs.Fitting.{framed-more}
use Rattle.ov_lanes.proofs.moves.move_frames.Goals as goal

pub loop-frame-init : goal.loop-frame-init
loop-frame-init g c =
    ([], hands_none c.args.lane.now.session.serial c.args.core.now, sym (append-nil (sent c.args.lane.now.outbound)), search rules, refl, refl, refl, refl, c.requires, λ honest. honest)

pub returns-then-not-has_room-clause-moves : goal.returns-then-not-has_room-clause-moves
returns-then-not-has_room-clause-moves g c =
    let was = c.loop-frame.invariant in let frame = c.in-Some.frame in
    let n = c.args.lane.now.session.serial in
    record {
      frames = was.0 ++ frame ∷ [];
      moved = was.0;
      hands = hands_more n c.loop-frame.lane.session.serial (ap (λ s. s.serial) was.5) was.0 frame c.args.core.now c.loop-frame.core c.next_frame.new.self was.1 c.in-Some.ensures.handed c.in-Some.ensures.oldest c.in-Some.ensures.others c.in-Some.ensures.same;
      puts = c.slots-has_room.ensures.looked.1 ∙ was.2;
      all = ((frame, refl), omega (arith, c.loop-frame.lane.places, c.slots-has_room.ensures.looked.2, c.slots-has_room.ensures.value, c.if-not-has_room.true, ap length c.slots-has_room.ensures.looked.1));
    }

pub loop-frame-preserved : goal.loop-frame-preserved
loop-frame-preserved g c =
    let was = c.loop-frame.invariant in let frame = c.in-Some.frame in
    let n = c.args.lane.now.session.serial in (
      was.0 ++ frame ∷ [],
      hands_more n c.loop-frame.lane.session.serial (ap (λ s. s.serial) was.5) was.0 frame c.args.core.now c.loop-frame.core c.next_frame.new.self was.1 c.in-Some.ensures.handed c.in-Some.ensures.oldest c.in-Some.ensures.others c.in-Some.ensures.same,
      framed-more (sent c.args.lane.now.outbound) (sent c.slots-has_room.new.self) (sent c.push_reserved.new.self) was.0 frame (c.slots-has_room.ensures.looked.1 ∙ was.2) c.push_reserved.ensures.sent.0,
      search rules,
      was.4,
      was.5,
      was.6,
      was.7,
      was.8,
      λ honest. was.9 (subst (λ core. g.K.Keeper.is_honest core.keeper) c.in-Some.ensures.same honest),
    )
