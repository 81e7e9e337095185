use Rattle.std.proofs.Common.{inl}
use Rattle.ov_lanes.proofs.Courses.{hands_dropped}
use Rattle.ov_lanes.proofs.open.drop_session.Goals as goal

pub returns-then-close-clause-drops : goal.returns-then-close-clause-drops
returns-then-close-clause-drops g c =
    let n = c.args.session.serial in let mid = c.close.new.self in let closes = c.if-close.ensures.closes in
    inl (mid, closes, hands_dropped n mid c.discard.new.self (c.discard.ensures.handed closes.shut) (c.discard.ensures.none_left closes.shut) c.discard.ensures.others c.discard.ensures.same)
