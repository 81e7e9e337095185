use Rattle.std.proofs.Common.{◌≡◌, ℕ, [], false, sym, ap, subst}
use Rattle.ov_specs.specs.machine.Machine as machine
use Rattle.ov_specs.specs.machine.Machine.{is_open}
use Rattle.ov_outbox.specs.Frames.{waiting_for}
use Rattle.ov_lanes.specs.Since.{HandsOut}
use Rattle.ov_lanes.proofs.Courses.{hands_dropped, closed_once_away}
use Rattle.ov_lanes.proofs.moves.give_up.Goals as goal

pub returns-clause-gives_up : goal.returns-clause-gives_up
returns-clause-gives_up g c =
    let n = c.args.lane.now.session.serial in let m = c.close.new.lane.session.serial in
    let is : m ≡ n = ap (λ s. s.serial) c.close.ensures.inbound.2 in
    let mid = c.close.new.core in let new = c.discard.new.self in
    let away = subst (λ (k : ℕ). is_open mid.state k ≡ false) (sym is) (closed_once_away n machine.Overrun c.args.core.now mid c.args.lane.now.cause c.close.new.lane.cause c.close.ensures.closes) in
    record {
      mid = mid;
      closes = c.close.ensures.closes;
      drops = subst (λ (k : ℕ). HandsOut k (waiting_for k mid.outbox) mid new) is (hands_dropped m mid new (c.discard.ensures.handed away) (c.discard.ensures.none_left away) c.discard.ensures.others c.discard.ensures.same);
      none_left = subst (λ (k : ℕ). waiting_for k new.outbox ≡ []) is (c.discard.ensures.none_left away);
    }
