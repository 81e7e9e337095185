use Rattle.std.proofs.Common.{rules, ◌≡◌, ◌++◌, [], ◌∷◌, true, false, ℕ, Bool, Option, Some, inl, refl, ap, subst, ◌∙◌}
use Rattle.std.specs.Prelude.{unwrap_or}
use Rattle.rtrb.specs.Ring.{sent}
use Rattle.ov_order.specs.declared.items.Sent.TheVariants.{End}
use Rattle.ov_history.specs.declared.event.Cause.{Cause}
use Rattle.ov_history.specs.declared.event.Cause.TheVariants.{Memory}
use Rattle.ov_lanes.specs.Since.{course_of}
use Rattle.ov_lanes.specs.Fitting.{FitsCourse}
use Rattle.ov_lanes.specs.Moving.{GivesUp}
use Rattle.ov_lanes.proofs.Entering.{overruns_none, overruns_by, overruns_moved, overruns_along, overruns_given_up}
use Rattle.ov_lanes.proofs.Moving.{flushes_marked, flushes_open, flushes_shut, flushes_given_up}
use Rattle.ov_lanes.proofs.Single.{flushes_as}
use Rattle.ov_lanes.proofs.Steady.{steady_none, moves_next, gives_up_next}
use Rattle.ov_lanes.proofs.Flushing.{quiet_marked, quiet_moved, gives_up_now, flushed_open}
use Rattle.ov_lanes.proofs.moves.flush.Goals as goal

pub returns-then-lane-clause-flushes : goal.returns-then-lane-clause-flushes
returns-then-lane-clause-flushes g c at first since items fits =
    let l = c.args.lane.now in let n = l.session.serial in
    let f = subst (λ (b : Bool). FitsCourse (course_of since n) l.cause items (sent l.outbound) b l.ended) c.if-lane.true fits in
    flushes_as at since l l l.cause items (sent l.outbound) true l.ended refl refl refl c.if-lane.true refl
    (flushes_marked at n since l.cause items (sent l.outbound) l.ended f)

pub returns-then-lane-clause-gives_up : goal.returns-then-lane-clause-gives_up
returns-then-lane-clause-gives_up g c = quiet_marked c.args.core.now c.args.lane.now c.if-lane.true

pub returns-then-not-move_frames-clause-flushes : goal.returns-then-not-move_frames-clause-flushes
returns-then-not-move_frames-clause-flushes g c at first since items fits =
    let l = c.args.lane.now in let n = l.session.serial in
    let m = c.move_frames.new.lane in let v = c.give_up.new.lane in let w = c.mark.new.lane in
    let mid = c.move_frames.new.core in let new = c.give_up.new.core in
    let e = c.if-not-move_frames.ensures in
    let f = subst (λ (b : Bool). FitsCourse (course_of since n) l.cause items (sent l.outbound) b l.ended) c.if-lane.false fits in
    let gives : GivesUp n mid new l.cause v.cause =
    subst (λ (k : ℕ). GivesUp k mid new l.cause v.cause) (ap (λ s. s.serial) e.inbound.2)
    (subst (λ (k : Option Cause). GivesUp m.session.serial mid new k v.cause) e.cause c.give_up.ensures.gives_up) in
    flushes_as at since l w (Some (unwrap_or v.cause Memory)) items (sent m.outbound ++ End ∷ []) true l.ended
    (ap (λ s. s.serial) (c.mark.ensures.inbound.2 ∙ (c.give_up.ensures.inbound.2 ∙ e.inbound.2)))
    c.mark.ensures.cause
    (c.mark.ensures.put ∙ ap (λ (k : _). sent k ++ End ∷ []) c.give_up.ensures.outbound)
    c.mark.ensures.marked
    (c.mark.ensures.inbound.3 ∙ (c.give_up.ensures.inbound.3 ∙ e.inbound.3))
    (flushes_given_up at n since l.cause items (sent l.outbound) (sent m.outbound) l.ended f new v.cause e.moves gives)

pub returns-then-not-move_frames-clause-gives_up : goal.returns-then-not-move_frames-clause-gives_up
returns-then-not-move_frames-clause-gives_up g c = gives_up_now c.args.core.now c.give_up.new.core c.args.lane.now c.mark.new.lane c.if-lane.false c.mark.ensures.marked

pub returns-then-not-is_open-clause-flushes : goal.returns-then-not-is_open-clause-flushes
returns-then-not-is_open-clause-flushes g c at first since items fits =
    let l = c.args.lane.now in let n = l.session.serial in
    let m = c.move_frames.new.lane in let w = c.mark-then-not-is_open.new.lane in
    let e = c.if-not-move_frames.ensures in
    let f = subst (λ (b : Bool). FitsCourse (course_of since n) l.cause items (sent l.outbound) b l.ended) c.if-lane.false fits in
    flushes_as at since l w (Some (unwrap_or l.cause Memory)) items (sent m.outbound ++ End ∷ []) true l.ended
    (ap (λ s. s.serial) (c.mark-then-not-is_open.ensures.inbound.2 ∙ e.inbound.2))
    (c.mark-then-not-is_open.ensures.cause ∙ ap (λ (k : Option Cause). Some (unwrap_or k Memory)) e.cause)
    c.mark-then-not-is_open.ensures.put
    c.mark-then-not-is_open.ensures.marked
    (c.mark-then-not-is_open.ensures.inbound.3 ∙ e.inbound.3)
    (flushes_shut at n since l.cause items (sent l.outbound) (sent m.outbound) l.ended f e.moves (search rules))

pub returns-then-not-is_open-clause-gives_up : goal.returns-then-not-is_open-clause-gives_up
returns-then-not-is_open-clause-gives_up g c =
    let l = c.args.lane.now in let m = c.move_frames.new.lane in
    quiet_moved l.session.serial c.args.core.now c.move_frames.new.core (sent l.outbound) (sent m.outbound) l c.mark-then-not-is_open.new.lane c.if-not-move_frames.ensures.moves c.if-lane.false (inl c.mark-then-not-is_open.ensures.marked)

pub returns-else-not-is_open-clause-flushes : goal.returns-else-not-is_open-clause-flushes
returns-else-not-is_open-clause-flushes g c at first since items fits =
    let l = c.args.lane.now in let n = l.session.serial in
    let m = c.move_frames.new.lane in
    let e = c.if-not-move_frames.ensures in
    let f = subst (λ (b : Bool). FitsCourse (course_of since n) l.cause items (sent l.outbound) b l.ended) c.if-lane.false fits in
    flushes_as at since l m l.cause items (sent m.outbound) false l.ended
    (ap (λ s. s.serial) e.inbound.2)
    e.cause
    refl
    e.unmarked
    e.inbound.3
    (flushes_open at n since l.cause items (sent l.outbound) (sent m.outbound) l.ended f e.moves (search rules))

pub returns-else-not-is_open-clause-gives_up : goal.returns-else-not-is_open-clause-gives_up
returns-else-not-is_open-clause-gives_up g c =
    let l = c.args.lane.now in let m = c.move_frames.new.lane in
    let e = c.if-not-move_frames.ensures in
    quiet_moved l.session.serial c.args.core.now c.move_frames.new.core (sent l.outbound) (sent m.outbound) l m e.moves c.if-lane.false
    (flushed_open l.session.serial c.args.core.now c.move_frames.new.core (sent l.outbound) (sent m.outbound) m e.moves (ap (λ s. s.serial) e.inbound.2) (search rules))

pub returns-then-lane-clause-steady : goal.returns-then-lane-clause-steady
returns-then-lane-clause-steady g c = steady_none g.K.Keeper.is_honest c.args.core.now

pub returns-then-not-move_frames-clause-steady : goal.returns-then-not-move_frames-clause-steady
returns-then-not-move_frames-clause-steady g c =
    let l = c.args.lane.now in let m = c.move_frames.new.lane in let e = c.if-not-move_frames.ensures in
    record {
      next = gives_up_next m.session.serial m.cause c.give_up.new.lane.cause c.give_up.ensures.gives_up ∙ moves_next l.session.serial false (sent l.outbound) (sent m.outbound) e.moves;
      honest = λ honest. e.honest (c.give_up.ensures.honest honest);
    }

pub returns-then-not-is_open-clause-steady : goal.returns-then-not-is_open-clause-steady
returns-then-not-is_open-clause-steady g c =
    let l = c.args.lane.now in
    record { next = moves_next l.session.serial true (sent l.outbound) (sent c.move_frames.new.lane.outbound) c.if-not-move_frames.ensures.moves; honest = c.if-not-move_frames.ensures.honest }

pub returns-else-not-is_open-clause-steady : goal.returns-else-not-is_open-clause-steady
returns-else-not-is_open-clause-steady g c =
    let l = c.args.lane.now in
    record { next = moves_next l.session.serial true (sent l.outbound) (sent c.move_frames.new.lane.outbound) c.if-not-move_frames.ensures.moves; honest = c.if-not-move_frames.ensures.honest }

pub returns-then-lane-clause-enters : goal.returns-then-lane-clause-enters
returns-then-lane-clause-enters g c = let core = c.args.core.now in overruns_none core core (λ n. n ≡ c.args.lane.now.session.serial) refl refl

pub returns-then-not-move_frames-clause-enters : goal.returns-then-not-move_frames-clause-enters
returns-then-not-move_frames-clause-enters g c =
    let n = c.args.lane.now.session.serial in let l = c.args.lane.now in let m = c.move_frames.new.lane in let e = c.if-not-move_frames.ensures in
    let old = c.args.core.now in let mid = c.move_frames.new.core in let new = c.give_up.new.core in
    overruns_along old mid new (λ k. k ≡ n)
    (overruns_moved old mid (λ k. k ≡ n) n false (sent l.outbound) (sent m.outbound) e.moves)
    (overruns_by mid new (λ k. k ≡ m.session.serial) (λ k. k ≡ n) (λ k is. is ∙ ap (λ s. s.serial) e.inbound.2)
    (overruns_given_up m.session.serial mid new m.cause c.give_up.new.lane.cause c.give_up.ensures.gives_up))

pub returns-then-not-is_open-clause-enters : goal.returns-then-not-is_open-clause-enters
returns-then-not-is_open-clause-enters g c =
    let l = c.args.lane.now in let n = l.session.serial in
    overruns_moved c.args.core.now c.move_frames.new.core (λ k. k ≡ n) n true (sent l.outbound) (sent c.move_frames.new.lane.outbound) c.if-not-move_frames.ensures.moves

pub returns-else-not-is_open-clause-enters : goal.returns-else-not-is_open-clause-enters
returns-else-not-is_open-clause-enters g c =
    let l = c.args.lane.now in let n = l.session.serial in
    overruns_moved c.args.core.now c.move_frames.new.core (λ k. k ≡ n) n true (sent l.outbound) (sent c.move_frames.new.lane.outbound) c.if-not-move_frames.ensures.moves
