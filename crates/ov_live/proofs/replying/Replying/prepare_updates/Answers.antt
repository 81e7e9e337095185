use Rattle.std.proofs.Common.{◌∙◌, ap, true, false}
use Rattle.ov_stored.specs.Changing.{applied}
use Rattle.ov_live.specs.declared.replying.Audience.{Audience}
use Rattle.ov_live.specs.declared.replying.Replying.{Replying}
use Rattle.ov_live.proofs.Preparings.{session_then, session_refused, no_sessions, sent_to}
use Rattle.ov_live.proofs.replying.Replying.prepare_updates.Goals as goal

pub returns-then-not-prepare_updates_of : goal.returns-then-not-prepare_updates_of
returns-then-not-prepare_updates_of g c =
    let before = c.args.db.now.committed in
    let after = applied c.args.delta.now before in
    let told = c.args.self.now.audience in
    let now = c.loop-session.self in
    sent_to before after told.watchers.now told.sessions.now.open_sessions c.into_iter-session-iterator.result c.args.self.now c.prepare_updates_of.new.self false (c.into_iter-session-iterator.ensures.into_iter_gives ∙ c.serials-session-items.ensures.serials)
    (c.loop-session.invariant.goes_on false c.prepare_updates_of.new.self
    (session_refused before after told.watchers.now now.audience.watchers.now c.in-Some.session.now c.next.new.self c.loop-session.session-iterator now c.prepare_updates_of.new.self c.in-Some.ensures.steps
    (ap (λ (a : Audience). a.watchers.now) c.loop-session.invariant.same) c.if-not-prepare_updates_of.ensures))

pub loop-session-preserved : goal.loop-session-preserved
loop-session-preserved g c =
    let before = c.args.db.now.committed in
    let after = applied c.args.delta.now before in
    let told = c.args.self.now.audience in
    let now = c.loop-session.self in
    record {
      same = ap (λ (r : Replying). r.audience) c.prepare_updates_of.ensures.same ∙ c.loop-session.invariant.same;
      goes_on = λ ok new h.
          c.loop-session.invariant.goes_on ok new
          (session_then before after told.watchers.now now.audience.watchers.now c.in-Some.session.now c.next.new.self c.loop-session.session-iterator now c.prepare_updates_of.new.self new ok c.in-Some.ensures.steps
          (ap (λ (a : Audience). a.watchers.now) c.loop-session.invariant.same) c.if-not-prepare_updates_of.ensures h);
    }

pub returns : goal.returns
returns g c =
    let before = c.args.db.now.committed in
    let after = applied c.args.delta.now before in
    let told = c.args.self.now.audience in
    let now = c.loop-session.self in
    sent_to before after told.watchers.now told.sessions.now.open_sessions c.into_iter-session-iterator.result c.args.self.now now true (c.into_iter-session-iterator.ensures.into_iter_gives ∙ c.serials-session-items.ensures.serials)
    (c.loop-session.invariant.goes_on true now (no_sessions before after told.watchers.now c.loop-session.session-iterator now c.in-None.ensures.steps.0))
