use Rattle.std.proofs.Common.{sym, subst, ◌∙◌}
use Rattle.std.proofs.lemmas.List.{nil_from_length}
use Rattle.ov_outbox.proofs.Releasing.{IsReleasing, posts_sent, released}
use Rattle.ov_outbox.proofs.prepared.Prepared.release.Goals as goal

pub returns-clause-all : goal.returns-clause-all
returns-clause-all c =
    let all = c.self.inside.frames.items in
    let first = c.args.queues.now in
    let now = c.loop-session.queues in
    let none = nil_from_length c.loop-session.frames.items (sym c.loop-session.frames.ok.0 ∙ c.in_default.ensures.cases.0) in
    rw (← c.self.view_is) (released all first now (subst (λ left. IsReleasing all left first now) none c.loop-session.invariant))

pub returns-clause-posts : goal.returns-clause-posts
returns-clause-posts c =
    let all = c.self.inside.frames.items in
    let first = c.args.queues.now in
    let now = c.loop-session.queues in
    let none = nil_from_length c.loop-session.frames.items (sym c.loop-session.frames.ok.0 ∙ c.in_default.ensures.cases.0) in
    rw (← c.self.view_is) (posts_sent all first now (released all first now (subst (λ left. IsReleasing all left first now) none c.loop-session.invariant)))
