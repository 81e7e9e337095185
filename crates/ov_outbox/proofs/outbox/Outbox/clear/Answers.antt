use Rattle.std.proofs.Common.{sym, ◌∙◌}
use Rattle.ov_outbox.proofs.Waiting.{no_waits, no_requests}
use Rattle.ov_outbox.proofs.Rooms.{given_up-room}
use Rattle.ov_outbox.proofs.outbox.Outbox.clear.Goals as goal

pub invariant_of-self : goal.invariant_of-self
invariant_of-self c = (
  given_up-room c.args.session c.self.inside.locks.0 c.self.inside.frames c.drop_queue.new.self c.self.invariant.0
      (no_waits c.args.session c.self.inside.locks.0 (sym c.requests.ensures ∙ c.if-requests-eq0.true))
      c.drop_queue.ensures.places,
  c.self.invariant.1,
)

pub returns-else-requests-eq0-clause-gone : goal.returns-else-requests-eq0-clause-gone
returns-else-requests-eq0-clause-gone c = λ out.
    absurd (c.if-requests-eq0.false (c.requests.ensures ∙ no_requests c.args.session c.self.inside.locks.0 c.shows_order.ensures (rw (← c.self.view_is) at out)))
