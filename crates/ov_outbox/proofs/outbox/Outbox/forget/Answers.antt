use Rattle.std.proofs.Common.{sym, ap, ◌∙◌, length}
use Rattle.std.proofs.lemmas.Bool.{eq-eqb, false≢true}
use Rattle.ov_outbox.proofs.Waiting.{no_waits, no_requests}
use Rattle.ov_outbox.proofs.Rooms.{given_up-room}
use Rattle.ov_outbox.proofs.outbox.Outbox.forget.Goals as goal
use Rattle.ov_outbox.proofs.outbox.Outbox.forget.Goals.{else-is_empty-via-then-is_empty+else-requests-eq0, else-is_empty-via-else-is_empty}

pub invariant_of-self : goal.invariant_of-self
invariant_of-self c = (
  given_up-room c.args.session c.self.inside.locks.0 c.self.inside.frames c.drop_queue.new.self c.self.invariant.0
      (no_waits c.args.session c.self.inside.locks.0 (sym c.requests.ensures ∙ c.if-requests-eq0.true))
      c.drop_queue.ensures.places,
  c.self.invariant.1,
)

pub returns-else-is_empty-clause-gone : goal.returns-else-is_empty-clause-gone
returns-else-is_empty-clause-gone c = λ out nothing.
    elim c.else-is_empty.branch [
      | else-is_empty-via-then-is_empty+else-requests-eq0 w ↦
          absurd (w.if-requests-eq0.false (w.requests.ensures ∙ no_requests c.args.session c.self.inside.locks.0 c.shows_order.ensures (rw (← c.self.view_is) at out)))
      | else-is_empty-via-else-is_empty w ↦ absurd (false≢true (sym w.if-is_empty.false ∙ (c.is_empty.ensures ∙ eq-eqb _ 0 (ap length (rw (← c.self.view_is) at nothing)))))
    ]
