use Rattle.std.proofs.Common.{◌≡◌, Bool, true, false, Option, Some, None, not, refl, sym, ap, ◌∙◌}
use Rattle.std.proofs.lemmas.Bool.{ne_eqb, eq-eqb}
use Rattle.std.specs.Prelude.{is_some, is_none}
use Rattle.ov_locks.specs.Queued.{Queue}
use Rattle.ov_locks.proofs.Sessions.{Leaves, waiter-leaves, owner-leaves}
use Rattle.ov_locks.proofs.queues.leave_queue.Goals as goal

none_is : {A : Type 0} (o : Option A) (b : Bool) → is_some o ≡ not b → b ≡ is_none o
none_is None true h = refl
none_is None false h = cc
none_is (Some a) true h = cc
none_is (Some a) false h = refl

stays : (c : goal.Then-owner-session) → Leaves c.args.session c.args.queue.now c.drop_waiter.new.self None false
stays c =
    waiter-leaves c.args.session c.args.queue.now c.drop_waiter.new.self c.drop_waiter.ensures
    (ne_eqb c.args.queue.now.0 c.args.session (λ same. c.if-owner-session.true (c.owner.ensures ∙ ap (λ (q : Queue). q.0) c.drop_waiter.ensures ∙ same)))

goes : (c : goal.After-is_none-is_last) → Leaves c.args.session c.args.queue.now c.promote-next.new.self c.promote-next.result (is_none c.promote-next.result)
goes c =
    owner-leaves c.args.session c.args.queue.now c.drop_waiter.new.self c.promote-next.new.self c.promote-next.result c.drop_waiter.ensures
    (eq-eqb c.args.queue.now.0 c.args.session (sym (c.owner.ensures ∙ ap (λ (q : Queue). q.0) c.drop_waiter.ensures) ∙ c.if-owner-session.false))
    c.promote-next.ensures.waiters c.promote-next.ensures.owner c.promote-next.ensures.none

pub returns-then-owner-session-clause-left : goal.returns-then-owner-session-clause-left
returns-then-owner-session-clause-left c = (stays c).0

pub returns-then-owner-session-clause-told : goal.returns-then-owner-session-clause-told
returns-then-owner-session-clause-told c = (stays c).1

pub returns-clause-left : goal.returns-clause-left
returns-clause-left c = rw (none_is c.promote-next.result c.is_none-is_last.result c.is_none-is_last.ensures) (goes c).0

pub returns-clause-told : goal.returns-clause-told
returns-clause-told c = (goes c).1
