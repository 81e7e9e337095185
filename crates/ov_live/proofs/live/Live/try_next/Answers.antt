use Rattle.std.proofs.Common.{◌≡◌, ◌+◌, ◌++◌, ◌∷◌, [], List, length, true, false, ap, rules, arith}
use Rattle.std.proofs.lemmas.List.{length-append}
use Rattle.ov_sessions.specs.Sessions.{has_serial}
use Rattle.ov_specs.specs.machine.Machine.{Outstanding}
use Rattle.ov_requests.specs.Waiting.{many}
use Rattle.ov_live.proofs.Settlings.{skipped, blocked, done, after_few, after_falls, listed_few}
use Rattle.ov_live.proofs.live.Live.try_next.Goals as goal

pub returns-then-not-is_open-clause-goes_on : goal.returns-then-not-is_open-clause-goes_on
returns-then-not-is_open-clause-goes_on g c = λ first from x.
    let (rest, next) = c.in-Some.ensures in
    let away : has_serial c.in-Some.next.now.session c.args.self.now.sessions.open_sessions ≡ false = search rules in
    rw (c.drop_next.ensures.next c.in-Some.next.now rest next) (skipped g.K.Keeper.failed c.args.moment first from.live from.listed c.args.self.now c.args.attempts.now.items c.args.number x c.in-Some.next.now rest next away)

pub returns-in-Blocked-clause-goes_on : goal.returns-in-Blocked-clause-goes_on
returns-in-Blocked-clause-goes_on g c = λ first from x.
    let (rest, next) = c.in-Some.ensures in
    let tried = c.in-Blocked.ensures.tried in
    let there : has_serial c.in-Some.next.now.session c.args.self.now.sessions.open_sessions ≡ true = search rules in
    rw (tried.1, c.in-Blocked.ensures.counted, c.wait_again.ensures.next c.in-Some.next.now rest next)
    (blocked g.K.Keeper.failed c.args.moment first from.live from.listed c.args.self.now c.args.attempts.now.items c.args.number x c.in-Some.next.now rest next there c.try_again.new.outbox c.in-Blocked.timeout c.in-Blocked.ensures.queues tried.2 tried.0)

pub returns-in-Blocked-clause-room : goal.returns-in-Blocked-clause-room
returns-in-Blocked-clause-room g c =
    let (rest, next) = c.in-Some.ensures in
    let w : Outstanding = record c.in-Some.next.now { timeout = c.in-Blocked.timeout } in
    rw (c.wait_again.ensures.next c.in-Some.next.now rest next) (omega (arith, ap (λ (ws : List Outstanding). length ws) next, length-append c.args.self.now.waiting.outstanding (w ∷ []), c.requires.room))

pub returns-in-Blocked-clause-falls : goal.returns-in-Blocked-clause-falls
returns-in-Blocked-clause-falls g c =
    let (rest, next) = c.in-Some.ensures in
    let w : Outstanding = record c.in-Some.next.now { timeout = c.in-Blocked.timeout } in
    let one = ap (λ (ws : List Outstanding). length ws) next in
    let same : length rest + length (c.args.self.now.waiting.outstanding ++ w ∷ []) ≡ many c.args.self.now.waiting = omega (arith, one, length-append c.args.self.now.waiting.outstanding (w ∷ [])) in
    rw (c.wait_again.ensures.next c.in-Some.next.now rest next, same) (omega (arith, one))

pub returns-in-Done-clause-goes_on : goal.returns-in-Done-clause-goes_on
returns-in-Done-clause-goes_on g c = λ first from x.
    let (rest, next) = c.in-Some.ensures in
    let there : has_serial c.in-Some.next.now.session c.args.self.now.sessions.open_sessions ≡ true = search rules in
    let after = rw (c.session-session.ensures, c.in-Done.ensures.counted, c.drop_next-in-Done.ensures.next c.in-Some.next.now rest next) at c.after_try.ensures.after in
    done g.K.Keeper.failed c.args.moment first from.live from.listed c.args.self.now c.args.attempts.now.items c.args.number x c.in-Some.next.now rest next there c.try_again.new.database c.try_again.new.outbox c.in-Done.ensures.queues
    c.in-Done.outcome c.after_try.new.self c.list_attempt.new.attempts.items c.list_attempt.ensures.items after c.in-Done.ensures.tried c.in-Done.ensures.asks c.in-Done.ensures.counts

pub returns-in-Done-clause-room : goal.returns-in-Done-clause-room
returns-in-Done-clause-room g c =
    let (rest, next) = c.in-Some.ensures in
    let one = ap (λ (ws : List Outstanding). length ws) next in
    let after = rw (c.drop_next-in-Done.ensures.next c.in-Some.next.now rest next) at c.after_try.ensures.after in
    let mid = record c.args.self.now { database = c.try_again.new.database; outbox = c.try_again.new.outbox; tries = c.try_again.new.tries; waiting = record c.args.self.now.waiting { untried = rest } } in
    let few = after_few c.session-session.result c.in-Done.outcome mid c.after_try.new.self after in
    omega (arith, few, one, c.requires.room, c.list_attempt.ensures.len, c.list_attempt.ensures.capacity, listed_few c.args.number c.in-Done.outcome)

pub returns-in-Done-clause-falls : goal.returns-in-Done-clause-falls
returns-in-Done-clause-falls g c =
    let (rest, next) = c.in-Some.ensures in
    let one = ap (λ (ws : List Outstanding). length ws) next in
    let after = rw (c.drop_next-in-Done.ensures.next c.in-Some.next.now rest next) at c.after_try.ensures.after in
    let mid = record c.args.self.now { database = c.try_again.new.database; outbox = c.try_again.new.outbox; tries = c.try_again.new.tries; waiting = record c.args.self.now.waiting { untried = rest } } in
    after_falls c.session-session.result c.in-Done.outcome mid c.after_try.new.self (length c.args.self.now.waiting.untried) (many c.args.self.now.waiting) after (omega (arith, one)) (omega (arith, one))
