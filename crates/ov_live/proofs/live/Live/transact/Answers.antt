use Rattle.std.proofs.Common.{subst, ◌∙◌, arith}
use Rattle.serde_json.specs.Data.{Items}
use Rattle.ov_specs.specs.locks.Queues.{owns}
use Rattle.ov_specs.specs.operations.Transaction.{transaction}
use Rattle.ov_history.specs.Entries.{listed_of}
use Rattle.ov_live.specs.Handling.{IsTrial}
use Rattle.ov_live.specs.States.{machine_state, machine_sessions}
use Rattle.ov_live.specs.declared.attempt.Trial.TheVariants.{Done}
use Rattle.ov_specs.specs.machine.Machine as spec
use Rattle.ov_live.proofs.Trying.{rises_by_one}
use Rattle.ov_live.proofs.Workings.{request, trial_state, nothing_drawn, trial_works, wait_works, wait_asks, wait_rest}
use Rattle.ov_live.proofs.live.Live.transact.Goals as goal

pub returns-in_default-clause-works : goal.returns-in_default-clause-works
returns-in_default-clause-works g c =
    rw c.out_of_memory.ensures (nothing_drawn c.args.moment c.args.session (spec.Transact c.args.id c.args.operations) c.args.self.now c.new.result.items c.new.ensures.items)

pub returns-in-Done-clause-works : goal.returns-in-Done-clause-works
returns-in-Done-clause-works g c =
    let old = c.args.self.now in
    let tried = subst (λ (ops : Items). IsTrial (request (machine_sessions old.watchers old.sessions.open_sessions) c.args.session c.args.id (transaction old.database.schema old.database.committed (owns old.outbox.queues c.args.session) c.in-Ok.txn.draws 0 ops)) (trial_state old.database old.outbox.frames) (Done c.in-Done.outcome) (trial_state c.try_once.new.db c.try_once.new.outbox.frames)) c.in-Ok.ensures.operations c.in-Done.ensures.tried in
    rw c.into_draws.ensures (trial_works c.args.moment c.args.session c.args.id c.in-Ok.txn.draws c.args.operations old c.in-Ok.ensures.count c.try_once.new.db c.try_once.new.outbox c.try_once.new.tries c.in-Done.ensures.queues c.in-Done.outcome tried)

pub returns-in-Blocked-clause-works : goal.returns-in-Blocked-clause-works
returns-in-Blocked-clause-works g c =
    let e = c.in-Blocked.ensures in
    let tried = rw c.in-Ok.ensures.operations at e.tried in
    let waits = rw (tried.1, c.in-Ok.ensures.operations) at c.wait.ensures.waits in
    rw c.wait.ensures.draws (wait_works c.args.moment c.args.session c.args.id c.in-Ok.txn.draws c.args.operations c.args.self.now c.in-Ok.ensures.count c.try_once.new.outbox c.try_once.new.tries c.in-Blocked.timeout c.wait.result.outcome c.wait.new.self
    e.queues tried.2 tried.0 waits)

pub returns-in-Blocked-clause-asks : goal.returns-in-Blocked-clause-asks
returns-in-Blocked-clause-asks g c = rw (← c.in-Blocked.ensures.tried.1) (wait_asks g.K.Keeper.failed (spec.arrived (machine_state (record c.args.self.now { database = c.try_once.new.db; outbox = c.try_once.new.outbox; tries = c.try_once.new.tries }) c.args.moment) c.args.session c.args.id c.in-Ok.txn.draws c.in-Ok.txn.operations) c.in-Blocked.timeout
    (record c.args.self.now { database = c.try_once.new.db; outbox = c.try_once.new.outbox; tries = c.try_once.new.tries }) c.wait.result.outcome c.wait.new.self c.wait.ensures.waits)

pub returns-in_default-clause-tries : goal.returns-in_default-clause-tries
returns-in_default-clause-tries g c = rw c.out_of_memory.ensures (omega arith, omega arith)

pub returns-in-Done-clause-tries : goal.returns-in-Done-clause-tries
returns-in-Done-clause-tries g c = rises_by_one (listed_of c.in-Done.outcome) c.args.self.now.tries c.try_once.new.tries c.in-Done.ensures.counted

pub returns-in-Blocked-clause-tries : goal.returns-in-Blocked-clause-tries
returns-in-Blocked-clause-tries g c =
    let mid = record c.args.self.now { database = c.try_once.new.db; outbox = c.try_once.new.outbox; tries = c.try_once.new.tries } in
    let rest = wait_rest (spec.arrived (machine_state mid c.args.moment) c.args.session c.args.id c.in-Ok.txn.draws c.in-Ok.txn.operations) c.in-Blocked.timeout mid c.wait.result.outcome c.wait.new.self c.wait.ensures.waits in
    rises_by_one (listed_of c.wait.result.outcome) c.args.self.now.tries c.wait.new.self.tries (rest.1 ∙ c.in-Blocked.ensures.counted)
