use Rattle.std.proofs.Common.{refl, sym, ◌∙◌, arith}
use Rattle.ov_specs.specs.machine.Machine as spec
use Rattle.ov_live.specs.States.{machine_state}
use Rattle.ov_history.specs.Entries.{listed_of}
use Rattle.ov_live.proofs.Trying.{rises_by_none, undrawn_makes_none}
use Rattle.ov_live.proofs.Watching.{any-serial}
use Rattle.ov_live.proofs.Workings.{nothing_drawn, rest_asks, without_draws}
use Rattle.ov_live.proofs.live.Live.handle.Goals as goal

pub returns-in_default-clause-works : goal.returns-in_default-clause-works
returns-in_default-clause-works g c = λ message stands.
    rw c.out_of_memory.ensures (nothing_drawn c.args.moment c.args.session (spec.work_of (machine_state c.args.self.now c.args.moment) c.args.session message) c.args.self.now c.new.result.items c.new.ensures.items)

pub at_once-requires : goal.at_once-requires
at_once-requires g c = record {
  «open» = sym (any-serial c.args.self.now.watchers c.args.session c.args.self.now.sessions.open_sessions) ∙ c.requires.«open»;
  undrawn = without_draws c.in-Ok.work c.in_default-work.not-Transact;
}

pub transact-requires : goal.transact-requires
transact-requires g c =
    let s = machine_state c.args.self.now c.args.moment in
    let (message, stands, room) = c.requires.waits in
    room c.in-Transact.id c.in-Transact.operations ((rw c.in-Transact.is at c.in-Ok.ensures) s message stands (sym c.schema-schema.ensures) refl)

pub returns-in-Transact-clause-works : goal.returns-in-Transact-clause-works
returns-in-Transact-clause-works g c = λ message stands.
    let s = machine_state c.args.self.now c.args.moment in
    let is = (rw c.in-Transact.is at c.in-Ok.ensures) s message stands (sym c.schema-schema.ensures) refl in
    rw is c.transact.ensures.works

pub returns-in_default-work-clause-works : goal.returns-in_default-work-clause-works
returns-in_default-work-clause-works g c = λ message stands.
    let s = machine_state c.args.self.now c.args.moment in
    let is = c.in-Ok.ensures s message stands (sym c.schema-schema.ensures) refl in
    rw (c.without_draws.ensures.outcome, c.without_draws.ensures.none) (c.at_once.ensures.works c.args.moment (spec.work_of s c.args.session message) is)

pub returns-in_default-clause-tries : goal.returns-in_default-clause-tries
returns-in_default-clause-tries g c = λ message stands. rw c.out_of_memory.ensures (omega arith, omega arith)

pub returns-in-Transact-clause-tries : goal.returns-in-Transact-clause-tries
returns-in-Transact-clause-tries g c = λ message stands.
    let s = machine_state c.args.self.now c.args.moment in
    let is = (rw c.in-Transact.is at c.in-Ok.ensures) s message stands (sym c.schema-schema.ensures) refl in
    rw is c.transact.ensures.tries

pub returns-in_default-work-clause-tries : goal.returns-in_default-work-clause-tries
returns-in_default-work-clause-tries g c = λ message stands.
    let s = machine_state c.args.self.now c.args.moment in
    let asked = spec.work_of s c.args.session message in
    let none = undrawn_makes_none s c.args.session asked c.in-Ok.work (c.in-Ok.ensures s message stands (sym c.schema-schema.ensures) refl) (without_draws c.in-Ok.work c.in_default-work.not-Transact) in
    rw (c.without_draws.ensures.outcome, none) (rises_by_none (listed_of c.at_once.result) c.args.self.now.tries c.at_once.new.self.tries c.at_once.ensures.rest.tries)

pub returns-in_default-work-clause-asks : goal.returns-in_default-work-clause-asks
returns-in_default-work-clause-asks g c = rw c.without_draws.ensures.outcome (rest_asks g.K.Keeper.failed c.args.self.now c.at_once.result c.at_once.new.self c.at_once.ensures.rest)
