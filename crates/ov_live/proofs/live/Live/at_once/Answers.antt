use Rattle.std.proofs.Common.{refl}
use Rattle.ov_live.specs.States.{machine_state}
use Rattle.ov_live.proofs.Watching.{monitors-of}
use Rattle.ov_live.proofs.Workings.{answer_of, answered_works, cancel_works}
use Rattle.ov_live.proofs.live.Live.at_once.Goals as goal

pub returns-in-Answer-clause-works : goal.returns-in-Answer-clause-works
returns-in-Answer-clause-works g c = λ moment asked is.
    let old = c.args.self.now in
    let (trees, same, frames) = answer_of (machine_state old moment) c.args.session asked c.in-Answer.frame (rw c.in-Answer.is at is) in
    rw same (answered_works moment c.args.session trees old c.send.result _ refl c.send.ensures.queues (c.send.ensures.posts trees frames))

pub returns-in-Answer-clause-rest : goal.returns-in-Answer-clause-rest
returns-in-Answer-clause-rest g c = record { database = refl; tries = refl; unasked = c.send.ensures.unasked }

pub returns-in-Cancel-clause-works : goal.returns-in-Cancel-clause-works
returns-in-Cancel-clause-works g c = λ moment asked is.
    let (same, text) = rw c.in-Cancel.is at is in
    rw same (cancel_works moment c.args.session c.in-Cancel.id c.in-Cancel.text c.args.self.now c.cancel.result c.cancel.new.self text c.cancel.ensures)

pub returns-in-Monitor-clause-works : goal.returns-in-Monitor-clause-works
returns-in-Monitor-clause-works g c = λ moment asked is.
    let old = c.args.self.now in
    let its = monitors-of c.args.session old.watchers old.sessions.open_sessions c.requires.open in
    let same = rw its at (rw c.in-Monitor.is at is) in
    rw same (c.monitor.ensures.works moment)

pub returns-clause-works : goal.returns-clause-works
returns-clause-works g c = λ moment asked is.
    let old = c.args.self.now in
    let its = monitors-of c.args.session old.watchers old.sessions.open_sessions c.requires.open in
    let same = rw its at (rw c.in-CancelMonitor.is at is) in
    rw same (c.cancel_monitor.ensures.works moment)
