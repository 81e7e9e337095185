use Rattle.std.proofs.Common.{◌≤◌, ap, rules}
use Rattle.ov_history.specs.Entries.{cause_view, session_in}
use Rattle.ov_core.proofs.Steps.{closed, has_closed}
use Rattle.ov_core.proofs.machine.Core.close_open.Goals as goal

pub returns-clause-closes : goal.returns-clause-closes
returns-clause-closes g c =
    let low : c.self.inside.moment ≤ c.args.moment = search rules in
    let there = rw (← c.self.view_is) at c.requires.open in
    rw (← c.self.view_is) (closed g.K.Keeper.failed c.args.session.serial (cause_view c.args.cause) c.self.inside.live c.close.new.self c.self.inside.moment c.args.moment c.close.ensures c.self.inside.history c.push.new.self c.entry_without_choice.result c.self.inside.source low there c.push.ensures c.entry_without_choice.ensures.view)

pub returns-clause-keeps : goal.returns-clause-keeps
returns-clause-keeps g c = rw (← c.self.view_is) (record { entry = c.entry_without_choice.result; kept = c.push.ensures; same_session = ap session_in c.entry_without_choice.ensures.event })

pub invariant_of-self : goal.invariant_of-self
invariant_of-self g c =
    let low : c.self.inside.moment ≤ c.args.moment = search rules in
    let there = rw (← c.self.view_is) at c.requires.open in (
      has_closed g.K.Keeper.failed c.args.session.serial (cause_view c.args.cause) c.self.inside.live c.close.new.self c.self.inside.moment c.args.moment c.close.ensures c.self.inside.history c.push.new.self c.entry_without_choice.result low there c.push.ensures c.entry_without_choice.ensures.view c.self.invariant.0,
      rw c.close.ensures.same c.self.invariant.1,
    )
