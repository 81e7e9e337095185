use Rattle.std.proofs.Common.{◌≤◌, [], refl, ap, rules}
use Rattle.ov_history.specs.Entries.{session_in}
use Rattle.ov_core.proofs.Steps.{ticked, has_entered}
use Rattle.ov_specs.specs.machine.Machine.{Tick}
use Rattle.ov_core.proofs.machine.Core.tick_at.Goals as goal

pub returns-clause-ticked : goal.returns-clause-ticked
returns-clause-ticked g c =
    let low : c.self.inside.moment ≤ c.args.moment = search rules in
    rw (← c.self.view_is) (ticked g.K.Keeper.failed g.D.Draws.draws c.self.inside.live c.tick.new.self c.self.inside.moment c.args.moment c.tick.new.attempts.items c.self.inside.history c.push.new.self c.entry_with_choice.result c.self.inside.source
    c.tick.ensures.comes_to low c.push.ensures (rw c.new.ensures.items at c.entry_with_choice.ensures.view))

pub returns-clause-keeps : goal.returns-clause-keeps
returns-clause-keeps g c = rw (← c.self.view_is) (record { entry = c.entry_with_choice.result; kept = c.push.ensures; same_session = ap session_in c.entry_with_choice.ensures.event })

pub invariant_of-self : goal.invariant_of-self
invariant_of-self g c =
    let low : c.self.inside.moment ≤ c.args.moment = search rules in (
      has_entered g.K.Keeper.failed Tick c.self.inside.live c.tick.new.self c.self.inside.moment c.args.moment [] c.tick.new.attempts.items c.tick.ensures.comes_to c.self.inside.history c.push.new.self c.entry_with_choice.result
          low c.push.ensures (rw c.new.ensures.items at c.entry_with_choice.ensures.view) refl c.self.invariant.0,
      c.tick.ensures.comes_to.untried,
    )
