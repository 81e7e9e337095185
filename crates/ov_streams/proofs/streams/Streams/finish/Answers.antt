use Rattle.std.proofs.Common.{◌≡◌, refl, sym, true, false, rules}
use Rattle.ov_specs.specs.machine.Machine.{is_open}
use Rattle.ov_streams.proofs.Suiting.{finished, not_finished}
use Rattle.ov_streams.proofs.streams.Streams.finish.Goals as goal
use Rattle.ov_streams.proofs.Entering.{it_closed}

pub returns-then-is_open-clause-serves : goal.returns-then-is_open-clause-serves
returns-then-is_open-clause-serves g c =
    let there : is_open c.self.inside.core.state c.args.session ≡ true = search rules in
    rw (← c.self.view_is) (finished c.args.session _ _ refl there (rw c.session_of-session.ensures at (it_closed c.close.result _ _ _ c.close.ensures.closes (sym c.if-is_open.ensures))))

pub returns-else-is_open-clause-serves : goal.returns-else-is_open-clause-serves
returns-else-is_open-clause-serves g c =
    let away : is_open c.self.inside.core.state c.args.session ≡ false = search rules in
    rw (← c.self.view_is) (not_finished c.args.session _ _ refl away)
