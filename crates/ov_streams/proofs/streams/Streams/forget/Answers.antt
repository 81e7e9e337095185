use Rattle.std.proofs.Common.{◌≡◌, None, false, rules}
use Rattle.ov_specs.specs.machine.Machine.{is_open}
use Rattle.ov_streams.proofs.Suiting.{forgotten, updates_cutter, serves_none, over}
use Rattle.ov_streams.proofs.streams.Streams.forget.Goals as goal
use Rattle.ov_streams.proofs.streams.Streams.forget.Goals.{in-Some-1, in-None-1}

pub returns-then-not-is_open-clause-serves : goal.returns-then-not-is_open-clause-serves
returns-then-not-is_open-clause-serves g c =
    let n = c.args.session in
    let away : is_open c.self.inside.core.state n ≡ false = search rules in
    let updates = updates_cutter n None c.self.inside.cutters.entries c.remove.new.self.entries c.remove.ensures.updates.0 in
    let gone = forgotten n (over c.self.inside.core c.self.inside.cutters.entries) c.remove.new.self.entries updates away in
    rw (← c.self.view_is) (elim c.match-remove.branch [ in-Some-1 w ↦ rw w.self-is gone | in-None-1 w ↦ rw w.self-is gone ])

pub returns-else-not-is_open-clause-serves : goal.returns-else-not-is_open-clause-serves
returns-else-not-is_open-clause-serves g c = serves_none c.args.self.now
