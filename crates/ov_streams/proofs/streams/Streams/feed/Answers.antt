use Rattle.std.proofs.Common.{◌≡◌, Some, refl, true, false, sym, rules}
use Rattle.ov_specs.specs.machine.Machine.{is_open}
use Rattle.ov_streams.proofs.Suiting.{was_fed, not_fed, no_cutter, updates_cutter}
use Rattle.ov_streams.proofs.streams.Streams.feed.Goals as goal

pub returns-then-not-is_open-clause-serves : goal.returns-then-not-is_open-clause-serves
returns-then-not-is_open-clause-serves g c =
    let away : is_open c.self.inside.core.state c.args.session ≡ false = search rules in
    rw (← c.self.view_is) (not_fed c.args.session c.args.bytes.now _ _ refl away)

pub returns-in_default-clause-serves : goal.returns-in_default-clause-serves
returns-in_default-clause-serves g c =
    let there : is_open c.self.inside.core.state c.args.session ≡ true = search rules in
    rw (← c.self.view_is) (no_cutter c.args.session c.args.bytes.now _ _ there (sym c.in_default.ensures.value))

pub returns-clause-serves : goal.returns-clause-serves
returns-clause-serves g c =
    let n = c.args.session in
    let after = c.feed_session.new.cutter in
    let there : is_open c.self.inside.core.state n ≡ true = search rules in
    rw (← c.self.view_is) (was_fed n c.args.bytes.now c.in-Some.cutter.now after _ _ (sym c.in-Some.ensures.value)
    (updates_cutter n (Some after) c.self.inside.cutters.entries (c.get_mut.follows.lender after).entries (((c.get_mut.follows.holds after).3 (search rules)).0))
    there (rw c.session_of-owner.ensures at c.feed_session.ensures.enters))
