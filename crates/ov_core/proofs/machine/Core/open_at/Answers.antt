use Rattle.std.proofs.Common.{◌≤◌, ◌∙◌, refl, rules, sym, ap, arith}
use Rattle.ov_sessions.specs.Sessions.{has_no_room}
use Rattle.ov_history.specs.Entries.{session_in}
use Rattle.ov_live.proofs.Asking.{asks_nothing}
use Rattle.ov_core.proofs.Steps.{opened, has_opened, nothing_chosen, entry_of}
use Rattle.ov_live.proofs.Watching.{length-sessions}
use Rattle.ov_specs.specs.machine.Machine.{Open}
use Rattle.ov_core.proofs.machine.Core.open_at.Goals as goal

pub returns-clause-opened : goal.returns-clause-opened
returns-clause-opened g c =
    let low : c.self.inside.moment ≤ c.args.moment = search rules in
    let live = c.self.inside.live in
    let o = c.in-Ok.ensures.opened in
    let place = ap (λ n. has_no_room n live.sessions.next) (length-sessions live.watchers live.sessions.open_sessions) ∙ (sym c.is_full.ensures ∙ c.if-is_full.false) in
    rw (← c.self.view_is) (record {
      entry = entry_of Open (nothing_chosen c.args.moment);
      tells = (refl, o.opens.serial, o.opens.key, place);
      keys = (o.opens.free, rw o.opens.sessions refl);
      moment = refl;
      drawn = refl;
      uuids = refl;
      moves = opened g.K.Keeper.failed c.in-Ok.session live c.open.new.self c.self.inside.moment c.args.moment o c.self.inside.history c.push.new.self c.entry_without_choice.result c.self.inside.source low c.push.ensures c.entry_without_choice.ensures.view;
      asks = asks_nothing _ _ _ refl (rw o.same refl, rw o.same refl) (rw o.same refl);
      tries = rw o.same (omega arith);
      few = rw o.same (omega arith);
    })

pub returns-clause-keeps : goal.returns-clause-keeps
returns-clause-keeps g c = rw (← c.self.view_is) (record { entry = c.entry_without_choice.result; kept = c.push.ensures; same_session = ap session_in c.entry_without_choice.ensures.event })

pub invariant_of-self-2 : goal.invariant_of-self-2
invariant_of-self-2 g c =
    let low : c.self.inside.moment ≤ c.args.moment = search rules in
    let live = c.self.inside.live in
    let o = c.in-Ok.ensures.opened in (
      has_opened g.K.Keeper.failed c.in-Ok.session live c.open.new.self c.self.inside.moment c.args.moment o c.self.inside.history c.push.new.self c.entry_without_choice.result low c.push.ensures c.entry_without_choice.ensures.view c.self.invariant.0,
      rw o.same c.self.invariant.1,
    )
