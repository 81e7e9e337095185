use Rattle.std.proofs.Common.{◌≡◌, ◌≤◌, ◌∙◌, length, true, false, rules, ap, sym, arith}
use Rattle.std.proofs.lemmas.List.{length-map}
use Rattle.ov_history.specs.Entries.{session_in}
use Rattle.ov_specs.specs.machine.Machine.{Take, is_open}
use Rattle.ov_live.specs.States.{machine_state, machine_sessions}
use Rattle.ov_live.proofs.FewWaiting.{history_few, has_room}
use Rattle.ov_core.proofs.Steps.{took, has_entered, entered_as, closed_for_memory}
use Rattle.ov_live.proofs.Watching.{any-serial}
use Rattle.ov_core.proofs.machine.Core.take.Goals as goal
use Rattle.ov_core.proofs.machine.Core.take.Goals.{then-is_open, else-is_open}

pub take-draws-requires : goal.take-draws-requires
take-draws-requires g c =
    let live = c.self.inside.live in
    let kept = c.self.invariant.0 in
    let there : is_open (machine_state live c.args.moment) c.args.session.serial ≡ true = search rules in
    let few = history_few kept.schema kept.database kept.history _ kept.legal in
    let all : length (machine_sessions live.watchers live.sessions.open_sessions) ≡ length live.sessions.open_sessions = simp length-map in
    record {
      untried = c.self.invariant.1;
      «open» = there;
      none = search rules;
      room = search rules;
      waits = (
        c.args.received,
        c.into_parts-incoming.ensures.incoming,
        λ id operations is. omega (
          arith,
          has_room (machine_state live c.args.moment) c.args.session.serial c.args.received id operations (record { of_each = few.of_each; are_open = few.are_open }) (omega (arith, all, c.shows_few.ensures)) there is,
          ap length c.self.invariant.1,
        ),
      );
    }

pub returns-in_default-clause-steps : goal.returns-in_default-clause-steps
returns-in_default-clause-steps g c = closed_for_memory _ _ _ _ _ _ c.close_open.ensures.closes

pub returns-clause-steps : goal.returns-clause-steps
returns-clause-steps g c =
    let low : c.self.inside.moment ≤ c.args.moment = search rules in
    let comes = c.take-draws.ensures.comes_to c.args.received c.into_parts-incoming.ensures.incoming in
    let entry = entered_as c.args.moment c.args.session.serial c.args.received _ c.take-draws.result.items _ c.entry_with_choice.result c.entry_with_choice.ensures.view c.into_parts-incoming.ensures.text in
    elim c.if-is_open.branch [
      | then-is_open w ↦ rw (w.result-is, ← c.self.view_is)
          (took g.K.Keeper.failed g.D.Draws.draws c.args.session.serial c.args.received c.self.inside.live c.take-draws.new.self c.self.inside.moment c.args.moment c.take-draws.result.items c.take-draws.new.attempts.items c.self.inside.history c.push.new.self c.entry_with_choice.result
          c.self.inside.source c.take-draws.new.source true comes low c.push.ensures entry c.take-draws.ensures.drawn c.take-draws.ensures.uuids (any-serial c.take-draws.new.self.watchers c.args.session.serial c.take-draws.new.self.sessions.open_sessions ∙ (sym c.is_open-2.ensures ∙ w.if-is_open.true)))
      | else-is_open w ↦ rw (w.result-is, ← c.self.view_is)
          (took g.K.Keeper.failed g.D.Draws.draws c.args.session.serial c.args.received c.self.inside.live c.take-draws.new.self c.self.inside.moment c.args.moment c.take-draws.result.items c.take-draws.new.attempts.items c.self.inside.history c.push.new.self c.entry_with_choice.result
          c.self.inside.source c.take-draws.new.source false comes low c.push.ensures entry c.take-draws.ensures.drawn c.take-draws.ensures.uuids (any-serial c.take-draws.new.self.watchers c.args.session.serial c.take-draws.new.self.sessions.open_sessions ∙ (sym c.is_open-2.ensures ∙ w.if-is_open.false)))
    ]

pub returns-clause-keeps : goal.returns-clause-keeps
returns-clause-keeps g c =
    let same = ap session_in c.entry_with_choice.ensures.event in
    elim c.if-is_open.branch [
      | then-is_open w ↦ rw (w.result-is, ← c.self.view_is) (record { entry = c.entry_with_choice.result; kept = c.push.ensures; same_session = same })
      | else-is_open w ↦ rw (w.result-is, ← c.self.view_is) (record { entry = c.entry_with_choice.result; kept = c.push.ensures; same_session = same })
    ]

pub invariant_of-self : goal.invariant_of-self
invariant_of-self g c =
    let low : c.self.inside.moment ≤ c.args.moment = search rules in
    let comes = c.take-draws.ensures.comes_to c.args.received c.into_parts-incoming.ensures.incoming in
    let entry = entered_as c.args.moment c.args.session.serial c.args.received _ c.take-draws.result.items _ c.entry_with_choice.result c.entry_with_choice.ensures.view c.into_parts-incoming.ensures.text in (
      has_entered g.K.Keeper.failed (Take c.args.session.serial c.args.received) c.self.inside.live c.take-draws.new.self c.self.inside.moment c.args.moment c.take-draws.result.items c.take-draws.new.attempts.items comes c.self.inside.history c.push.new.self c.entry_with_choice.result
          low c.push.ensures entry c.take-draws.ensures.uuids c.self.invariant.0,
      comes.untried,
    )
