use Rattle.std.proofs.Common.{◌≡◌, [], true, false, sym, ◌∙◌, rules}
use Rattle.std.specs.Vec.Iter.{into_iter_items}
use Rattle.std.proofs.lemmas.List.{nil_from_length}
use Rattle.ov_specs.specs.machine.Machine.{is_open}
use Rattle.ov_streams.proofs.Entering.{none_entered, message_entered, ended, all_entered}
use Rattle.ov_streams.proofs.feed.enter_all.Goals as goal

pub loop-message-init : goal.loop-message-init
loop-message-init g c = record {
  there = c.requires;
  honest = λ honest. honest;
  entered = none_entered c.args.moment c.args.session.serial c.args.messages.items _ c.args.core.now c.into_iter-message-iterator.ensures.into_iter_gives.0;
}

pub returns-then-not-is_open-clause-enters : goal.returns-then-not-is_open-clause-enters
returns-then-not-is_open-clause-enters g c =
    let away : is_open c.enter_one.new.core.state c.args.session.serial ≡ false = search rules in
    ended c.args.moment c.args.session.serial c.args.core.now c.loop-message.core c.enter_one.new.core c.args.messages.items (into_iter_items c.loop-message.message-iterator) (into_iter_items c.next.new.self) c.in-Some.message c.in-Some.ensures.steps.0
    c.loop-message.invariant.entered c.enter_one.ensures.enters away

pub loop-message-preserved : goal.loop-message-preserved
loop-message-preserved g c =
    let inv = c.loop-message.invariant in
    let there : is_open c.enter_one.new.core.state c.args.session.serial ≡ true = search rules in
    record {
      there = there;
      honest = λ honest. inv.honest (c.enter_one.ensures.honest honest);
      entered =
          message_entered c.args.moment c.args.session.serial c.args.core.now c.loop-message.core c.enter_one.new.core c.args.messages.items (into_iter_items c.loop-message.message-iterator) (into_iter_items c.next.new.self) c.in-Some.message c.in-Some.ensures.steps.0
          inv.entered c.enter_one.ensures.enters there;
    }

pub returns-clause-enters : goal.returns-clause-enters
returns-clause-enters g c =
    let inv = c.loop-message.invariant in
    let rest = c.loop-message.message-iterator.rest in
    let none : rest.items ≡ [] = nil_from_length rest.items (sym rest.ok.0 ∙ c.in-None.ensures.steps.0) in
    all_entered c.args.moment c.args.session.serial c.args.core.now c.loop-message.core c.args.messages.items (into_iter_items c.loop-message.message-iterator) none inv.entered inv.there
