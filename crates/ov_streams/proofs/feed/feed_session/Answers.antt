use Rattle.std.proofs.Common.{◌≡◌, None, true, false, rules}
use Rattle.ov_specs.specs.machine.Machine.{is_open}
use Rattle.ov_streams.proofs.Bringing.{own_messages, own_closing, at_message, at_fault, at_end}
use Rattle.ov_streams.proofs.feed.feed_session.Goals as goal

pub returns-then-not-is_open-clause-enters : goal.returns-then-not-is_open-clause-enters
returns-then-not-is_open-clause-enters g c = λ stream f.
    let away : is_open c.enter_all.new.core.state c.args.session.serial ≡ false = search rules in
    at_message c.args.moment c.args.session.serial stream c.args.piece.now c.read-messages.result.messages.items c.args.core.now c.enter_all.new.core c.read-messages.new.self c.enter_all.ensures.enters
    c.read-messages.result.fault (c.read-messages.ensures stream f) away

pub returns-in_default-clause-enters : goal.returns-in_default-clause-enters
returns-in_default-clause-enters g c = λ stream f.
    let there : is_open c.enter_all.new.core.state c.args.session.serial ≡ true = search rules in
    let none : c.read-messages.result.fault ≡ None = search rules in
    at_end c.args.moment c.args.session.serial stream c.args.piece.now c.read-messages.result.messages.items c.args.core.now c.enter_all.new.core c.read-messages.new.self c.enter_all.ensures.enters
    (rw none at (c.read-messages.ensures stream f)) there

pub returns-clause-enters : goal.returns-clause-enters
returns-clause-enters g c = λ stream f.
    let there : is_open c.enter_all.new.core.state c.args.session.serial ≡ true = search rules in
    at_fault c.args.moment c.args.session.serial stream c.args.piece.now c.read-messages.result.messages.items c.args.core.now c.enter_all.new.core c.read-messages.new.self c.enter_all.ensures.enters
    c.in-Some.fault (rw c.in-Some.is at (c.read-messages.ensures stream f)) there c.close_at.new.core (rw c.cause_of.ensures at c.close_at.ensures.closes)

pub returns-then-not-is_open-clause-own : goal.returns-then-not-is_open-clause-own
returns-then-not-is_open-clause-own g c = own_messages _ _ _ _ _ c.enter_all.ensures.enters

pub returns-in_default-clause-own : goal.returns-in_default-clause-own
returns-in_default-clause-own g c = own_messages _ _ _ _ _ c.enter_all.ensures.enters

pub returns-clause-own : goal.returns-clause-own
returns-clause-own g c = own_closing _ _ _ _ _ c.enter_all.ensures.enters _ _ c.close_at.ensures.closes
