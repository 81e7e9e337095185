use Rattle.std.proofs.Common.{ap, ◌∙◌, inl, refl}
use Rattle.std.specs.Prelude.{option_to_list}
use Rattle.ov_outbox.proofs.Answered.{adds_sent, nothing_sent}
use Rattle.ov_live.proofs.send.send.Goals as goal

pub returns-in_default-clause-posts : goal.returns-in_default-clause-posts
returns-in_default-clause-posts c = λ trees is. nothing_sent c.args.session trees c.args.outbox.now.frames (is ∙ ap option_to_list c.in_default.is)

pub returns-then-push-clause-posts : goal.returns-then-push-clause-posts
returns-then-push-clause-posts c = λ trees is. adds_sent c.args.session c.in-Some.frame trees c.args.outbox.now.frames c.push.new.self.frames (is ∙ ap option_to_list c.in-Some.is) c.if-push.ensures.frames

pub returns-then-push-clause-unasked : goal.returns-then-push-clause-unasked
returns-then-push-clause-unasked c = inl refl

pub returns-in_default-clause-unasked : goal.returns-in_default-clause-unasked
returns-in_default-clause-unasked c = inl refl
