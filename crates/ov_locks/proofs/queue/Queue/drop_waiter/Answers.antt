use Rattle.std.proofs.Common.{◌==◌, not, rules, ap, ◌∙◌}
use Rattle.std.proofs.lemmas.Fn.{filter_same}
use Rattle.ov_locks.specs.Queued.{Queue, without_waiter}
use Rattle.ov_locks.proofs.queue.Queue.drop_waiter.Goals as goal

pub returns : goal.returns
returns c =
    ap (λ ws. (c.self.inside.owner, ws)) (filter_same _ (λ waiter. not (waiter.0 == c.args.session)) _ (λ x b f' k. search rules) _ _ c.retain.ensures.filtered)
    ∙ ap (λ (q : Queue). (q.0, without_waiter c.args.session q.1)) c.self.view_is
