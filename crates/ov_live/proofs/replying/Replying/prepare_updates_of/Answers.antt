use Rattle.std.proofs.Common.{◌∙◌, true, false, arith}
use Rattle.std.proofs.lemmas.List.{nil_from_length}
use Rattle.ov_live.proofs.Preparings.{update_then, update_refused, no_updates, updates_as}
use Rattle.ov_live.proofs.replying.Replying.prepare_updates_of.Goals as goal

pub returns-then-not-prepare_update : goal.returns-then-not-prepare_update
returns-then-not-prepare_update g c =
    updates_as c.args.session c.into_iter-params-iterator.result.rest.items _ c.args.self.now c.prepare_update.new.self false (c.into_iter-params-iterator.ensures.into_iter_gives.0 ∙ c.in-Ok.ensures)
    (c.loop-params.invariant false c.prepare_update.new.self
    (update_refused c.args.session c.in-Some.params c.next.new.self.rest.items c.loop-params.params-iterator.rest.items c.loop-params.self c.prepare_update.new.self c.in-Some.ensures.steps.0 c.if-not-prepare_update.ensures))

pub loop-params-preserved : goal.loop-params-preserved
loop-params-preserved g c = λ ok new h.
    c.loop-params.invariant ok new
    (update_then c.args.session c.in-Some.params c.next.new.self.rest.items c.loop-params.params-iterator.rest.items c.loop-params.self c.prepare_update.new.self new ok c.in-Some.ensures.steps.0 c.if-not-prepare_update.ensures h)

pub returns : goal.returns
returns g c =
    updates_as c.args.session c.into_iter-params-iterator.result.rest.items _ c.args.self.now c.loop-params.self true (c.into_iter-params-iterator.ensures.into_iter_gives.0 ∙ c.in-Ok.ensures)
    (c.loop-params.invariant true c.loop-params.self (no_updates c.args.session c.loop-params.params-iterator.rest.items c.loop-params.self (nil_from_length c.loop-params.params-iterator.rest.items (omega (arith, c.loop-params.params-iterator.rest.ok.0, c.in-None.ensures.steps.0)))))
