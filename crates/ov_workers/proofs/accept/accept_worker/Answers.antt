use Rattle.std.proofs.Common.{◌∷◌, ◌++◌, [], sym, ap, subst, ◌∙◌, append-nil, rules}
use Rattle.rtrb.specs.Ring.{sent}
use Rattle.ov_order.specs.declared.items.Brought.TheVariants.{Message, End}
use Rattle.ov_workers.specs.Accepting.{Gives, links_in}
use Rattle.ov_workers.specs.LinkStates.{ends_of}
use Rattle.ov_workers.proofs.Coming.{gives_more, links_append}
use Rattle.ov_workers.proofs.accept.accept_worker.Goals as goal

pub returns-in_default-clause-gives : goal.returns-in_default-clause-gives
returns-in_default-clause-gives g c =
    let items = sent c.loop.ring in
    let same = ap links_in {x = sent c.bring.new.ring} {y = items ++ End tt ∷ []} c.bring.ensures.sent ∙ (links_append items (End tt ∷ []) ∙ append-nil (links_in items)) in (
      c.accept.new.self,
      (
        c.loop.listener,
        subst (λ links. Gives (ends_of g.S.Source g.W.Sink) g.T.Listen.gives c.args.listener links c.loop.listener) (sym same) c.loop.invariant.1,
        c.in_default.ensures.gives,
      ),
    )

pub loop-preserved : goal.loop-preserved
loop-preserved g c =
    let ends = ends_of g.S.Source g.W.Sink in let gives = g.T.Listen.gives in
    let items = sent c.loop.ring in let link = c.in-Some-accept.link in let next = c.accept.new.self in
    let same = ap links_in {x = sent c.bring-in-loop.new.ring} {y = items ++ Message link ∷ []} c.bring-in-loop.ensures.sent ∙ links_append items (Message link ∷ []) in (
      (let was = c.loop.invariant.0 in let is = c.bring-in-loop.ensures.ring in search rules),
      subst (λ links. Gives ends gives c.args.listener links next) (sym same)
          (gives_more ends gives c.args.listener (links_in items) c.loop.listener link next c.loop.invariant.1 c.in-Some-accept.ensures.gives c.in-Some-accept.ensures.unused),
    )
