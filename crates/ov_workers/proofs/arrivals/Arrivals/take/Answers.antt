use Rattle.std.proofs.Common.{◌++◌, ◌∷◌, [], ap, ◌∙◌, append-nil}
use Rattle.rtrb.specs.Ring.{received}
use Rattle.ov_order.specs.declared.items.Brought.TheVariants.{Message, End}
use Rattle.ov_workers.specs.Accepting.{links_in}
use Rattle.ov_workers.proofs.Coming.{links_append}
use Rattle.ov_workers.proofs.arrivals.Arrivals.take.Goals as goal

pub returns-in-Ok-Message-clause-taken : goal.returns-in-Ok-Message-clause-taken
returns-in-Ok-Message-clause-taken g c =
    let items = received c.args.self.now.ring in let item = c.in-Ok-Message.field-0 in
    ap links_in (c.in-Ok-Message.ensures.ok.0 ∙ (ap (λ l. l ++ item ∷ []) c.loop.invariant.1 ∙ ap (λ i. items ++ i ∷ []) c.in-Ok-Message.field-0-is)) ∙ links_append items (Message c.in-Ok-Message.link ∷ [])

pub returns-in-Ok-End-clause-taken : goal.returns-in-Ok-End-clause-taken
returns-in-Ok-End-clause-taken g c =
    let items = received c.args.self.now.ring in let item = c.in-Ok-End.field-0 in
    ap links_in (c.in-Ok-End.ensures.ok.0 ∙ (ap (λ l. l ++ item ∷ []) c.loop.invariant.1 ∙ ap (λ i. items ++ i ∷ []) c.in-Ok-End.field-0-is)) ∙ (links_append items (End tt ∷ []) ∙ append-nil (links_in items))
