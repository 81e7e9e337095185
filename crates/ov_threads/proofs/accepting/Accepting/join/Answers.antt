use Rattle.std.proofs.Common.{◌++◌, sym, ap, ◌∙◌}
use Rattle.rtrb.specs.Ring.{sent, received, known_items}
use Rattle.ov_workers.specs.Accepting.{links_in}
use Rattle.ov_workers.specs.LinkStates.{ends_of}
use Rattle.ov_workers.proofs.Coming.{links_append}
use Rattle.ov_threads.proofs.Coming.{have_come}
use Rattle.ov_threads.proofs.accepting.Accepting.join.Goals as goal

pub returns : goal.returns
returns g c listener is =
    let done = c.join-taken.result in let hand = c.slots_beside in let ring = c.slots_beside-2 in
    let ahead = known_items hand.new.self in let rest = known_items ring.new.self in let come = received c.args.arrivals.ring in
    have_come (ends_of g.S.Source g.W.Sink) g.T.Listen.gives listener (received done.hand) ahead (links_in come) (links_in rest) (links_in (sent done.ring))
    (ap (λ items. items ++ ahead) (sym hand.ensures.looked.1) ∙ (hand.ensures.fifo ∙ (hand.ensures.producer.1 ∙ is)))
    c.join-taken.ensures.2
    (sym (links_append come rest) ∙ ap links_in (ap (λ items. items ++ rest) (sym ring.ensures.looked.1) ∙ (ring.ensures.fifo ∙ ring.ensures.producer.1)))
