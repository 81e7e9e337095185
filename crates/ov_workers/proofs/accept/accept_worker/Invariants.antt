use Rattle.rtrb.specs.Ring.{sent, SameProducer}
use Rattle.ov_workers.specs.Accepting.{Gives, links_in}
use Rattle.ov_workers.specs.LinkStates.{ends_of}
use Rattle.ov_workers.proofs.accept.accept_worker.Given as goal

-- What was brought so far are the links that the listener gave.
abbrev pub invariant-loop : goal.invariant-loop
invariant-loop g l = SameProducer l.initial.ring l.ring × Gives (ends_of g.S.Source g.W.Sink) g.T.Listen.gives l.initial.listener (links_in (sent l.ring)) l.listener
