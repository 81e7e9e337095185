use Rattle.std.proofs.Common.{ap, sym, subst, ◌∙◌}
use Rattle.rtrb.specs.Ring.{IsPair}
use Rattle.ov_hall.proofs.start.start.Goals as goal

pub returns-in-Some-clause-started : goal.returns-in-Some-clause-started
returns-in-Some-clause-started g c =
    let reading = c.in-Some.ensures.reading in let writing = c.in-Some.ensures.writing in
    let ring = ap (λ k. k.ring) reading.1 ∙ c.new-inlet.ensures.0 in
    record {
      reads = subst (λ p. IsPair p c.in_ok-to_desk.inbound) (sym ring) c.in_ok-to_desk.ensures.pair;
      writes = subst (λ r. IsPair c.in_ok-outbound.outbound r) (sym writing.1) c.in_ok-outbound.ensures.pair;
      notes = ap (λ k. k.noter.serial) reading.1 ∙ (ap (λ n. n.serial) c.new-inlet.ensures.1 ∙ c.new-2.ensures.0);
      keep = (reading.2, writing.2);
      fresh = (c.in_ok-to_desk.ensures.unreceived.0, c.in_ok-outbound.ensures.unsent, c.in_ok-outbound.ensures.sends.1);
      await = (reading.0, writing.0);
    }
