use Rattle.std.proofs.Common.{rules, ◌++◌, List, ℕ, take, ap, ◌∙◌, append_assoc, arith}
use Rattle.std.proofs.lemmas.Grind.{common_steps}
use Rattle.ov_ends.proofs.Tellings.{given-more}
use Rattle.ov_ends.proofs.write.write_frame.Goals as goal

pub loop-rest-preserved : goal.loop-rest-preserved
loop-rest-preserved g c =
    let was = c.loop-rest.invariant in
    let piece = take c.in-Some.n c.loop-rest.rest.now in (
      was.0 ++ piece,
      c.in-Some.ensures.trace ∙ (ap (λ (l : List ℕ). l ++ piece) was.1 ∙ append_assoc (g.W.Sink.bytes_written c.args.writer.now) was.0 piece),
      first_of (search rules, search (rules, common_steps), grind (arith, common_steps)),
      c.in-Some.ensures.good ∙ was.3,
      given-more (g.W.Sink.bytes_written c.args.writer.now) (g.W.Sink.bytes_written c.loop-rest.writer) (g.W.Sink.bytes_written c.write.new.self) (g.W.Sink.contents c.args.writer.now) (g.W.Sink.contents c.loop-rest.writer) (g.W.Sink.contents c.write.new.self) was.4 c.write.ensures.given,
    )

pub returns-in-None-clause-given : goal.returns-in-None-clause-given
returns-in-None-clause-given g c =
    given-more (g.W.Sink.bytes_written c.args.writer.now) (g.W.Sink.bytes_written c.loop-rest.writer) (g.W.Sink.bytes_written c.write.new.self) (g.W.Sink.contents c.args.writer.now) (g.W.Sink.contents c.loop-rest.writer) (g.W.Sink.contents c.write.new.self) c.loop-rest.invariant.4 c.write.ensures.given
