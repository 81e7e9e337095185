use Rattle.std.proofs.Common.{true, false, [], ◌∷◌, ◌++◌, append-nil, refl, sym, ap, ◌∙◌}
use Rattle.std.proofs.lemmas.Bool.{false≢true}
use Rattle.ov_core.specs.Following.{CoreState}
use Rattle.ov_serve.proofs.Goings.{goes_nowhere, extends-more, writes-more, sends-last}
use Rattle.ov_ends.proofs.Tellings.{given-more, given-same}
use Rattle.ov_serve.proofs.send.write_waiting.Goals as goal

pub loop-frame-init : goal.loop-frame-init
loop-frame-init g c =
    ([], goes_nowhere c.args.session.serial c.args.core.now, sym (append-nil (g.W.Sink.bytes_written c.args.writer.now)), refl, refl, given-same (g.W.Sink.bytes_written c.args.writer.now) (g.W.Sink.contents c.args.writer.now), refl)

pub returns-then-not-write_frame-clause-sends :
    goal.returns-then-not-write_frame-clause-sends
returns-then-not-write_frame-clause-sends g c =
    let was = c.loop-frame.invariant in
    record {
      frames = was.0 ++ c.in-Some.frame ∷ [];
      extends = extends-more c.args.session.serial c.args.core.now c.loop-frame.core c.next_frame.new.self was.0 (g.W.Sink.bytes_written c.args.writer.now) (g.W.Sink.bytes_written c.loop-frame.writer) was.1 was.2 c.in-Some.frame c.next_frame.ensures.same c.in-Some.ensures.handed;
      written = writes-more c.args.session.serial c.args.core.now c.loop-frame.core c.next_frame.new.self was.0 (g.W.Sink.bytes_written c.args.writer.now) (g.W.Sink.bytes_written c.loop-frame.writer) was.1 was.2 false c.in-Some.frame c.as_slice.result.now (g.W.Sink.bytes_written c.write_frame.new.writer) c.as_slice.ensures c.if-not-write_frame.ensures.written;
      none_left = λ whole. absurd (false≢true whole);
    }

pub loop-frame-preserved : goal.loop-frame-preserved
loop-frame-preserved g c =
    let was = c.loop-frame.invariant in (
      was.0 ++ c.in-Some.frame ∷ [],
      extends-more c.args.session.serial c.args.core.now c.loop-frame.core c.next_frame.new.self was.0 (g.W.Sink.bytes_written c.args.writer.now) (g.W.Sink.bytes_written c.loop-frame.writer) was.1 was.2 c.in-Some.frame c.next_frame.ensures.same c.in-Some.ensures.handed,
      writes-more c.args.session.serial c.args.core.now c.loop-frame.core c.next_frame.new.self was.0 (g.W.Sink.bytes_written c.args.writer.now) (g.W.Sink.bytes_written c.loop-frame.writer) was.1 was.2 true c.in-Some.frame c.as_slice.result.now (g.W.Sink.bytes_written c.write_frame.new.writer) c.as_slice.ensures c.if-not-write_frame.ensures.written,
      ap (λ (r : CoreState g.row.K.Denot g.row.D.Denot). r.state) c.next_frame.ensures.same ∙ was.3,
      c.if-not-write_frame.ensures.faults ∙ was.4,
      given-more (g.W.Sink.bytes_written c.args.writer.now) (g.W.Sink.bytes_written c.loop-frame.writer) (g.W.Sink.bytes_written c.write_frame.new.writer) (g.W.Sink.contents c.args.writer.now) (g.W.Sink.contents c.loop-frame.writer) (g.W.Sink.contents c.write_frame.new.writer) was.5 c.write_frame.ensures.given,
      ap (λ (r : CoreState g.row.K.Denot g.row.D.Denot). r.keeper) c.next_frame.ensures.same ∙ was.6,
    )

pub returns-clause-sends : goal.returns-clause-sends
returns-clause-sends g c =
    let was = c.loop-frame.invariant in
    sends-last c.args.session.serial c.args.core.now c.loop-frame.core c.next_frame.new.self was.0 (g.W.Sink.bytes_written c.args.writer.now) (g.W.Sink.bytes_written c.loop-frame.writer) was.1 was.2
    c.flush.result c.next_frame.result (g.W.Sink.bytes_written c.flush.new.self) c.in_default.is c.next_frame.ensures.oldest c.next_frame.ensures.none c.next_frame.ensures.same c.next_frame.ensures.handed c.flush.ensures.trace

pub returns-then-not-write_frame-clause-given :
    goal.returns-then-not-write_frame-clause-given
returns-then-not-write_frame-clause-given g c =
    given-more (g.W.Sink.bytes_written c.args.writer.now) (g.W.Sink.bytes_written c.loop-frame.writer) (g.W.Sink.bytes_written c.write_frame.new.writer) (g.W.Sink.contents c.args.writer.now) (g.W.Sink.contents c.loop-frame.writer) (g.W.Sink.contents c.write_frame.new.writer) c.loop-frame.invariant.5 c.write_frame.ensures.given

pub returns-clause-given : goal.returns-clause-given
returns-clause-given g c =
    given-more (g.W.Sink.bytes_written c.args.writer.now) (g.W.Sink.bytes_written c.loop-frame.writer) (g.W.Sink.bytes_written c.flush.new.self) (g.W.Sink.contents c.args.writer.now) (g.W.Sink.contents c.loop-frame.writer) (g.W.Sink.contents c.flush.new.self) c.loop-frame.invariant.5 c.flush.ensures.given
