use Rattle.std.proofs.Common.{rules, ◌≡◌, ℕ, ◌++◌, true, false, map, take, refl, sym, ap, subst, ◌∙◌, arith, append-nil}
use Rattle.std.specs.Prelude.{is_ok}
use Rattle.ov_history.specs.declared.event.Cause.TheVariants.{InputEnded, ReadFault}
use Rattle.ov_history.specs.Entries.{entry_view}
use Rattle.ov_ends.specs.States.{source_of, sink_of}
use Rattle.ov_serve.specs.Serving.{server_of, bytes_of}
use Rattle.ov_serve.proofs.Starts.{serving_opened}
use Rattle.ov_serve.proofs.Servings.{then_sent, then_sent_on, then_fed, by_reader, by_writer, by_stream}
use Rattle.ov_ends.proofs.Tellings.{input-more, input-same, given-more, given-same}
use Rattle.ov_serve.proofs.serve.serve_session.Goals as goal

pub loop-init : goal.loop-init
loop-init g c = (
  λ first entered. serving_opened g.D.Draws.draws g.C.Clock.tells c.args.session (server_of g.S.Source g.W.Sink first c.args.reader.now c.args.writer.now c.args.clock.now) c.args.core.now c.new-cutter.result c.new-cutter.ensures entered,
  refl,
  refl,
  input-same (g.S.Source.bytes_read c.args.reader.now) (g.S.Source.remaining c.args.reader.now),
  given-same (g.W.Sink.bytes_written c.args.writer.now) (g.W.Sink.contents c.args.writer.now),
  λ honest. honest,
)

pub returns-then-not-write_waiting-clause-served :
    goal.returns-then-not-write_waiting-clause-served
returns-then-not-write_waiting-clause-served g c first entered =
    let old = server_of g.S.Source g.W.Sink first c.args.reader.now c.args.writer.now c.args.clock.now in
    let now = server_of g.S.Source g.W.Sink c.loop.core c.loop.reader c.loop.writer c.loop.clock in
    let writer = sink_of g.W.Sink c.write_waiting.new.writer in
    let on = c.loop.invariant.0 first entered in
    let sent = then_sent g.C.Clock.tells c.args.session.serial old false now c.write_waiting.new.core writer on.done c.if-not-write_waiting.ensures.sends c.if-not-write_waiting.ensures.state in
    by_writer g.C.Clock.tells c.args.session.serial old (record now { core = c.write_waiting.new.core; writer = writer }) c.close.new.self c.close.result sent c.close.ensures.closes

pub returns-then-not-is_open-clause-served : goal.returns-then-not-is_open-clause-served
returns-then-not-is_open-clause-served g c first entered =
    let old = server_of g.S.Source g.W.Sink first c.args.reader.now c.args.writer.now c.args.clock.now in
    let now = server_of g.S.Source g.W.Sink c.loop.core c.loop.reader c.loop.writer c.loop.clock in
    let writer = sink_of g.W.Sink c.write_waiting.new.writer in
    let on = c.loop.invariant.0 first entered in
    let sent = then_sent g.C.Clock.tells c.args.session.serial old true now c.write_waiting.new.core writer on.done c.if-not-write_waiting.ensures.sends c.if-not-write_waiting.ensures.state in
    by_stream g.C.Clock.tells c.args.session.serial old (record now { core = c.write_waiting.new.core; writer = writer }) c.write_waiting.new.core c.cause_of_closing.result c.cause_of_closing.ensures.one_of
    (λ front last is. c.cause_of_closing.ensures.found front last (ap (λ kept. map entry_view kept) c.history.ensures.kept ∙ is)) (sym c.if-not-is_open.ensures) sent (c.if-not-write_waiting.ensures.sends.none_left refl)

pub returns-in-Some-eq0-clause-served : goal.returns-in-Some-eq0-clause-served
returns-in-Some-eq0-clause-served g c first entered =
    let old = server_of g.S.Source g.W.Sink first c.args.reader.now c.args.writer.now c.args.clock.now in
    let now = server_of g.S.Source g.W.Sink c.loop.core c.loop.reader c.loop.writer c.loop.clock in
    let writer = sink_of g.W.Sink c.write_waiting.new.writer in
    let on = c.loop.invariant.0 first entered in
    let sent = then_sent g.C.Clock.tells c.args.session.serial old true now c.write_waiting.new.core writer on.done c.if-not-write_waiting.ensures.sends c.if-not-write_waiting.ensures.state in
    let none : c.in-Some-eq0.field-0 ≡ 0 = first_of (omega arith, search rules, cc) in
    let heard = c.in-Some-eq0.ensures.trace ∙ ap (λ (k : ℕ). g.S.Source.bytes_read c.loop.reader ++ take k c.read.new.piece) none in
    by_reader g.C.Clock.tells c.args.session.serial old (record now { core = c.write_waiting.new.core; writer = writer }) c.close-in-Some-eq0.new.self
    InputEnded c.close-in-Some-eq0.result (source_of g.S.Source c.read.new.self) refl (λ s t last k. k) (λ o is. is) (sym c.if-not-is_open.ensures) sent (c.if-not-write_waiting.ensures.sends.none_left refl) (heard ∙ append-nil (g.S.Source.bytes_read c.loop.reader)) c.close-in-Some-eq0.ensures.closes

pub returns-in-None-read-clause-served : goal.returns-in-None-read-clause-served
returns-in-None-read-clause-served g c first entered =
    let old = server_of g.S.Source g.W.Sink first c.args.reader.now c.args.writer.now c.args.clock.now in
    let now = server_of g.S.Source g.W.Sink c.loop.core c.loop.reader c.loop.writer c.loop.clock in
    let writer = sink_of g.W.Sink c.write_waiting.new.writer in
    let on = c.loop.invariant.0 first entered in
    let sent = then_sent g.C.Clock.tells c.args.session.serial old true now c.write_waiting.new.core writer on.done c.if-not-write_waiting.ensures.sends c.if-not-write_waiting.ensures.state in
    by_reader g.C.Clock.tells c.args.session.serial old (record now { core = c.write_waiting.new.core; writer = writer }) c.close-in-None-read.new.self
    ReadFault c.close-in-None-read.result (source_of g.S.Source c.read.new.self) refl (λ s t last k. k) (λ o is. is) (sym c.if-not-is_open.ensures) sent (c.if-not-write_waiting.ensures.sends.none_left refl) c.in-None-read.ensures.none.0 c.close-in-None-read.ensures.closes

pub loop-preserved : goal.loop-preserved
loop-preserved g c = (
  λ first entered.
      let old = server_of g.S.Source g.W.Sink first c.args.reader.now c.args.writer.now c.args.clock.now in
      let now = server_of g.S.Source g.W.Sink c.loop.core c.loop.reader c.loop.writer c.loop.clock in
      let writer = sink_of g.W.Sink c.write_waiting.new.writer in
      let on = c.loop.invariant.0 first entered in
      let sent = then_sent_on g.C.Clock.tells c.args.session.serial old now c.write_waiting.new.core writer c.loop.cutter on c.if-not-write_waiting.ensures.sends c.if-not-write_waiting.ensures.state in
      let there = sym c.if-not-is_open.ensures in
      let serves = c.serve_piece.ensures.entered (bytes_of sent.done.pieces) (sent.fed there) in
      then_fed g.C.Clock.tells c.args.session.serial old (record now { core = c.write_waiting.new.core; writer = writer }) c.serve_piece.new.core
      (take c.in-Some-read.n c.read.new.piece) (source_of g.S.Source c.read.new.self) c.serve_piece.new.clock (is_ok c.serve_piece.result) c.serve_piece.new.cutter there sent.done c.serve_piece.ensures.sized c.in-Some-read.ensures.trace serves,
  c.in-Some-read.ensures.good ∙ c.loop.invariant.1,
  c.if-not-write_waiting.ensures.faults ∙ c.loop.invariant.2,
  input-more (g.S.Source.bytes_read c.args.reader.now) (g.S.Source.bytes_read c.loop.reader) (g.S.Source.bytes_read c.read.new.self) (g.S.Source.remaining c.args.reader.now) (g.S.Source.remaining c.loop.reader) (g.S.Source.remaining c.read.new.self) c.loop.invariant.3 c.read.ensures.input,
  given-more (g.W.Sink.bytes_written c.args.writer.now) (g.W.Sink.bytes_written c.loop.writer) (g.W.Sink.bytes_written c.write_waiting.new.writer) (g.W.Sink.contents c.args.writer.now) (g.W.Sink.contents c.loop.writer) (g.W.Sink.contents c.write_waiting.new.writer) c.loop.invariant.4 c.write_waiting.ensures.given,
  λ honest. c.loop.invariant.5 (subst g.K.Keeper.is_honest c.write_waiting.ensures.keeper (c.serve_piece.ensures.honest honest)),
)

pub returns-then-not-write_waiting-clause-given :
    goal.returns-then-not-write_waiting-clause-given
returns-then-not-write_waiting-clause-given g c =
    given-more (g.W.Sink.bytes_written c.args.writer.now) (g.W.Sink.bytes_written c.loop.writer) (g.W.Sink.bytes_written c.write_waiting.new.writer) (g.W.Sink.contents c.args.writer.now) (g.W.Sink.contents c.loop.writer) (g.W.Sink.contents c.write_waiting.new.writer) c.loop.invariant.4 c.write_waiting.ensures.given

pub returns-then-not-is_open-clause-given :
    goal.returns-then-not-is_open-clause-given
returns-then-not-is_open-clause-given g c =
    given-more (g.W.Sink.bytes_written c.args.writer.now) (g.W.Sink.bytes_written c.loop.writer) (g.W.Sink.bytes_written c.write_waiting.new.writer) (g.W.Sink.contents c.args.writer.now) (g.W.Sink.contents c.loop.writer) (g.W.Sink.contents c.write_waiting.new.writer) c.loop.invariant.4 c.write_waiting.ensures.given

pub returns-in-Some-eq0-clause-given :
    goal.returns-in-Some-eq0-clause-given
returns-in-Some-eq0-clause-given g c =
    given-more (g.W.Sink.bytes_written c.args.writer.now) (g.W.Sink.bytes_written c.loop.writer) (g.W.Sink.bytes_written c.write_waiting.new.writer) (g.W.Sink.contents c.args.writer.now) (g.W.Sink.contents c.loop.writer) (g.W.Sink.contents c.write_waiting.new.writer) c.loop.invariant.4 c.write_waiting.ensures.given

pub returns-in-None-read-clause-given :
    goal.returns-in-None-read-clause-given
returns-in-None-read-clause-given g c =
    given-more (g.W.Sink.bytes_written c.args.writer.now) (g.W.Sink.bytes_written c.loop.writer) (g.W.Sink.bytes_written c.write_waiting.new.writer) (g.W.Sink.contents c.args.writer.now) (g.W.Sink.contents c.loop.writer) (g.W.Sink.contents c.write_waiting.new.writer) c.loop.invariant.4 c.write_waiting.ensures.given

pub returns-in-Some-eq0-clause-input :
    goal.returns-in-Some-eq0-clause-input
returns-in-Some-eq0-clause-input g c =
    input-more (g.S.Source.bytes_read c.args.reader.now) (g.S.Source.bytes_read c.loop.reader) (g.S.Source.bytes_read c.read.new.self) (g.S.Source.remaining c.args.reader.now) (g.S.Source.remaining c.loop.reader) (g.S.Source.remaining c.read.new.self) c.loop.invariant.3 c.read.ensures.input

pub returns-in-None-read-clause-input :
    goal.returns-in-None-read-clause-input
returns-in-None-read-clause-input g c =
    input-more (g.S.Source.bytes_read c.args.reader.now) (g.S.Source.bytes_read c.loop.reader) (g.S.Source.bytes_read c.read.new.self) (g.S.Source.remaining c.args.reader.now) (g.S.Source.remaining c.loop.reader) (g.S.Source.remaining c.read.new.self) c.loop.invariant.3 c.read.ensures.input
