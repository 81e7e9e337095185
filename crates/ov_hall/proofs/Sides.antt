-- What a reader brought, what a writer was sent, and what became of their session, once both ends of each ring are together.
use Rattle.std.proofs.Common.{◌≡◌, ◌≢◌, inl, inr, ℕ, List, [], ◌∷◌, ◌++◌, length, refl, sym, ap, subst, ◌∙◌, append_assoc, append-nil, arith, Bool, true, false, Option, Some}
use Rattle.std.specs.Prelude.{not, unwrap_or, MatchBool}
use Rattle.std.proofs.lemmas.Bool.{false≢true}
use Rattle.ov_specs.specs.wire.Beginning.{BeginsAs}
use Rattle.ov_ends.specs.States.{SourceState, SinkState}
use Rattle.ov_specs.specs.wire.Message.{Message, Asked, asked}
use Rattle.ov_specs.specs.machine.Machine as machine
use Rattle.ov_specs.specs.machine.History.{joined}
use Rattle.ov_order.specs.declared.items.Brought.TheVariants.{End as Last}
use Rattle.ov_order.specs.declared.items.Sent.{Sent}
use Rattle.ov_order.specs.declared.items.Sent.TheVariants.{End}
use Rattle.ov_workers.specs.declared.cause.ReadCause.{ReadCause}
use Rattle.ov_workers.specs.declared.cause.ReadCause.TheVariants as reads
use Rattle.ov_workers.specs.Stream.{AreReadUntil}
use Rattle.ov_workers.specs.Reading.{SuitsSource, BringsItems}
use Rattle.ov_workers.specs.Writing.{Writes}
use Rattle.ov_ends.specs.Ends.{KeepsInput, GivesWritten}
use Rattle.ov_ends.specs.Writing.{WritesOf}
use Rattle.ov_history.specs.declared.event.Cause.{Cause}
use Rattle.ov_history.specs.declared.event.Cause.TheVariants.{InputEnded, ReadFault, WriteFault, Damaged, Overrun, Memory}
use Rattle.ov_history.specs.Entries.{cause_view, is_written}
use Rattle.ov_lanes.specs.Courses.{Course}
use Rattle.ov_lanes.specs.Fitting.{Items, brought, end_cause, is_of_reader, is_by_reader, Took, framed, FitsCourse}
use Rattle.ov_lanes.proofs.Fitting.{knows_marked}
use Rattle.ov_workers.specs.LinkStates.{link_state}
use Rattle.ov_hall.specs.Outcome.{FailsAtMostOnce, SuitsReader, SuitsWriter, Finish, LinkOutcome, account_of}
use Rattle.ov_hall.specs.Ending.{CourseEnds}

-- ---- the reader

cons_prefix : (a b : Message) (xs bs : List Message) → a ≡ b → BeginsAs xs bs → BeginsAs (a ∷ xs) (b ∷ bs)
cons_prefix a b xs bs e p = (p.0, ap (λ t. a ∷ t) p.1 ∙ ap (λ x. x ∷ bs) e)

-- what was taken is a beginning of what was brought
begins : (asks messages : List Message) (others : Items) (cause : ReadCause) → brought asks ++ others ≡ brought messages ++ Last cause ∷ [] → BeginsAs asks messages
begins [] messages others cause e = (messages, refl)
begins (a ∷ asks) [] others cause e = cc
begins (a ∷ asks) (m ∷ messages) others cause e = cons_prefix a m asks messages (cc) (begins asks messages others cause (cc))

-- if the end was taken, it is all of that
ends_same : (asks messages : List Message) (others : Items) (last cause : ReadCause) → brought asks ++ Last last ∷ others ≡ brought messages ++ Last cause ∷ [] → (asks ≡ messages) × (last ≡ cause)
ends_same [] [] others last cause e = (refl, cc)
ends_same [] (m ∷ messages) others last cause e = cc
ends_same (a ∷ asks) [] others last cause e = cc
ends_same (a ∷ asks) (m ∷ messages) others last cause e = let r = ends_same asks messages others last cause (cc) in (let same : asks ≡ messages = r.0 in cc, r.1)

prefix_along : {A : Type 0} (xs ys zs : List A) → BeginsAs xs ys → BeginsAs ys zs → BeginsAs xs zs
prefix_along xs ys zs p q = (p.0 ++ q.0, sym (append_assoc xs p.0 q.0) ∙ (ap (λ t. t ++ q.0) p.1 ∙ q.1))

same_prefix : {A : Type 0} (xs ys : List A) → xs ≡ ys → BeginsAs xs ys
same_prefix xs ys e = ([], append-nil xs ∙ e)

-- what was brought is a beginning of what is asked for
asked_begins : (cause : ReadCause) (messages : List Message) (a : Asked) → AreReadUntil cause messages a → BeginsAs messages a.messages
asked_begins reads.InputEnded messages a is = same_prefix messages a.messages (ap (λ (b : Asked). b.messages) (sym is))
asked_begins reads.ReadFault messages a is = same_prefix messages a.messages (ap (λ (b : Asked). b.messages) (sym is))
asked_begins reads.Damaged messages a is = same_prefix messages a.messages (ap (λ (b : Asked). b.messages) (sym is))
asked_begins reads.Memory messages a is = is

-- and all of it, unless an allocation failed
asked_whole : (cause : ReadCause) (messages : List Message) (a : Asked) → is_of_reader (end_cause cause) ≡ true → AreReadUntil cause messages a → messages ≡ a.messages
asked_whole reads.InputEnded messages a of is = ap (λ (b : Asked). b.messages) (sym is)
asked_whole reads.ReadFault messages a of is = ap (λ (b : Asked). b.messages) (sym is)
asked_whole reads.Damaged messages a of is = ap (λ (b : Asked). b.messages) (sym is)
asked_whole reads.Memory messages a of is = absurd (false≢true of)

reader_suits : (cause : ReadCause) (messages : List Message) (a : Asked) (source source' : SourceState) → AreReadUntil cause messages a → SuitsSource cause source source' → SuitsReader (end_cause cause) a.damaged source source'
reader_suits reads.InputEnded messages a source source' is suits = (ap (λ (b : Asked). b.damaged) is, suits.0, suits.1, suits.2)
reader_suits reads.ReadFault messages a source source' is suits = (ap (λ (b : Asked). b.damaged) is, suits)
reader_suits reads.Damaged messages a source source' is suits = (ap (λ (b : Asked). b.damaged) is, suits)
reader_suits reads.Memory messages a source source' is suits = inl suits

-- whatever ended the reader
fails_once : (cause : ReadCause) (source source' : SourceState) → SuitsSource cause source source' → FailsAtMostOnce source source'
fails_once reads.InputEnded source source' suits = inl suits.2
fails_once reads.ReadFault source source' suits = inr suits
fails_once reads.Damaged source source' suits = inl suits
fails_once reads.Memory source source' suits = inl suits

-- a closing for another cause asks no more of the reader
others_suit : (why : machine.Cause) (damaged : Bool) (source source' : SourceState) → FailsAtMostOnce source source' → is_of_reader why ≡ false → SuitsReader why damaged source source'
others_suit machine.InputEnded damaged source source' once not_of = absurd (false≢true (sym not_of))
others_suit machine.ReadFault damaged source source' once not_of = absurd (false≢true (sym not_of))
others_suit machine.WriteFault damaged source source' once not_of = once
others_suit machine.Damaged damaged source source' once not_of = absurd (false≢true (sym not_of))
others_suit machine.Overrun damaged source source' once not_of = once
others_suit machine.Memory damaged source source' once not_of = once

-- what the reader's side of a session comes to
pub record ReadSide (messages : List Message) (why : machine.Cause) (source source' : SourceState) : Type 0 where
  pub stream : List ℕ
  pub read : source'.read ≡ source.read ++ stream
  pub asks : BeginsAs messages (asked stream).messages
  pub all_asked : is_of_reader why ≡ true → messages ≡ (asked stream).messages
  pub reader : SuitsReader why (asked stream).damaged source source'
  pub input : KeepsInput source.read source.remaining source'.read source'.remaining

module _ (asks : List Message) (why : machine.Cause) (source source' : SourceState) (items known put : Items) (took : Took (Some why) asks items) (fifo : items ++ known ≡ put) where
  -- after the messages
  parts : brought asks ++ (took.0 ++ known) ≡ put
  parts = sym (append_assoc (brought asks) took.0 known) ∙ (ap (λ (l : Items). l ++ known) (sym took.1) ∙ fifo)

  end_parts : (of : is_of_reader why ≡ true) → brought asks ++ Last (took.2 of).0 ∷ ((took.2 of).1 ++ known) ≡ put
  end_parts of = ap (λ (l : Items). brought asks ++ (l ++ known)) (sym (took.2 of).2) ∙ parts

  brings_side : (cause : ReadCause) → BringsItems cause source source' put → (b : Bool) → is_of_reader why ≡ b → ReadSide asks why source source'
  brings_side cause r false not_of = record {
    stream = r.stream;
    read = r.read;
    asks = prefix_along asks r.messages (asked r.stream).messages (begins asks r.messages (took.0 ++ known) cause (parts ∙ r.brought)) (asked_begins cause r.messages (asked r.stream) r.asks);
    all_asked = λ of. absurd (false≢true (sym not_of ∙ of));
    reader = others_suit why (asked r.stream).damaged source source' (fails_once cause source source' r.suits) not_of;
    input = r.input;
  }
  brings_side cause r true of =
      let same = ends_same asks r.messages ((took.2 of).1 ++ known) (took.2 of).0 cause (end_parts of ∙ r.brought) in
      let cause_is : end_cause cause ≡ why = ap end_cause (sym same.1) ∙ (took.2 of).3 in
      let whole : r.messages ≡ (asked r.stream).messages = asked_whole cause r.messages (asked r.stream) (ap is_of_reader cause_is ∙ of) r.asks in
      record {
        stream = r.stream;
        read = r.read;
        asks = same_prefix asks (asked r.stream).messages (same.0 ∙ whole);
        all_asked = λ _. same.0 ∙ whole;
        reader = subst (λ (w : machine.Cause). SuitsReader w (asked r.stream).damaged source source') cause_is (reader_suits cause r.messages (asked r.stream) source source' r.asks r.suits);
        input = r.input;
      }

  pub read_side : (cause : ReadCause) → BringsItems cause source source' put → ReadSide asks why source source'
  read_side cause r = brings_side cause r (is_of_reader why) refl

-- ---- the writer

same_frames : (xs fs : List (List ℕ)) (known : List Sent) → (framed xs ++ End ∷ []) ++ known ≡ framed fs ++ End ∷ [] → xs ≡ fs
same_frames [] [] known e = refl
same_frames [] (f ∷ fs) known e = cc
same_frames (x ∷ xs) [] known e = cc
same_frames (x ∷ xs) (f ∷ fs) known e = let r : xs ≡ fs = same_frames xs fs known (cc) in cc

-- what was written of the frames that were put
pub record WriteSide (frames : List (List ℕ)) (is_whole : Bool) (sink sink' : SinkState) : Type 0 where
  pub written : WritesOf is_whole (joined frames) sink.written sink'.written
  pub writer : SuitsWriter is_whole sink sink'
  pub given : GivesWritten sink.written sink.contents sink'.written sink'.contents

module _ (frames : List (List ℕ)) (sink sink' : SinkState) (items known : List Sent) (fifo : items ++ known ≡ framed frames ++ End ∷ []) where
  writer_suits : (whole : Bool) → Writes whole sink sink' items → SuitsWriter whole sink sink'
  writer_suits true w = (w.flushed refl, w.faults)
  writer_suits false w = w.faults

  pub write_side : (whole : Bool) → Writes whole sink sink' items → WriteSide frames whole sink sink'
  write_side whole w =
      let same : w.frames ≡ frames = same_frames w.frames frames known (ap (λ (l : List Sent). l ++ known) (sym w.taken) ∙ fifo) in
      record {
        written = subst (λ (l : List (List ℕ)). WritesOf whole (joined l) sink.written sink'.written) same w.written;
        writer = writer_suits whole w;
        given = w.given;
      }

-- ---- both

-- how a session ended of whose closing this is known
abbrev finished : Option Cause → Bool → Finish
finished known whole = record { why = cause_view (unwrap_or known Memory); is_whole = whole }

module _ (c : Course) (known : Option Cause) (items rest put : Items) (sent taken coming : List Sent) (f : FitsCourse c known items sent true true) where
  closed : c.closed ≡ Some (cause_view (unwrap_or known Memory))
  closed = knows_marked c.closed known (f.opens ∙ ap not f.puts.0) f.knows

  pub comes_to : (source source' : SourceState) (sink sink' : SinkState) (end : ReadCause) (whole : Bool) → items ++ rest ≡ put → taken ++ coming ≡ sent
      → BringsItems end source source' put
      → Writes whole sink sink' taken
      → LinkOutcome (account_of c) (finished known whole) (link_state source sink) (link_state source' sink')
  comes_to source source' sink sink' end whole fifo fifo' reads writes =
      let r = read_side c.asks (cause_view (unwrap_or known Memory)) source source' items rest put (subst (λ (o : Option machine.Cause). Took o c.asks items) closed f.took) fifo end reads in
      let w = write_side f.puts.2.0 sink sink' taken coming (fifo' ∙ f.puts.2.1) whole writes in
      record {
        closed_for = closed;
        unfailed = λ is. f.unfailed (closed ∙ ap (λ x. Some x) is);
        stream = r.stream;
        read = r.read;
        asks = r.asks;
        all_asked = r.all_asked;
        reader = r.reader;
        input = r.input;
        frames = f.puts.2.0;
        sends = f.puts.2.2;
        all_sent = λ of. f.puts.2.3 (ap is_by_reader closed ∙ of);
        dropped = f.puts.2.4;
        written = w.written;
        writer = w.writer;
        given = w.given;
        overrun = λ over. let many = f.overrun (closed ∙ ap (λ x. Some x) over) in omega (arith, many, ap length f.puts.1);
      }

-- a session that was closed for another cause ended without a failed write
written_for : (cause : Cause) → cause_view cause ≢ machine.WriteFault → is_written cause ≡ true
written_for InputEnded ne = refl
written_for ReadFault ne = refl
written_for WriteFault ne = absurd (ne refl)
written_for Damaged ne = refl
written_for Overrun ne = refl
written_for Memory ne = refl

module _ (c : Course) (known : Option Cause) (items rest put : Items) (sent taken coming : List Sent) (f : FitsCourse c known items sent true true) where
  -- by the cause that is reported
  pub ends_for : (source source' : SourceState) (sink sink' : SinkState) (end : ReadCause) (failed : Bool) (told : Cause) → items ++ rest ≡ put → taken ++ coming ≡ sent
      → BringsItems end source source' put
      → Writes (not failed) sink sink' taken
      → MatchBool failed (told ≡ WriteFault) (told ≡ unwrap_or known Memory)
      → CourseEnds c told (link_state source sink) (link_state source' sink')
  ends_for source source' sink sink' end true told fifo fifo' reads writes is =
      let o = comes_to c known items rest put sent taken coming f source source' sink sink' end false fifo fifo' reads writes in
      record {
        why = cause_view (unwrap_or known Memory);
        told_for = λ whole. absurd (false≢true (sym (ap is_written is) ∙ whole));
        comes_to = subst (λ (b : Bool). LinkOutcome (account_of c) (finished known b) (link_state source sink) (link_state source' sink')) (sym (ap is_written is)) o;
        none_left = f.puts.1;
      }
  ends_for source source' sink sink' end false told fifo fifo' reads writes is =
      let o = comes_to c known items rest put sent taken coming f source source' sink sink' end true fifo fifo' reads writes in
      record {
        why = cause_view (unwrap_or known Memory);
        told_for = λ whole. ap cause_view is;
        comes_to = subst (λ (b : Bool). LinkOutcome (account_of c) (finished known b) (link_state source sink) (link_state source' sink')) (sym (ap is_written is ∙ written_for (unwrap_or known Memory) o.unfailed)) o;
        none_left = f.puts.1;
      }
