-- What was done of a session, one part after another.
use Rattle.std.proofs.Common.{◌≡◌, ℕ, List, [], ◌∷◌, ◌++◌, Bool, true, false, refl, sym, map, cond, eqb, ap, subst, ◌∙◌, append_assoc, arith, ◌⊎◌, inl, inr}
use Rattle.std.specs.Prelude.{◌≤◌, length, MatchBool, Option, Some}
use Rattle.std.specs.List.{flat_map}
use Rattle.std.proofs.lemmas.List.{append-nil}
use Rattle.std.proofs.lemmas.Grind.{flat_map-append}
use Rattle.std.proofs.lemmas.List.Elements.{All-push}
use Rattle.std.proofs.lemmas.Bool.{eq-eqb, false≢true}
use Rattle.ov_specs.specs.machine.Machine as machine
use Rattle.ov_specs.specs.machine.Machine.{State, is_open, opening}
use Rattle.ov_specs.specs.schema.SchemaTypes.{Schema}
use Rattle.ov_specs.specs.rows.Database.{Database}
use Rattle.ov_specs.specs.machine.History.{joined, frames_to, closed_by}
use Rattle.ov_specs.specs.machine.Streams.{StreamEvent, Opens, no_streams, with_fed, ExpandsTimed, fed_state}
use Rattle.ov_specs.proofs.laws.Expanding.{one_after_another}
use Rattle.ov_specs.proofs.laws.Histories.{closed_by_append}
use Rattle.ov_specs.proofs.laws.Turns.{turn_close}
use Rattle.std.specs.Option.{option_or}
use Rattle.ov_cut.specs.CutterState.{CutterState}
use Rattle.ov_cut.specs.Reading.{IsFed}
use Rattle.ov_history.specs.declared.event.Cause.{Cause}
use Rattle.ov_history.specs.declared.event.Cause.TheVariants.{WriteFault, Damaged, Memory}
use Rattle.ov_history.specs.Entries.{cause_view, entry_view, is_written}
use Rattle.ov_outbox.specs.Frames.{waiting_for}
use Rattle.ov_core.specs.Following.{CoreState, Follows, Extends, and_all_handed, with_clock}
use Rattle.ov_history.specs.History.{KeepsNewest}
use Rattle.ov_core.specs.Stepping.{closing, Closes}
use Rattle.ov_history.proofs.Histories.{keeps_last}
use Rattle.ov_streams.specs.Feeding.{fed_piece}
use Rattle.ov_serve.specs.Serving.{ServerState, ExtendsHanding, Piece, Pieces, IsSized, bytes_of, piece_events, events_of, TellsMoments, IsCauseIn, ClosesAfter, ClosesFor, EndsServing, Served}
use Rattle.ov_ends.specs.States.{SourceState, SinkState}
use Rattle.ov_ends.specs.Writing.{WritesOf}
use Rattle.ov_serve.specs.Progress.{Sends, stream_cause, IsShut, StandsAfter, ServesPiece, ServedSoFar, ServedAndFed}
use Rattle.ov_serve.proofs.Unopened.{close_spares, close_of_open, next_is_unopened}
use Rattle.ov_serve.proofs.Closings.{not_closed, is_shut, closed_by_closing, stream_cause_is}
use Rattle.ov_serve.proofs.Fed.{piece_of, makes}
use Rattle.ov_serve.proofs.Goings.{goes_on_entering, goes_on_handing, joined-append, writes_on}
use Rattle.ov_streams.proofs.Entering.{enters_none}
use Rattle.ov_streams.proofs.Suiting.{fed_own}

-- one piece more
bytes_of-more : (pieces : Pieces) (p : Piece) → bytes_of (pieces ++ p ∷ []) ≡ bytes_of pieces ++ p.bytes
bytes_of-more pieces p =
    flat_map-append (λ (q : Piece). q.bytes) pieces (p ∷ []) ∙ ap (λ (bytes : List ℕ). bytes_of pieces ++ bytes) (append-nil p.bytes)

events_of-more : (n : ℕ) (pieces : Pieces) (p : Piece) → events_of n (pieces ++ p ∷ []) ≡ events_of n pieces ++ piece_events n p
events_of-more n pieces p =
    ap (λ (l : List (ℕ × StreamEvent)). (0, Opens) ∷ l)
    (flat_map-append (piece_events n) pieces (p ∷ []) ∙ ap (λ (l : List (ℕ × StreamEvent)). flat_map (piece_events n) pieces ++ l) (append-nil (piece_events n p)))

-- one moment more
told_more : {C : Type 0} (tells : C → ℕ → C → Type 0) (a b c : C) (pieces : Pieces) (p : Piece) → TellsMoments tells a pieces b → tells b p.moment c → TellsMoments tells a (pieces ++ p ∷ []) c
told_more tells a b c [] p same told = (c, subst (λ x. tells x p.moment c) same told, refl)
told_more tells a b c (q ∷ pieces) p (mid, first, others) told = (mid, first, told_more tells mid b c pieces p others told)

-- nothing was given before the frames
none_given_before : (n : ℕ) (given : ℕ → List (List ℕ)) (frames waits all : List (List ℕ)) → given n ≡ [] → all ≡ and_all_handed given n frames n ++ waits → all ≡ frames ++ waits
none_given_before n given frames waits all none is = is ∙ ap (λ (fs : List (List ℕ)). fs ++ waits) (ap (λ (fs : List (List ℕ)). fs ++ cond (eqb n n) frames []) none ∙ ap (λ (b : Bool). cond b frames []) (eq-eqb n n refl))

-- a list of two parts that is empty
first_empty : {A : Type 0} (xs ys : List A) → xs ++ ys ≡ [] → xs ≡ []
first_empty [] ys h = refl
first_empty (x ∷ xs) ys h = cc

-- a beginning of the frames is one of all of them
writes_of_all : (is_whole : Bool) (frames waits all : List (List ℕ)) (said said' : List ℕ) → all ≡ frames ++ waits → (is_whole ≡ true → waits ≡ []) → WritesOf is_whole (joined frames) said said' → WritesOf is_whole (joined all) said said'
writes_of_all true frames waits all said said' is none written =
    written ∙ ap (λ (fs : List (List ℕ)). said ++ joined fs) (sym (is ∙ (ap (λ (fs : List (List ℕ)). frames ++ fs) (none refl) ∙ append-nil frames)))
writes_of_all false frames waits all said said' is none (some, told, (others, begins)) =
    (some, told, (others ++ joined waits, sym (append_assoc some others (joined waits)) ∙ (ap (λ (bytes : List ℕ). bytes ++ joined waits) begins ∙ (sym (joined-append frames waits) ∙ ap joined (sym is)))))

-- what a history from an opening says, by the frames that were handed out
ends_as : {K D : Type 0} (n : ℕ) (cause : Cause) (old new : CoreState K D) (schema : Schema) (database : Database) (history entries : List machine.Entry) (given : ℕ → List (List ℕ)) (frames : List (List ℕ)) (said said' : List ℕ) → n ≡ old.state.next
    → Follows (opening schema database) history given old → Follows (opening schema database) (history ++ entries) (and_all_handed given n frames) new → WritesOf (is_written cause) (joined frames) said said' → (is_written cause ≡ true → waiting_for n new.outbox ≡ [])
    → IsCauseIn cause (closed_by old.state entries n) → EndsServing (opening schema database) (history ++ entries) n cause said said'
ends_as n cause old new schema database history entries given frames said said' serial f f' written none_left told =
    let reached : machine.Stepped = record { state = old.state; sent = f.sent } in
    let to_come = next_is_unopened schema database history reached n serial f.legal in
    let cause_is = closed_by_append (opening schema database) history entries n reached f.legal ∙ ap (λ (o : Option machine.Cause). option_or o (closed_by old.state entries n)) to_come.no_cause in
    let none : given n ≡ [] = first_empty (given n) (waiting_for n old.outbox) (sym (f.issued n) ∙ to_come.silent) in
    record {
      reached = record { state = new.state; sent = f'.sent };
      legal = f'.legal;
      written = writes_of_all (is_written cause) frames (waiting_for n new.outbox) (frames_to n f'.sent) said said' (none_given_before n given frames (waiting_for n new.outbox) (frames_to n f'.sent) none (f'.issued n)) none_left written;
      closed_for = subst (IsCauseIn cause) (sym cause_is) told;
    }

module _ {K D C : Type 0} (tells : C → ℕ → C → Type 0) (n : ℕ) (old : ServerState K D C) where
  -- all that waited was written, or a beginning of it
  pub then_sent : (is_whole : Bool) (a : ServerState K D C) (b : CoreState K D) (writer : SinkState) → ServedSoFar tells n true old a → Sends n is_whole a.core b a.writer.written writer.written → b.state ≡ a.core.state
      → ServedSoFar tells n is_whole old (record a { core = b; writer = writer })
  then_sent is_whole a b writer done sends same = record {
    entries = done.entries;
    frames = done.frames ++ sends.frames;
    pieces = done.pieces;
    streams = done.streams;
    extends = goes_on_handing n old.core a.core b done.entries done.frames sends.frames done.extends sends.extends;
    read = done.read;
    written = subst (λ (bytes : List ℕ). WritesOf is_whole bytes old.writer.written writer.written) (sym (joined-append done.frames sends.frames)) (writes_on is_whole (joined done.frames) (joined sends.frames) old.writer.written a.writer.written writer.written done.written sends.written);
    expands = subst (λ (s : State). ExpandsTimed (fed_state old.core.state no_streams) (events_of n done.pieces) done.entries (fed_state s done.streams)) (sym same) done.expands;
    stream = done.stream;
    ticks = done.ticks;
    sizes = done.sizes;
    moments = done.moments;
    serial = done.serial;
    stands = subst (λ (s : State). StandsAfter n old.core.state done.entries s) (sym same) done.stands;
  }

  -- all that waited was written, and the cutter was given nothing more
  pub then_sent_on : (a : ServerState K D C) (b : CoreState K D) (writer : SinkState) (cutter : CutterState) → ServedAndFed tells n old a cutter → Sends n true a.core b a.writer.written writer.written → b.state ≡ a.core.state
      → ServedAndFed tells n old (record a { core = b; writer = writer }) cutter
  unfolding then_sent
  then_sent_on a b writer cutter on sends same = record {
    done = then_sent true a b writer on.done sends same;
    fed = λ there. on.fed (ap (λ (s : State). is_open s n) (sym same) ∙ there);
  }

  -- a piece was read and entered, and time passed after it, or not
  pub then_fed : (a : ServerState K D C) (b : CoreState K D) (piece : List ℕ) (reader : SourceState) (clock : C) (is_all : Bool) (cutter : CutterState) → is_open a.core.state n ≡ true → (done : ServedSoFar tells n true old a)
      → IsSized piece → reader.read ≡ a.reader.read ++ piece → ServesPiece tells (fed_piece n (bytes_of done.pieces) piece) (with_clock a.core a.clock) is_all (with_clock b clock) cutter
      → ServedAndFed tells n old (record a { core = b; reader = reader; clock = clock }) cutter
  then_fed a b piece reader clock is_all cutter there done sized read serves =
      let p : Piece = piece_of serves.at piece serves.ticks in
      let made = makes serves.at n old.core.state done.entries done.streams (bytes_of done.pieces) piece a.core serves.mid cutter there done.stream done.stands done.ticks serves.enters b serves.ticks serves.passes serves.still in
      record {
        done = record {
          entries = done.entries ++ made.entries;
          frames = done.frames;
          pieces = done.pieces ++ p ∷ [];
          streams = with_fed done.streams n piece;
          extends = goes_on_entering n old.core a.core b done.entries made.entries done.frames done.extends made.enters;
          read = read ∙ (ap (λ (bytes : List ℕ). bytes ++ piece) done.read ∙ (append_assoc old.reader.read (bytes_of done.pieces) piece ∙ ap (λ (bytes : List ℕ). old.reader.read ++ bytes) (sym (bytes_of-more done.pieces p))));
          written = done.written;
          expands =
              subst (λ (l : List (ℕ × StreamEvent)). ExpandsTimed (fed_state old.core.state no_streams) l (done.entries ++ made.entries) (fed_state b.state (with_fed done.streams n piece))) (sym (events_of-more n done.pieces p))
              (one_after_another (fed_state old.core.state no_streams) (events_of n done.pieces) done.entries (fed_state a.core.state done.streams) (piece_events n p) made.entries (fed_state b.state (with_fed done.streams n piece)) done.expands made.expands);
          stream = fed_own done.streams n piece ∙ (ap (λ (bytes : List ℕ). bytes ++ piece) done.stream ∙ sym (bytes_of-more done.pieces p));
          ticks = made.passes;
          sizes = All-push (λ (q : Piece). IsSized q.bytes) done.pieces p done.sizes sized;
          moments = told_more tells old.clock a.clock clock done.pieces p done.moments serves.reported;
          serial = done.serial;
          stands = made.stands;
        };
        fed = λ open'. subst (λ (bytes : List ℕ). IsFed bytes cutter) (sym (bytes_of-more done.pieces p)) (made.fed open');
      }

  -- the session is closed, by a last entry or without one, and nothing more was read
  pub then_served : (a : ServerState K D C) (b : CoreState K D) (reader : SourceState) (cause : Cause) (last : List machine.Entry) → reader.read ≡ a.reader.read → (done : ServedSoFar tells n (is_written cause) old a) → Extends a.core last b
      → ClosesFor n cause a.core.state last b.state → is_open b.state n ≡ false → (is_written cause ≡ true → waiting_for n b.outbox ≡ [])
      → ((before : State) (history : List machine.Entry) (given : ℕ → List (List ℕ)) → Follows before history given old.core → IsCauseIn cause (closed_by old.core.state (done.entries ++ last) n)) → Served tells n old cause (record a { core = b; reader = reader })
  then_served a b reader cause last same done enters closes shut none_left told = record {
    entries = done.entries ++ last;
    frames = done.frames;
    pieces = done.pieces;
    extends = goes_on_entering n old.core a.core b done.entries last done.frames done.extends enters;
    read = same ∙ done.read;
    sizes = done.sizes;
    moments = done.moments;
    front = done.entries;
    last = last;
    mid = a.core.state;
    streams = done.streams;
    parts = refl;
    expands = done.expands;
    stream = done.stream;
    ticks = done.ticks;
    closes = closes;
    shut = shut;
    written = done.written;
    none_left = none_left;
    ends = λ schema database history given f.
        ends_as n cause old.core b schema database history (done.entries ++ last) given done.frames old.writer.written a.writer.written done.serial f ((goes_on_entering n old.core a.core b done.entries last done.frames done.extends enters).follows (opening schema database) history given f) done.written none_left
        (told (opening schema database) history given f);
  }

-- the entry of a closing at the last moment
closes_after : {K D : Type 0} (n : ℕ) (cause : machine.Cause) (a b : CoreState K D) → Closes a.state.moment n cause a b → ClosesAfter n cause a.state (closing a.state.moment n cause ∷ []) b.state
closes_after n cause a b k = (
  closing a.state.moment n cause,
  record { state = b.state; sent = k.moves.sent },
  refl,
  record { event = refl; moment = omega arith; step = k.moves.stepped },
  refl,
)

-- a closing leaves as much waiting for its session as waited before
waits_as_before : {K D : Type 0} (at n : ℕ) (cause : machine.Cause) (a b : CoreState K D) → Closes at n cause a b → waiting_for n b.outbox ≡ waiting_for n a.outbox
waits_as_before at n cause a b k =
    let none = close_spares a.state (closing at n cause) (record { state = b.state; sent = k.moves.sent }) k.moves.stepped n cause refl in
    k.moves.waits n ∙ (ap (λ (fs : List (List ℕ)). waiting_for n a.outbox ++ fs) none ∙ append-nil (waiting_for n a.outbox))

-- the closing of an open session is its cause
closed_at_last : {K D : Type 0} (at n : ℕ) (cause : machine.Cause) (before : State) (h : List machine.Entry) (a b : CoreState K D) → StandsAfter n before h a.state → is_open a.state n ≡ true → Closes at n cause a b
    → closed_by before (h ++ closing at n cause ∷ []) n ≡ Some cause
closed_at_last at n cause before h a b after there k =
    let t : machine.Stepped = record { state = b.state; sent = k.moves.sent } in
    let turn = turn_close n a.state (closing at n cause) t k.moves.stepped cause refl in
    closed_by_closing n before h a.state (closing at n cause) t cause (after.sent, after.leads) k.moves.stepped (not_closed n before h a.state after there) turn.cause_is

-- the cause of a stream's closing, if no other entry follows
closed_within : (n : ℕ) (before : State) (h : List machine.Entry) (s : State) → StandsAfter n before h s → is_open s n ≡ false → (shut : IsShut n before h) × (closed_by before (h ++ []) n ≡ Some (stream_cause shut.last.event))
closed_within n before h s after gone = let shut = is_shut n before h s after gone in (shut, ap (λ (l : List machine.Entry). closed_by before l n) (append-nil h) ∙ shut.cause)

-- if a write failed, the stream may have closed the session
told_within : (n : ℕ) (before : State) (h : List machine.Entry) (what : machine.Event) → closed_by before h n ≡ Some (stream_cause what) → IsCauseIn WriteFault (closed_by before h n)
told_within n before h what is = inr (elim (stream_cause_is what) [
  | inl e ↦ inl (is ∙ ap (λ c. Some c) e)
  | inr e ↦ inr (is ∙ ap (λ c. Some c) e)
])

-- what the code finds is the cause of the history
abbrev pub Finds : {K D : Type 0} → Cause → CoreState K D → Type 0
Finds cause core = (front : List machine.Entry) (last : machine.Entry) → map entry_view core.kept ≡ front ++ last ∷ [] → cause_view cause ≡ stream_cause last.event

-- the cause that was found is that of the history
found_cause : {K D : Type 0} (n : ℕ) (old a : CoreState K D) (cause : Cause) (entries : List machine.Entry) (frames : List (List ℕ)) → ExtendsHanding n old entries frames a → StandsAfter n old.state entries a.state → is_open a.state n ≡ false → Finds cause a → closed_by old.state (entries ++ []) n ≡ Some (cause_view cause)
found_cause n old a cause entries frames extends stands gone finds =
    let within = closed_within n old.state entries a.state stands gone in
    let shut = within.0 in
    let kept = keeps_last old.kept a.kept shut.front shut.last (subst (λ (l : List machine.Entry). KeepsNewest old.kept l a.kept) shut.parts extends.keeps) in
    within.1 ∙ ap (λ c. Some c) (sym (finds kept.0 shut.last kept.1))

module _ {K D C : Type 0} (tells : C → ℕ → C → Type 0) (n : ℕ) (old a : ServerState K D C) (b : CoreState K D) where
  -- the open session was closed because of its reader, which gave nothing more
  pub by_reader : (cause : Cause) (closed : Bool) (reader : SourceState) → is_written cause ≡ true → ((s t : State) (last : List machine.Entry) → ClosesAfter n (cause_view cause) s last t → ClosesFor n cause s last t)
      → ((o : Option machine.Cause) → o ≡ Some (cause_view cause) → IsCauseIn cause o) → is_open a.core.state n ≡ true → ServedSoFar tells n true old a → waiting_for n a.core.outbox ≡ []
      → reader.read ≡ a.reader.read → MatchBool closed (Closes a.core.state.moment n (cause_view cause) a.core b) ((b ≡ a.core) × (is_open a.core.state n ≡ false)) → Served tells n old cause (record a { core = b; reader = reader })
  by_reader cause true reader w for told there done empty same k =
      let shut : machine.Entry = closing a.core.state.moment n (cause_view cause) in
      let d : ServedSoFar tells n (is_written cause) old a = subst (λ (v : Bool). ServedSoFar tells n v old a) (sym w) done in
      then_served tells n old a b reader cause (shut ∷ []) same d
      k.moves.follows (for a.core.state b.state (shut ∷ []) (closes_after n (cause_view cause) a.core b k)) k.shut
      (λ _. waits_as_before a.core.state.moment n (cause_view cause) a.core b k ∙ empty)
      (λ before history given f. told (closed_by old.core.state (d.entries ++ shut ∷ []) n) (closed_at_last a.core.state.moment n (cause_view cause) old.core.state d.entries a.core b d.stands there k))
  by_reader cause false reader w for told there done empty same k = absurd (false≢true (sym k.1 ∙ there))

  -- the writer failed, and the session was closed, if it was still open
  pub by_writer : (closed : Bool) → ServedSoFar tells n false old a → MatchBool closed (Closes a.core.state.moment n machine.WriteFault a.core b) ((b ≡ a.core) × (is_open a.core.state n ≡ false)) → Served tells n old WriteFault (record a { core = b })
  by_writer true done k =
      let shut : machine.Entry = closing a.core.state.moment n machine.WriteFault in
      let there : is_open a.core.state n ≡ true = close_of_open a.core.state shut (record { state = b.state; sent = k.moves.sent }) k.moves.stepped n machine.WriteFault refl in
      then_served tells n old a b a.reader WriteFault (shut ∷ []) refl done k.moves.follows (inr (closes_after n machine.WriteFault a.core b k)) k.shut (λ whole. absurd (false≢true whole))
      (λ before history given f. inl (closed_at_last a.core.state.moment n machine.WriteFault old.core.state done.entries a.core b done.stands there k))
  by_writer false done k =
      let within = closed_within n old.core.state done.entries a.core.state done.stands k.1 in
      subst (λ (v : CoreState K D). Served tells n old WriteFault (record a { core = v })) (sym k.0)
      (then_served tells n old a a.core a.reader WriteFault [] refl done (enters_none a.core) (inl (k.1, refl, refl)) k.1 (λ whole. absurd (false≢true whole))
      (λ before history given f. told_within n old.core.state (done.entries ++ []) within.0.last.event within.1))

  -- the session was closed by what was read of it
  pub by_stream : (cause : Cause) → (cause ≡ Damaged) ⊎ (cause ≡ Memory) → Finds cause a.core → is_open a.core.state n ≡ false → ServedSoFar tells n true old a → waiting_for n a.core.outbox ≡ [] → Served tells n old cause a
  by_stream cause (inl e) finds gone done empty =
      subst (λ (v : Cause). Served tells n old v a) (sym e)
      (then_served tells n old a a.core a.reader Damaged [] refl done (enters_none a.core) (gone, refl, refl) gone (λ _. empty) (λ before history given f. found ∙ ap (λ (v : Cause). Some (cause_view v)) e))
    where
      found : closed_by old.core.state (done.entries ++ []) n ≡ Some (cause_view cause)
      found = found_cause n old.core a.core cause done.entries done.frames done.extends done.stands gone finds
  by_stream cause (inr e) finds gone done empty =
      subst (λ (v : Cause). Served tells n old v a) (sym e)
      (then_served tells n old a a.core a.reader Memory [] refl done (enters_none a.core) (gone, refl, refl) gone (λ _. empty) (λ before history given f. found ∙ ap (λ (v : Cause). Some (cause_view v)) e))
    where
      found : closed_by old.core.state (done.entries ++ []) n ≡ Some (cause_view cause)
      found = found_cause n old.core a.core cause done.entries done.frames done.extends done.stands gone finds
