-- How a piece of a session's stream goes into the history.
use Rattle.std.proofs.Common.{◌≡◌, ℕ, List, [], ◌∷◌, ◌++◌, refl, sym, ap, subst, ◌∙◌, Bool, true, false, Option, Some, None, append_assoc, inr}
use Rattle.std.proofs.lemmas.List.{append-nil}
use Rattle.std.proofs.lemmas.Bool.{eq-eqb, false≢true}
use Rattle.ov_specs.specs.wire.Message.{Message, Asked, asked}
use Rattle.ov_specs.specs.machine.Machine as machine
use Rattle.ov_specs.specs.machine.Machine.{State, Entry, is_open}
use Rattle.ov_specs.specs.machine.Streams.{Feeds, delivered}
use Rattle.ov_cut.specs.declared.fault.StreamFault.{StreamFault}
use Rattle.ov_cut.specs.declared.fault.StreamFault.TheVariants.{Damaged, Memory}
use Rattle.ov_cut.specs.CutterState.{CutterState}
use Rattle.ov_cut.specs.Reading.{AreRead, ReadsPiece}
use Rattle.ov_core.specs.Following.{CoreState, Extends}
use Rattle.ov_streams.specs.Feeding.{EntersPiece, EntersOwn, fed_piece, is_event_of}
use Rattle.ov_streams.specs.Entering.{EntersMessages, ClosesByEntry, closing_cause_of}
use Rattle.ov_streams.proofs.Entering.{by_memory, enters_more, own_more}

module _ {K D : Type 0} (at n : ℕ) (messages : List Message) (old mid : CoreState K D) (all : EntersMessages at n messages old mid) where
  -- whatever the stream was, the messages were entered in entries of the session alone
  pub own_messages : EntersOwn n old mid
  own_messages = record { entries = all.entries; own = all.own; enters = all.enters }

  -- and so was a closing after them
  pub own_closing : (cause : machine.Cause) (new : CoreState K D) → ClosesByEntry at n cause mid new → EntersOwn n old new
  own_closing cause new s = record {
    entries = all.entries ++ s.entry ∷ [];
    own = own_more n all.entries s.entry all.own (ap (is_event_of n) s.is.event ∙ eq-eqb n n refl);
    enters = enters_more old mid new all.entries (s.entry ∷ []) all.enters s.adds.enters;
  }

module _ {K D : Type 0} (at n : ℕ) (stream piece : List ℕ) (messages : List Message) (old mid : CoreState K D) (after : CutterState) (all : EntersMessages at n messages old mid) where
  -- others may follow those that were read, if an allocation failed
  abbrev others_of : (why : Option StreamFault) → AreRead why ((asked stream).messages ++ messages) (asked (stream ++ piece)) → (others : List Message) × ((asked (stream ++ piece)).messages ≡ (asked stream).messages ++ (messages ++ others))
  others_of None asks = ([], ap (λ (a : Asked). a.messages) asks ∙ ap (λ (ms : List Message). (asked stream).messages ++ ms) (sym (append-nil messages)))
  others_of (Some Damaged) asks = ([], ap (λ (a : Asked). a.messages) asks ∙ ap (λ (ms : List Message). (asked stream).messages ++ ms) (sym (append-nil messages)))
  others_of (Some Memory) asks = (asks.0, sym asks.1 ∙ append_assoc (asked stream).messages messages asks.0)

  -- a message closed the session
  pub at_message : (why : Option StreamFault) → ReadsPiece stream piece messages why after → is_open mid.state n ≡ false → EntersPiece at (fed_piece n stream piece) old mid after
  at_message why r away = let o = others_of why r.asks in record {
    messages = messages ++ o.0;
    more = o.1;
    entries = all.entries;
    feeds = all.ends away o.0 (asked (stream ++ piece)).damaged;
    enters = all.enters;
    goes_on = λ there. absurd (false≢true (sym away ∙ there));
  }

  -- the piece ends no stream
  pub at_end : ReadsPiece stream piece messages None after → is_open mid.state n ≡ true → EntersPiece at (fed_piece n stream piece) old mid after
  at_end r there = record {
    messages = messages ++ [];
    more = (others_of None r.asks).1;
    entries = all.entries ++ [];
    feeds = all.goes_on there [] (asked (stream ++ piece)).damaged [] mid.state (subst (λ (d : Bool). Feeds (delivered at n) mid.state [] d [] mid.state) (sym (ap (λ (a : Asked). a.damaged) r.asks)) refl);
    enters = subst (λ (k : List Entry). Extends old k mid) (sym (append-nil all.entries)) all.enters;
    goes_on = λ _. r.goes_on refl;
  }

  -- the fault closes the session
  closes : (others : List Message) → (asked (stream ++ piece)).messages ≡ (asked stream).messages ++ (messages ++ others) → is_open mid.state n ≡ true → (cause : machine.Cause) (new : CoreState K D) (s : ClosesByEntry at n cause mid new)
      → Feeds (delivered at n) mid.state others (asked (stream ++ piece)).damaged (s.entry ∷ []) s.step.state → EntersPiece at (fed_piece n stream piece) old new after
  closes others more there cause new s f = record {
    messages = messages ++ others;
    more = more;
    entries = all.entries ++ s.entry ∷ [];
    feeds =
        subst (λ (v : State). Feeds (delivered at n) old.state (messages ++ others) (asked (stream ++ piece)).damaged (all.entries ++ s.entry ∷ []) v) s.adds.state
        (all.goes_on there others (asked (stream ++ piece)).damaged (s.entry ∷ []) s.step.state f);
    enters = enters_more old mid new all.entries (s.entry ∷ []) all.enters s.adds.enters;
    goes_on = λ open'. absurd (false≢true (sym (ap (λ (v : State). is_open v n) (sym s.adds.state) ∙ s.shut) ∙ open'));
  }

  -- the stream can't be read on
  pub at_fault : (why : StreamFault) → ReadsPiece stream piece messages (Some why) after → is_open mid.state n ≡ true → (new : CoreState K D) → ClosesByEntry at n (closing_cause_of why) mid new
      → EntersPiece at (fed_piece n stream piece) old new after
  at_fault Damaged r there new s =
      closes [] (others_of (Some Damaged) r.asks).1 there machine.Damaged new s
      (subst (λ (d : Bool). Feeds (delivered at n) mid.state [] d (s.entry ∷ []) s.step.state) (sym (ap (λ (a : Asked). a.damaged) r.asks)) (s.step, inr (refl, s.is), refl))
  at_fault Memory r there new s =
      let o = others_of (Some Memory) r.asks in
      closes o.0 o.1 there machine.Memory new s (by_memory at mid.state n o.0 (asked (stream ++ piece)).damaged s.entry s.step s.is)
