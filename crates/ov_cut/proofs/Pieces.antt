-- What is read of texts one after another, and of a stream with a piece more.
use Rattle.std.proofs.Common.{◌≡◌, ◌≢◌, ℕ, List, [], ◌∷◌, ◌++◌, refl, sym, ap, ◌∙◌, Bool, true, false, Option, Some, None, Err, is_some, append_assoc, append-nil}
use Rattle.std.proofs.lemmas.Bool.{false≢true}
use Rattle.ov_specs.specs.wire.Beginning.{BeginsAs}
use Rattle.ov_specs.specs.wire.Cut.{Damage, cut}
use Rattle.ov_specs.specs.wire.Message.{Message, Asked, asked, asked_of, with_asked, message_in}
use Rattle.ov_cut.specs.declared.fault.CutFault.{CutFault}
use Rattle.ov_cut.specs.declared.fault.CutFault.TheVariants as fault
use Rattle.ov_cut.specs.declared.fault.StreamFault.{StreamFault}
use Rattle.ov_cut.specs.declared.fault.StreamFault.TheVariants.{Damaged, Memory}
use Rattle.ov_cut.specs.CutterState.{CutterState, HasCut, fault_of_damage}
use Rattle.ov_cut.proofs.Feeding.{told_none}
use Rattle.ov_cut.specs.Reading.{IsFed, AreRead, ReadsPiece, ReadsText, ReadsTexts, with_all, first_fault}

-- ---- texts, one after another

-- the messages of the texts before the rest were read
abbrev pub ReadsSome : List (List ℕ) → List (List ℕ) → List Message → Type 0
ReadsSome texts rest messages = (others : List (List ℕ)) (damaged : Bool) → asked_of (texts ++ others) damaged ≡ with_all messages (asked_of (rest ++ others) damaged)

pub reads_none : (texts rest : List (List ℕ)) → rest ≡ texts → ReadsSome texts rest []
reads_none texts rest is = λ others damaged. ap (λ (ts : List (List ℕ)). asked_of (ts ++ others) damaged) (sym is)

-- a text more, of whatever message
next : (texts rest later : List (List ℕ)) (text : List ℕ) (messages : List Message) (o : Option Message) → rest ≡ text ∷ later → ReadsSome texts rest messages → message_in text ≡ o
    → (others : List (List ℕ)) (damaged : Bool) → asked_of (texts ++ others) damaged ≡ with_all messages (with_asked o (asked_of (later ++ others) damaged))
next texts rest later text messages o is so_far reads others damaged =
    so_far others damaged ∙ (ap (λ (ts : List (List ℕ)). with_all messages (asked_of (ts ++ others) damaged)) is
    ∙ ap (λ (p : Option Message). with_all messages (with_asked p (asked_of (later ++ others) damaged))) reads)

pub reads_more : (texts rest later : List (List ℕ)) (text : List ℕ) (before after : List Message) → rest ≡ text ∷ later → ReadsSome texts rest before
    → (message : Message) × (message_in text ≡ Some message) × (after ≡ before ++ message ∷ []) → ReadsSome texts later after
reads_more texts rest later text before after is so_far (message, reads, more) = λ others damaged.
    let a : Asked = asked_of (later ++ others) damaged in
    next texts rest later text before (Some message) is so_far reads others damaged
    ∙ ap (λ (ms : List Message). record a { messages = ms }) (sym (append_assoc before (message ∷ []) a.messages) ∙ ap (λ (ms : List Message). ms ++ a.messages) (sym more))

-- an allocation failed
reads_first : (texts rest : List (List ℕ)) (messages : List Message) → ReadsSome texts rest messages → ReadsTexts texts messages (Some Memory)
reads_first texts rest messages so_far = λ others damaged. ((asked_of (rest ++ others) damaged).messages, sym (ap (λ (a : Asked). a.messages) (so_far others damaged)))

-- a text could not be read
pub reads_stop : (texts rest later : List (List ℕ)) (text : List ℕ) (before after : List Message) (why : StreamFault) → rest ≡ text ∷ later → ReadsSome texts rest before → ReadsText text before (Err why) after
    → ReadsTexts texts after (Some why)
reads_stop texts rest later text before after Damaged is so_far (none, same) = λ others damaged.
    next texts rest later text before None is so_far none others damaged ∙ ap (λ (ms : List Message). record { messages = ms; damaged = true }) (append-nil before ∙ sym same)
reads_stop texts rest later text before after Memory is so_far same = rw same (reads_first texts rest before so_far)

pub reads_all : (texts rest : List (List ℕ)) (messages : List Message) → rest ≡ [] → ReadsSome texts rest messages → ReadsTexts texts messages None
reads_all texts rest messages none so_far = λ others damaged. so_far others damaged ∙ ap (λ (ts : List (List ℕ)). with_all messages (asked_of (ts ++ others) damaged)) none

-- ---- a piece

more_by : (o : Option Message) (rest more others : Asked) → (with_asked o rest).damaged ≡ false → (rest.damaged ≡ false → more ≡ with_all rest.messages others) → with_asked o more ≡ with_all (with_asked o rest).messages others
more_by None rest more others h again = absurd (false≢true (sym h))
more_by (Some m) rest more others h again = ap (λ (a : Asked). record a { messages = m ∷ a.messages }) (again h)

-- after texts that are all read
asked_more : (texts others : List (List ℕ)) (d e : Bool) → (asked_of texts d).damaged ≡ false → asked_of (texts ++ others) e ≡ with_all (asked_of texts d).messages (asked_of others e)
asked_more [] others d e h = refl
asked_more (text ∷ texts) others d e h = more_by (message_in text) (asked_of texts d) (asked_of (texts ++ others) e) (asked_of others e) h (asked_more texts others d e)

told_some : (d : Option Damage) (why : CutFault) → fault_of_damage d ≡ Some why → is_some d ≡ true
told_some None why h = cc
told_some (Some x) why h = refl

module _ (stream piece : List ℕ) (texts : List (List ℕ)) (before after : CutterState) (f : IsFed stream before) (messages : List Message) (begins : BeginsAs (f.given ++ texts) (cut (stream ++ piece)).messages) where
  -- what is asked with the piece, by the texts that it ends and others after them
  split : (others : List (List ℕ)) (e : Bool) → (f.given ++ texts) ++ others ≡ (cut (stream ++ piece)).messages → is_some (cut (stream ++ piece)).damage ≡ e
      → asked (stream ++ piece) ≡ with_all (asked stream).messages (asked_of (texts ++ others) e)
  unfolding asked
  split others e p q =
      ap (asked_of (cut (stream ++ piece)).messages) q ∙ (ap (λ (ts : List (List ℕ)). asked_of ts e) (sym p ∙ append_assoc f.given texts others)
      ∙ (asked_more f.given (texts ++ others) (is_some (cut stream).damage) e (ap (λ (ts : List (List ℕ)). (asked_of ts (is_some (cut stream).damage)).damaged) (sym f.cuts.messages) ∙ f.whole)
      ∙ ap (λ (ts : List (List ℕ)). with_all (asked_of ts (is_some (cut stream).damage)).messages (asked_of (texts ++ others) e)) (sym f.cuts.messages)))

  -- the texts were read up to a fault
  stopped : (why : StreamFault) → ReadsTexts texts messages (Some why) → AreRead (Some why) ((asked stream).messages ++ messages) (asked (stream ++ piece))
  stopped Damaged reads =
      let e : Bool = is_some (cut (stream ++ piece)).damage in
      split begins.0 e begins.1 refl ∙ ap (with_all (asked stream).messages) (reads begins.0 e)
  stopped Memory reads =
      let e : Bool = is_some (cut (stream ++ piece)).damage in
      let r = reads begins.0 e in
      (r.0, append_assoc (asked stream).messages messages r.0 ∙ (ap (λ (ms : List Message). (asked stream).messages ++ ms) r.1 ∙ sym (ap (λ (a : Asked). a.messages) (split begins.0 e begins.1 refl))))

  -- all texts were read, and the cutter gave all of them
  ended : ReadsTexts texts messages None → HasCut (stream ++ piece) (f.given ++ texts) after → (d : Bool) → is_some (cut (stream ++ piece)).damage ≡ d
      → asked (stream ++ piece) ≡ record { messages = (asked stream).messages ++ messages; damaged = d }
  ended reads now d is =
      split [] d (append-nil (f.given ++ texts) ∙ sym now.messages) is
      ∙ ap (with_all (asked stream).messages) (reads [] d ∙ ap (λ (ms : List Message). record { messages = ms; damaged = d }) (append-nil messages))

  pub reads_piece : (why : Option StreamFault) (told : Option CutFault) → ReadsTexts texts messages why → told ≡ after.fault → (told ≢ Some fault.Memory → HasCut (stream ++ piece) (f.given ++ texts) after)
      → ReadsPiece stream piece messages (first_fault why told) after
  reads_piece (Some why) told reads same cuts = record { asks = stopped why reads; goes_on = λ none. cc }
  reads_piece None None reads same cuts =
      let now = cuts (λ h. cc) in
      let asks = ended reads now false (ap is_some (told_none (cut (stream ++ piece)).damage (now.fault ∙ sym same))) in
      record {
        asks = asks;
        goes_on = λ _. record { given = f.given ++ texts; cuts = now; whole = ap (λ (a : Asked). a.damaged) asks };
      }
  reads_piece None (Some (fault.Damaged x)) reads same cuts =
      let now = cuts (λ h. cc) in
      record { asks = ended reads now true (told_some (cut (stream ++ piece)).damage (fault.Damaged x) (now.fault ∙ sym same)); goes_on = λ none. cc }
  reads_piece None (Some fault.TooLong) reads same cuts =
      let now = cuts (λ h. cc) in
      record { asks = ended reads now true (told_some (cut (stream ++ piece)).damage fault.TooLong (now.fault ∙ sym same)); goes_on = λ none. cc }
  reads_piece None (Some fault.Memory) reads same cuts = record { asks = stopped Memory (reads_first texts [] messages reads); goes_on = λ none. cc }

-- ---- nothing

pub nothing_asked : asked [] ≡ record { messages = []; damaged = false }
unfolding asked cut
nothing_asked = refl

-- a cutter that was given nothing
pub fed_none : (cutter : CutterState) → HasCut [] [] cutter → IsFed [] cutter
fed_none cutter cuts = record { given = []; cuts = cuts; whole = ap (λ (a : Asked). a.damaged) nothing_asked }
