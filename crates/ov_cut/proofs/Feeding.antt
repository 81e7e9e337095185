-- How the cut of a stream goes on by a piece.
use Rattle.std.proofs.Common.{◌≡◌, ◌≢◌, ℕ, ◌+◌, ◌≤◌, List, [], ◌++◌, length, take, drop, refl, sym, ap, subst, ◌∙◌, append_assoc, Option, Some, None, ◌⊎◌, inl, inr, arith}
use Rattle.std.specs.Prelude.{IsSome}
use Rattle.std.proofs.lemmas.Bool.{false≢true}
use Rattle.std.proofs.lemmas.List.{append-nil, length-append, take_all, take-append-drop}
use Rattle.ov_specs.specs.values.Capped.{capped_to_64_bits}
use Rattle.ov_specs.specs.wire.Beginning.{BeginsAs}
use Rattle.ov_specs.specs.wire.Cut.{Cut, Damage, Stray, TooLong, cut, cut_from, with_messages, continue_cut, max_message}
use Rattle.ov_specs.proofs.laws.Cuts.{cut_append}
use Rattle.ov_cut.specs.declared.fault.CutFault.{CutFault}
use Rattle.ov_cut.specs.declared.fault.CutFault.TheVariants as fault
use Rattle.ov_cut.specs.Message.{Brings}
use Rattle.ov_cut.specs.Piece.{TakesPiece, with_fault}
use Rattle.ov_cut.specs.CutterState.{CutterState, HasCut, fault_of_damage}

pub told_none : (d : Option Damage) → fault_of_damage d ≡ None → d ≡ None
told_none None h = refl
told_none (Some (Stray n)) h = cc
told_none (Some TooLong) h = cc

-- the cut of the stream with the piece, by that of the rest with the piece
pub fed : (stream piece : List ℕ) (given : List (List ℕ)) (c : CutterState) → HasCut stream given c → c.fault ≡ None → cut (stream ++ piece) ≡ with_messages given (cut_from max_message (length stream) c.rest piece)
unfolding cut
fed stream piece given c s h =
    let d : (cut stream).damage ≡ None = told_none (cut stream).damage (s.fault ∙ h) in
    let is : cut stream ≡ record { messages = given; rest = c.rest; damage = None } = ap (λ ms. record (cut stream) { messages = ms }) s.messages ∙ (ap (λ r. record { messages = given; rest = r; damage = (cut stream).damage }) s.rest ∙ ap (λ e. record { messages = given; rest = c.rest; damage = e }) d) in
    let at : 0 + length stream ≡ length stream = omega arith in
    cut_append max_message 0 [] stream piece
    ∙ (ap (λ k. continue_cut k (λ rest. cut_from max_message (0 + length stream) rest piece)) is
    ∙ ap (λ n. with_messages given (cut_from max_message n c.rest piece)) at)

-- a cut that found damage stays as it is
pub damaged_stays : (stream piece : List ℕ) (d : Damage) → (cut stream).damage ≡ Some d → cut (stream ++ piece) ≡ cut stream
unfolding cut
damaged_stays stream piece d h = cut_append max_message 0 [] stream piece ∙ stays (cut_from max_message 0 [] stream).messages (cut_from max_message 0 [] stream).rest (cut_from max_message 0 [] stream).damage h
  where
    stays : (ms : List (List ℕ)) (r : List ℕ) (e : Option Damage) → e ≡ Some d → continue_cut (record { messages = ms; rest = r; damage = e }) (λ rest. cut_from max_message (0 + length stream) rest piece) ≡ record { messages = ms; rest = r; damage = e }
    stays ms r None k = cc
    stays ms r (Some e) k = refl

-- the messages of a stream stay those that a longer one begins with
pub messages_grow : (stream piece : List ℕ) → BeginsAs (cut stream).messages (cut (stream ++ piece)).messages
unfolding cut
messages_grow stream piece = subst (λ (k : Cut). BeginsAs (cut_from max_message 0 [] stream).messages k.messages) (sym (cut_append max_message 0 [] stream piece)) (grow (cut_from max_message 0 [] stream).messages (cut_from max_message 0 [] stream).rest (cut_from max_message 0 [] stream).damage)
  where
    grow : (ms : List (List ℕ)) (r : List ℕ) (e : Option Damage) → BeginsAs ms (continue_cut (record { messages = ms; rest = r; damage = e }) (λ rest. cut_from max_message (0 + length stream) rest piece)).messages
    grow ms r None = ((cut_from max_message (0 + length stream) r piece).messages, refl)
    grow ms r (Some e) = ([], append-nil ms)

pub begins_more : (a b c : List (List ℕ)) → BeginsAs a b → BeginsAs b c → BeginsAs a c
begins_more a b c x y = (x.0 ++ y.0, sym (append_assoc a x.0 y.0) ∙ (ap (λ m. m ++ y.0) x.1 ∙ y.1))

-- ---- a cutter with a fault

pub stays_same : (stream piece : List ℕ) (given : List (List ℕ)) (c : CutterState) → IsSome c.fault → HasCut stream given c → HasCut (stream ++ piece) given c
stays_same stream piece given c some s = at_damage (cut stream).damage refl
  where
    at_damage : (e : Option Damage) → (cut stream).damage ≡ e → HasCut (stream ++ piece) given c
    at_damage None h = absurd (let no : IsSome {T = CutFault} None = subst IsSome (sym s.fault ∙ ap fault_of_damage h) some in false≢true no)
    at_damage (Some d) h = let same = damaged_stays stream piece d h in record {
      messages = ap (λ (k : Cut). k.messages) same ∙ s.messages;
      rest = ap (λ (k : Cut). k.rest) same ∙ s.rest;
      fault = ap (λ (k : Cut). fault_of_damage k.damage) same ∙ s.fault;
      place = λ none. absurd (let no : IsSome {T = CutFault} None = subst IsSome none some in false≢true no);
    }

grows : (stream piece : List ℕ) (given : List (List ℕ)) (c : CutterState) → HasCut stream given c → BeginsAs given (cut (stream ++ piece)).messages
grows stream piece given c s = subst (λ (ms : List (List ℕ)). BeginsAs ms (cut (stream ++ piece)).messages) s.messages (messages_grow stream piece)

pub takes_none : (c : CutterState) (before : List (List ℕ)) → TakesPiece c before [] c before
takes_none c before = record {
  whole = λ stream given s enough. rw append-nil s;
  memory = λ stream given s. grows stream [] (given ++ before) c s;
  over = λ some. (refl, refl);
}

takes_over : (c : CutterState) (before : List (List ℕ)) (piece : List ℕ) → IsSome c.fault → TakesPiece c before piece c before
takes_over c before piece some = record {
  whole = λ stream given s enough. stays_same stream piece (given ++ before) c some s;
  memory = λ stream given s. grows stream piece (given ++ before) c s;
  over = λ again. (refl, refl);
}

-- ---- one piece after another

module _ (old mid new : CutterState) (before between after : List (List ℕ)) (p q : List ℕ) (one : TakesPiece old before p mid between) (two : TakesPiece mid between q new after) where
  over_later : IsSome mid.fault → (after ≡ between) × (new ≡ mid)
  over_later some = two.over some

  then_memory : (stream : List ℕ) (given : List (List ℕ)) → HasCut stream (given ++ before) old → (f : Option CutFault) → mid.fault ≡ f → BeginsAs (given ++ after) (cut ((stream ++ p) ++ q)).messages
  then_memory stream given s None e = two.memory (stream ++ p) given (one.whole stream given s (λ m. cc))
  then_memory stream given s (Some why) e =
      let some : IsSome mid.fault = subst IsSome (sym e) refl in
      subst (λ ms. BeginsAs (given ++ ms) (cut ((stream ++ p) ++ q)).messages) (sym (two.over some).0)
      (begins_more (given ++ between) (cut (stream ++ p)).messages (cut ((stream ++ p) ++ q)).messages (one.memory stream given s) (messages_grow (stream ++ p) q))

  pub takes_then : TakesPiece old before (p ++ q) new after
  takes_then = record {
    whole = λ stream given s enough.
        let goes : mid.fault ≢ Some fault.Memory = λ e. (let some : IsSome mid.fault = subst IsSome (sym e) refl in enough (ap (λ (c : CutterState). c.fault) (two.over some).1 ∙ e)) in
        subst (λ t. HasCut t (given ++ after) new) (append_assoc stream p q) (two.whole (stream ++ p) given (one.whole stream given s goes) enough);
    memory = λ stream given s. subst (λ t. BeginsAs (given ++ after) (cut t).messages) (append_assoc stream p q) (then_memory stream given s mid.fault refl);
    over = λ some.
        let o = one.over some in
        let t = two.over (subst (λ (c : CutterState). IsSome c.fault) (sym o.1) some) in
        (t.0 ∙ o.0, t.1 ∙ o.1);
  }

-- all of a piece was taken, or no more is, since there is a fault
pub takes_all : (old new : CutterState) (before after : List (List ℕ)) (piece : List ℕ) (used : ℕ) → (length piece ≤ used) ⊎ IsSome new.fault → TakesPiece old before (take used piece) new after → TakesPiece old before piece new after
takes_all old new before after piece used (inl all) t = subst (λ p. TakesPiece old before p new after) (take_all used piece all) t
takes_all old new before after piece used (inr some) t = subst (λ p. TakesPiece old before p new after) (take-append-drop used piece) (takes_then old new new before after after (take used piece) (drop used piece) t (takes_over new after (drop used piece) some))

-- ---- a cutter with no fault

module _ (c : CutterState) (before : List (List ℕ)) (piece : List ℕ) (h : c.fault ≡ None) where
  no_fault : {X : Type 0} → IsSome c.fault → X
  no_fault some = absurd (let no : IsSome {T = CutFault} None = subst IsSome h some in false≢true no)

  -- where a stream's bytes are reported, by those before the rest
  abbrev pub Moves : List ℕ → CutterState → Type 0
  Moves rest new = (begins : ℕ) → c.start ≡ capped_to_64_bits begins → (next : ℕ) × (next + length rest ≡ begins + (length c.rest + length piece)) × (new.start ≡ capped_to_64_bits next)

  module _ (messages : List (List ℕ)) (rest : List ℕ) (new : CutterState) (brings : Brings c.rest piece messages rest) (same : new.rest ≡ rest) (sound : new.fault ≡ None) (moves : Moves rest new) where
    takes_whole : (stream : List ℕ) (given : List (List ℕ)) → HasCut stream (given ++ before) c → HasCut (stream ++ piece) (given ++ (before ++ messages)) new
    takes_whole stream given s =
        let is = fed stream piece (given ++ before) c s h ∙ ap (with_messages (given ++ before)) (brings (length stream)) in
        let old = s.place h in
        let next = moves old.0 old.2 in
        record {
          messages = ap (λ (k : Cut). k.messages) is ∙ append_assoc given before messages;
          rest = ap (λ (k : Cut). k.rest) is ∙ sym same;
          fault = ap (λ (k : Cut). fault_of_damage k.damage) is ∙ sym sound;
          place = λ _. (next.0, simp length-append (omega (arith, next.1, old.1, ap length same)), next.2);
        }

    pub takes_messages : TakesPiece c before piece new (before ++ messages)
    takes_messages = record {
      whole = λ stream given s enough. takes_whole stream given s;
      memory = λ stream given s. ([], append-nil (given ++ (before ++ messages)) ∙ sym (takes_whole stream given s).messages);
      over = λ some. no_fault some;
    }

  -- damage, which is reported as it is
  module _ (new : CutterState) (damage : ℕ → Damage) (why : CutFault) (brings : (at : ℕ) → cut_from max_message at c.rest piece ≡ record { messages = []; rest = []; damage = Some (damage at) }) (told : (begins : ℕ) → c.start ≡ capped_to_64_bits begins → fault_of_damage (Some (damage (begins + length c.rest))) ≡ Some why) where
    damaged_whole : (stream : List ℕ) (given : List (List ℕ)) → HasCut stream (given ++ before) c → HasCut (stream ++ piece) (given ++ before) (with_fault new why)
    damaged_whole stream given s =
        let old = s.place h in
        let is = fed stream piece (given ++ before) c s h ∙ ap (with_messages (given ++ before)) (brings (length stream)) in
        record {
          messages = ap (λ (k : Cut). k.messages) is ∙ append-nil (given ++ before);
          rest = ap (λ (k : Cut). k.rest) is;
          fault = ap (λ (k : Cut). fault_of_damage k.damage) is ∙ (ap (λ n. fault_of_damage (Some (damage n))) (sym old.1) ∙ told old.0 old.2);
          place = λ none. cc;
        }

    pub takes_damage : TakesPiece c before piece (with_fault new why) before
    takes_damage = record {
      whole = λ stream given s enough. damaged_whole stream given s;
      memory = λ stream given s. ([], append-nil (given ++ before) ∙ sym (damaged_whole stream given s).messages);
      over = λ some. no_fault some;
    }

  pub takes_memory : (new : CutterState) → TakesPiece c before piece (with_fault new fault.Memory) before
  takes_memory new = record {
    whole = λ stream given s enough. absurd (enough refl);
    memory = λ stream given s. grows stream piece (given ++ before) c s;
    over = λ some. no_fault some;
  }

-- a cutter that was given nothing
pub has_cut_nothing : (rest : List ℕ) (looked : ℕ) → rest ≡ [] → HasCut [] [] (record { start = 0; rest = rest; fault = None; looked = looked })
unfolding cut
has_cut_nothing rest looked empty = record {
  messages = refl;
  rest = sym empty;
  fault = refl;
  place = λ h. (0, omega (arith, ap length empty), refl);
}
