-- What the front of a piece makes of a cutter, by what was found in it.
use Rattle.std.proofs.Common.{◌≡◌, ◌≢◌, ℕ, ◌+◌, ◌<◌, ◌≤◌, List, [], ◌∷◌, ◌++◌, length, take, drop, get_or, false, refl, sym, ap, subst, ◌∙◌, Some, None, arith}
use Rattle.std.specs.Prelude.{slice_get}
use Rattle.std.proofs.lemmas.List.{append-nil, length-append, take_all, take-append-drop, length-take-le}
use Rattle.ov_specs.specs.values.Capped.{capped_to_64_bits}
use Rattle.ov_specs.specs.wire.Balance.{is_space}
use Rattle.ov_specs.specs.wire.Cut.{AllSpace, cut_from, with_messages, max_message, Stray, TooLong}
use Rattle.ov_cut.specs.declared.fault.CutFault.{CutFault}
use Rattle.ov_cut.specs.declared.fault.CutFault.TheVariants as fault
use Rattle.ov_cut.specs.CutterState.{CutterState}
use Rattle.ov_cut.specs.Message.{Brings}
use Rattle.ov_cut.specs.Piece.{TakesPiece, advanced, with_fault}
use Rattle.ov_cut.proofs.Scan.{goes_on, brings_then, first_brings, gap_brings, stray_brings, take_add}
use Rattle.ov_cut.proofs.Feeding.{takes_messages, takes_damage, takes_memory, takes_then}

-- ---- a message that begins in the piece

module _ (text : List ℕ) (brace : slice_get text 0 ≡ Some 123) where
  pub first_more : Brings (take 1 text) (drop 1 text) [] (take 1 text ++ drop 1 text) → Brings [] text [] text
  first_more more = subst (λ t. Brings [] t [] t) (take-append-drop 1 text) (brings_then [] (take 1 text) (drop 1 text) [] (take 1 text) (take 1 text ++ drop 1 text) (first_brings text brace) more)

  first_take : (n : ℕ) → take 1 text ++ take n (drop 1 text) ≡ take (n + 1) text
  first_take n = take_add 1 n text ∙ ap (λ k. take k text) (let e : 1 + n ≡ n + 1 = omega arith in e)

  pub first_whole : (n : ℕ) → Brings (take 1 text) (take n (drop 1 text)) ((take 1 text ++ take n (drop 1 text)) ∷ []) [] → Brings [] (take (n + 1) text) (take (n + 1) text ∷ []) []
  first_whole n whole = subst (λ t. Brings [] t (t ∷ []) []) (first_take n) (brings_then [] (take 1 text) (take n (drop 1 text)) ((take 1 text ++ take n (drop 1 text)) ∷ []) (take 1 text) [] (first_brings text brace) whole)

  pub first_long : ((at : ℕ) → cut_from max_message at (take 1 text) (drop 1 text) ≡ record { messages = []; rest = []; damage = Some TooLong }) → (at : ℕ) → cut_from max_message at [] text ≡ record { messages = []; rest = []; damage = Some TooLong }
  first_long long at = ap (cut_from max_message at []) (sym (take-append-drop 1 text)) ∙ (goes_first at ∙ ap (with_messages []) (long (at + length (take 1 text))))
    where
      goes_first : (at : ℕ) → cut_from max_message at [] (take 1 text ++ drop 1 text) ≡ with_messages [] (cut_from max_message (at + length (take 1 text)) (take 1 text) (drop 1 text))
      goes_first at = goes_on [] (take 1 text) (drop 1 text) [] (take 1 text) at (first_brings text brace)

-- ---- a cutter with no fault, which has looked at some bytes

module _ (c : CutterState) (looked : ℕ) (before : List (List ℕ)) (h : c.fault ≡ None) where
  abbrev pub looking : CutterState
  looking = record c { looked = looked }

  -- a message ends in the piece
  pub took_whole : (piece message : List ℕ) (n : ℕ) (new : CutterState) (after : List (List ℕ)) → length message ≡ length c.rest + length (take n piece) → Brings c.rest (take n piece) (message ∷ []) [] → new ≡ record (advanced looking (length message)) { rest = [] } → after ≡ before ++ message ∷ [] → TakesPiece c before (take n piece) new after
  took_whole piece message n new after len brings is given =
      subst (λ ms. TakesPiece c before (take n piece) new ms) (sym given)
      (takes_messages c before (take n piece) h (message ∷ []) [] new brings (ap (λ (s : CutterState). s.rest) is) (ap (λ (s : CutterState). s.fault) is ∙ h)
      (λ begins start. let at = ap (λ (s : CutterState). s.start) is in (begins + length message, omega arith, at ∙ omega (arith, start))))

  -- none ends in it
  pub took_more : (piece : List ℕ) (new : CutterState) → Brings c.rest piece [] (c.rest ++ piece) → new ≡ record looking { rest = c.rest ++ piece } → TakesPiece c before (take (length piece) piece) new before
  took_more piece new brings is =
      let all : length piece ≤ length piece = omega arith in
      rw take_all (subst (λ ms. TakesPiece c before piece new ms) (append-nil before)
      (takes_messages c before piece h [] (c.rest ++ piece) new brings (ap (λ (s : CutterState). s.rest) is) (ap (λ (s : CutterState). s.fault) is ∙ h)
      (λ begins start. let at = ap (λ (s : CutterState). s.start) is in (begins, simp length-append (omega arith), at ∙ start))))

  -- an allocation failed for it
  pub took_none : (piece : List ℕ) (new : CutterState) (after : List (List ℕ)) (why : CutFault) → why ≡ fault.Memory → after ≡ before → TakesPiece c before piece (with_fault new why) after
  took_none piece new after why is same = rw (is, same) (takes_memory c before piece h new)

  pub took_long : (piece : List ℕ) (new : CutterState) → ((at : ℕ) → cut_from max_message at c.rest piece ≡ record { messages = []; rest = []; damage = Some TooLong }) → TakesPiece c before piece (with_fault new fault.TooLong) before
  took_long piece new long = takes_damage c before piece h new (λ n. TooLong) fault.TooLong long (λ begins start. refl)

  -- white space, if no message has begun
  module _ (between : c.rest ≡ []) where
    pub took_gap : (gap : List ℕ) → AllSpace gap → TakesPiece c before gap (advanced looking (length gap)) before
    took_gap gap space =
        subst (λ ms. TakesPiece c before gap (advanced looking (length gap)) ms) (append-nil before)
        (takes_messages c before gap h [] [] (advanced looking (length gap)) (subst (λ r. Brings r gap [] []) (sym between) (gap_brings gap space)) between h
        (λ begins start. (begins + length gap, omega (arith, ap length between), omega (arith, start))))

    pub took_stray : (piece : List ℕ) (n : ℕ) (new : CutterState) → n < length piece → AllSpace (take n piece) → is_space (get_or piece n 0) ≡ false → get_or piece n 0 ≢ 123 → TakesPiece c before piece (with_fault new (fault.Damaged (capped_to_64_bits (c.start + n)))) before
    took_stray piece n new within space no_space no_brace =
        takes_damage c before piece h new (λ at. Stray (at + n)) (fault.Damaged (capped_to_64_bits (c.start + n)))
        (subst (λ r. (at : ℕ) → cut_from max_message at r piece ≡ record { messages = []; rest = []; damage = Some (Stray (at + n)) }) (sym between) (stray_brings piece n within space no_space no_brace))
        (λ begins start. ap (λ k. Some (fault.Damaged k)) (omega (arith, start, ap length between)))

    -- a message after white space
    module _ (piece : List ℕ) (n : ℕ) (within : n < length piece) (space : AllSpace (take n piece)) (mid : CutterState) (is : mid ≡ advanced looking n) where
      gap_first : TakesPiece c before (take n piece) mid before
      gap_first = let le : n ≤ length piece = omega arith in subst (λ s. TakesPiece c before (take n piece) s before) (ap (advanced looking) (length-take-le n piece le) ∙ sym is) (took_gap (take n piece) space)

      pub gap_then : (m : ℕ) (new : CutterState) (after : List (List ℕ)) → TakesPiece mid before (take m (drop n piece)) new after → TakesPiece c before (take (n + m) piece) new after
      gap_then m new after two = subst (λ p. TakesPiece c before p new after) (take_add n m piece) (takes_then c mid new before before after (take n piece) (take m (drop n piece)) gap_first two)

      pub gap_over : (new : CutterState) (after : List (List ℕ)) → TakesPiece mid before (drop n piece) new after → TakesPiece c before piece new after
      gap_over new after two = subst (λ p. TakesPiece c before p new after) (take-append-drop n piece) (takes_then c mid new before before after (take n piece) (drop n piece) gap_first two)
