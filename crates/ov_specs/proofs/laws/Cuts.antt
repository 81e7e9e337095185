-- Laws of the cut.
use Rattle.std.proofs.Common.{◌≡◌, ℕ, ◌+◌, List, [], ◌∷◌, ◌++◌, length, refl, sym, ap, subst, ◌∙◌, eqb, ltb, Bool, true, false, Option, Some, None, arith}
use Rattle.std.proofs.lemmas.Bool.{eqb-true}
use Rattle.ov_specs.specs.wire.Balance.{is_space, is_balanced}
use Rattle.ov_specs.specs.wire.Cut.{Cut, Damage, AfterByte, BetweenMessages, WholeMessage, FoundDamage, cut_from, cut_after, after_byte, after_byte_between, after_byte_inside, with_message, continued, continue_cut}
use Rattle.ov_specs.specs.wire.Cut as cuts

message_follows : (message : List ℕ) (messages : List (List ℕ)) (rest : List ℕ) (d : Option Damage) (go : List ℕ → Cut) → with_message message (continued messages rest d go) ≡ continued (message ∷ messages) rest d go
message_follows message messages rest None go = refl
message_follows message messages rest (Some d) go = refl

append_step : (most at : ℕ) (s t : List ℕ) (end : ℕ) → (at + 1) + length s ≡ end
    → ((b : List ℕ) → cut_from most (at + 1) b (s ++ t) ≡ continue_cut (cut_from most (at + 1) b s) (λ rest. cut_from most (at + 1 + length s) rest t))
    → (n : AfterByte) → cut_after n (λ b. cut_from most (at + 1) b (s ++ t)) ≡ continue_cut (cut_after n (λ b. cut_from most (at + 1) b s)) (λ rest. cut_from most end rest t)
append_step most at s t end e again BetweenMessages = again [] ∙ ap (λ n. continue_cut (cut_from most (at + 1) [] s) (λ rest. cut_from most n rest t)) e
append_step most at s t end e again (cuts.InsideMessage b) = again b ∙ ap (λ n. continue_cut (cut_from most (at + 1) b s) (λ rest. cut_from most n rest t)) e
append_step most at s t end e again (WholeMessage message) =
    let c = cut_from most (at + 1) [] s in
    ap (with_message message) (again [] ∙ ap (λ n. continue_cut c (λ rest. cut_from most n rest t)) e) ∙ message_follows message c.messages c.rest c.damage _
append_step most at s t end e again (FoundDamage d) = refl

pub cut_append : (most at : ℕ) (begun s t : List ℕ) → cut_from most at begun (s ++ t) ≡ continue_cut (cut_from most at begun s) (λ rest. cut_from most (at + length s) rest t)
cut_append most at begun [] t = let e : at ≡ at + 0 = omega arith in ap (λ n. cut_from most n begun t) e
cut_append most at begun (x ∷ s) t = append_step most at s t (at + length (x ∷ s)) (omega arith) (λ b. cut_append most (at + 1) b s t) (after_byte most at begun x)

-- what is read anew as a rest
abbrev pub IsRest : ℕ → List ℕ → Type 0
IsRest most rest = (at : ℕ) → cut_from most at [] rest ≡ record { messages = []; rest = rest; damage = None }

-- a rest that is kept is looked at again from its front
pub restart : (most at : ℕ) (rest t : List ℕ) → IsRest most rest → cut_from most at [] (rest ++ t) ≡ cut_from most (at + length rest) rest t
restart most at rest t h = cut_append most at [] rest t ∙ ap (λ c. continue_cut c (λ r. cut_from most (at + length rest) r t)) (h at)

one_more : (most : ℕ) (begun : List ℕ) (x : ℕ) → IsRest most begun → ((at : ℕ) → after_byte most at begun x ≡ cuts.InsideMessage (begun ++ x ∷ [])) → IsRest most (begun ++ x ∷ [])
one_more most begun x h e at = restart most at begun (x ∷ []) h ∙ ap (λ n. cut_after n (λ b. cut_from most (at + length begun + 1) b [])) (e (at + length begun))

-- what a byte that does not end a message does
pub data IsByteStep (most : ℕ) (begun : List ℕ) (x : ℕ) : AfterByte → Type 0 where
  at_gap : begun ≡ [] → IsByteStep most begun x BetweenMessages
  at_more : ((at : ℕ) → after_byte most at begun x ≡ cuts.InsideMessage (begun ++ x ∷ [])) → IsByteStep most begun x (cuts.InsideMessage (begun ++ x ∷ []))
  at_whole : (message : List ℕ) → IsByteStep most begun x (WholeMessage message)
  at_damage : (d : Damage) → IsByteStep most begun x (FoundDamage d)

byte_step_between : (most at x : ℕ) (b c : Bool) → is_space x ≡ b → eqb x 123 ≡ c → IsByteStep most [] x (after_byte_between at x)
byte_step_between most at x true c p q = rw p (at_gap refl)
byte_step_between most at x false true p q = let e : x ≡ 123 = eqb-true x 123 q in
    let same : (n : ℕ) → after_byte_between n x ≡ cuts.InsideMessage ([] ++ x ∷ []) = λ n. rw (p, q) (ap (λ y. cuts.InsideMessage (y ∷ [])) (sym e)) in
    subst (IsByteStep most [] x) (sym (same at)) (at_more same)
byte_step_between most at x false false p q = rw (p, q) (at_damage _)

byte_step_inside : (most x : ℕ) (b : ℕ) (begun : List ℕ) (long balanced : Bool) → ltb most (length (b ∷ begun ++ x ∷ [])) ≡ long → is_balanced (b ∷ begun ++ x ∷ []) ≡ balanced → IsByteStep most (b ∷ begun) x (after_byte_inside most (b ∷ begun ++ x ∷ []))
byte_step_inside most x b begun true balanced p q = rw p (at_damage _)
byte_step_inside most x b begun false true p q = rw (p, q) (at_whole _)
byte_step_inside most x b begun false false p q =
    let same : after_byte_inside most (b ∷ begun ++ x ∷ []) ≡ cuts.InsideMessage (b ∷ begun ++ x ∷ []) = rw (p, q) refl in
    subst (IsByteStep most (b ∷ begun) x) (sym same) (at_more (λ at. same))

byte_step : (most at : ℕ) (begun : List ℕ) (x : ℕ) → IsByteStep most begun x (after_byte most at begun x)
byte_step most at [] x = byte_step_between most at x (is_space x) (eqb x 123) refl refl
byte_step most at (b ∷ begun) x = byte_step_inside most x b begun (ltb most (length (b ∷ begun ++ x ∷ []))) (is_balanced (b ∷ begun ++ x ∷ [])) refl refl

again_step : (most at : ℕ) (begun : List ℕ) (x : ℕ) (s : List ℕ) → IsRest most begun
    → ((cut_from most (at + 1) [] s).damage ≡ None → IsRest most (cut_from most (at + 1) [] s).rest)
    → (((n : ℕ) → after_byte most n begun x ≡ cuts.InsideMessage (begun ++ x ∷ [])) → (cut_from most (at + 1) (begun ++ x ∷ []) s).damage ≡ None → IsRest most (cut_from most (at + 1) (begun ++ x ∷ []) s).rest)
    → (n : AfterByte) → IsByteStep most begun x n → (cut_after n (λ b. cut_from most (at + 1) b s)).damage ≡ None → IsRest most (cut_after n (λ b. cut_from most (at + 1) b s)).rest
again_step most at begun x s h anew on BetweenMessages t d = anew d
again_step most at begun x s h anew on (cuts.InsideMessage b) (at_more same) d = on same d
again_step most at begun x s h anew on (WholeMessage message) t d = anew d
again_step most at begun x s h anew on (FoundDamage e) t d = cc

-- the rest of a cut is read anew as such
pub rest_again : (most at : ℕ) (begun s : List ℕ) → IsRest most begun → (cut_from most at begun s).damage ≡ None → IsRest most (cut_from most at begun s).rest
rest_again most at begun [] h d = h
rest_again most at begun (x ∷ s) h d = again_step most at begun x s h (rest_again most (at + 1) [] s (λ n. refl)) (λ same. rest_again most (at + 1) (begun ++ x ∷ []) s (one_more most begun x h same)) (after_byte most at begun x) (byte_step most at begun x) d
