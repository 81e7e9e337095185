-- The cut as a relation and the cut as a program are one.
use Rattle.std.proofs.Common.{◌≡◌, ◌≢◌, ℕ, suc, zero, ◌+◌, ◌-◌, ◌<◌, ◌≤◌, List, [], ◌∷◌, ◌++◌, length, get_or, take, drop, refl, sym, ap, subst, ◌∙◌, append_assoc, cond, eqb, Bool, true, false, Option, Some, None, ◌⊎◌, inl, inr, arith, lit<}
use Rattle.std.specs.Prelude.{◌↔◌, slice_get}
use Rattle.std.specs.List.{AllByRecursion}
use Rattle.std.proofs.lemmas.List.{append-nil, length-append, length-take-le, length_push, take_all, take_at, take-take, take-append-drop, take-append-le, drop_more, take_more}
use Rattle.std.proofs.lemmas.List.Elements.{All-nil, All-cons, recursion_from_All}
use Rattle.std.proofs.lemmas.Bool.{cases_Bool, cases_lt, eqb-true, eqb-false, ne_eqb, le-ltb, lt-ltb}
use Rattle.ov_specs.specs.wire.Balance.{is_space, is_balanced, IsMessage, IsBegun}
use Rattle.ov_specs.specs.wire.Cut.{Cut, Damage, Stray, TooLong, FoundDamage, cut_from, cut_after, after_byte, after_byte_inside, with_message, with_messages, continued, continue_cut, cut, max_message, IsCut, IsCutAt, AllSpace}
use Rattle.ov_specs.specs.wire.Cut as cuts
use Rattle.ov_specs.proofs.laws.Cuts.{cut_append, restart, rest_again}

-- the test of white space, as a fact
abbrev Space : ℕ → Type 0
Space x = is_space x ≡ true

-- each front but the empty one is unbalanced
abbrev Unclosed : List ℕ → Type 0
Unclosed text = (n : ℕ) → 0 < n → n ≤ length text → is_balanced (take n text) ≡ false

-- ---- one byte more

-- after a message that has begun
next_is : (most at : ℕ) (begun : List ℕ) (x : ℕ) → 0 < length begun → after_byte most at begun x ≡ after_byte_inside most (begun ++ x ∷ [])
next_is most at [] x h = absurd (omega arith)
next_is most at (b ∷ begun) x h = refl

-- what a byte makes of a message, by whether that is too long and balanced
abbrev within : Bool → Bool → List ℕ → cuts.AfterByte
within long balanced text = cond long (FoundDamage TooLong) (cond balanced (cuts.WholeMessage text) (cuts.InsideMessage text))

-- a message grows too long
run_long : (most at : ℕ) (begun : List ℕ) (x : ℕ) (s : List ℕ) → 0 < length begun → most < length (begun ++ x ∷ []) → cut_from most at begun (x ∷ s) ≡ record { messages = []; rest = []; damage = Some TooLong }
run_long most at begun x s h long = ap (λ n. cut_after n (λ b. cut_from most (at + 1) b s)) (next_is most at begun x h ∙ ap (λ b. within b (is_balanced (begun ++ x ∷ [])) (begun ++ x ∷ [])) (lt-ltb most _ long))

-- a message ends
run_whole : (most at : ℕ) (begun : List ℕ) (x : ℕ) (s : List ℕ) → 0 < length begun → length (begun ++ x ∷ []) ≤ most → is_balanced (begun ++ x ∷ []) ≡ true → cut_from most at begun (x ∷ s) ≡ with_message (begun ++ x ∷ []) (cut_from most (at + 1) [] s)
run_whole most at begun x s h short b = ap (λ n. cut_after n (λ b. cut_from most (at + 1) b s)) (next_is most at begun x h ∙ (ap (λ b. within b (is_balanced (begun ++ x ∷ [])) (begun ++ x ∷ [])) (le-ltb most _ short) ∙ ap (λ b. within false b (begun ++ x ∷ [])) b))

-- a message goes on
run_more : (most at : ℕ) (begun : List ℕ) (x : ℕ) (s : List ℕ) → 0 < length begun → length (begun ++ x ∷ []) ≤ most → is_balanced (begun ++ x ∷ []) ≡ false → cut_from most at begun (x ∷ s) ≡ cut_from most (at + 1) (begun ++ x ∷ []) s
run_more most at begun x s h short b = ap (λ n. cut_after n (λ b. cut_from most (at + 1) b s)) (next_is most at begun x h ∙ (ap (λ b. within b (is_balanced (begun ++ x ∷ [])) (begun ++ x ∷ [])) (le-ltb most _ short) ∙ ap (λ b. within false b (begun ++ x ∷ [])) b))

-- white space between messages
run_space : (most at x : ℕ) (s : List ℕ) → is_space x ≡ true → cut_from most at [] (x ∷ s) ≡ cut_from most (at + 1) [] s
run_space most at x s h = rw h refl

-- a byte that begins no message
run_stray : (most at x : ℕ) (s : List ℕ) → is_space x ≡ false → eqb x 123 ≡ false → cut_from most at [] (x ∷ s) ≡ record { messages = []; rest = []; damage = Some (Stray at) }
run_stray most at x s h k = rw (h, k) refl

-- ---- many bytes more

-- white space leaves the cut to what follows it, by recursion on the white space
skip : (most at : ℕ) (gap t : List ℕ) → AllByRecursion Space gap → cut_from most at [] (gap ++ t) ≡ cut_from most (at + length gap) [] t
skip most at [] t h = let e : at ≡ at + 0 = omega arith in ap (λ n. cut_from most n [] t) e
skip most at (x ∷ gap) t (h, hs) =
    let e : (at + 1) + length gap ≡ at + length (x ∷ gap) = omega arith in
    run_space most at x (gap ++ t) h ∙ (skip most (at + 1) gap t hs ∙ ap (λ n. cut_from most n [] t) e)

-- white space leaves the cut to what follows it
skip_gap : (most at : ℕ) (gap t : List ℕ) → AllSpace gap → cut_from most at [] (gap ++ t) ≡ cut_from most (at + length gap) [] t
skip_gap most at gap t h = skip most at gap t (recursion_from_All Space gap h)

-- the front that ends with the first byte of the rest
front : (p : List ℕ) (x : ℕ) (q : List ℕ) → take (length p + 1) (p ++ x ∷ q) ≡ p ++ x ∷ []
front p x q = ap (take (length p + 1)) (sym (append_assoc p (x ∷ []) q)) ∙ take_at (p ++ x ∷ []) q (length p + 1) (length_push p x)

-- a message that has begun grows by bytes that do not end it
scan : (most at : ℕ) (p q t : List ℕ) → 0 < length p → Unclosed (p ++ q) → length (p ++ q) ≤ most → cut_from most at p (q ++ t) ≡ cut_from most (at + length q) (p ++ q) t
scan most at p [] t some u short = let e : at ≡ at + 0 = omega arith in ap (λ n. cut_from most n p t) e ∙ ap (λ b. cut_from most (at + 0) b t) (sym (append-nil p))
scan most at p (x ∷ q) t some u short =
    let assoc : (p ++ x ∷ []) ++ q ≡ p ++ x ∷ q = append_assoc p (x ∷ []) q in
    let l : length (p ++ x ∷ q) ≡ length p + length (x ∷ q) = length-append p (x ∷ q) in
    let k : length (p ++ x ∷ []) ≡ length p + 1 = length_push p x in
    let open' : is_balanced (p ++ x ∷ []) ≡ false = ap is_balanced (sym (front p x q)) ∙ u (length p + 1) (omega arith) (omega arith) in
    let e : (at + 1) + length q ≡ at + length (x ∷ q) = omega arith in
    run_more most at p x (q ++ t) some (omega arith) open'
    ∙ (scan most (at + 1) (p ++ x ∷ []) q t (omega arith) (subst Unclosed (sym assoc) u) (omega (arith, ap length assoc))
    ∙ (ap (λ n. cut_from most n ((p ++ x ∷ []) ++ q) t) e ∙ ap (λ b. cut_from most (at + length (x ∷ q)) b t) assoc))

-- a message that has begun leaves the cut to what follows it
scan_begun : (most at : ℕ) (text t : List ℕ) → IsBegun text → length text ≤ most → cut_from most at [] (text ++ t) ≡ cut_from most (at + length text) text t
scan_begun most at [] t b short = let h : slice_get {X = ℕ} [] 0 ≡ Some 123 = b.begins in cc
scan_begun most at (x ∷ q) t b short =
    let h : slice_get (x ∷ q) 0 ≡ Some 123 = b.begins in
    let e : x ≡ 123 = cc in
    let n : (at + 1) + length q ≡ at + length (x ∷ q) = omega arith in
    ap (λ y. cut_from most at [] (y ∷ (q ++ t))) e
    ∙ (scan most (at + 1) (123 ∷ []) q t (omega arith) (subst (λ y. Unclosed (y ∷ q)) e b.unclosed) short
    ∙ (ap (λ n. cut_from most n (123 ∷ q) t) n ∙ ap (λ y. cut_from most (at + length (x ∷ q)) (y ∷ q) t) (sym e)))

-- a message but for its last byte, which ends it
record Ending (message : List ℕ) : Type 0 where
  begun : List ℕ
  last : ℕ
  is : message ≡ begun ++ last ∷ []
  has_begun : IsBegun begun
  some : 0 < length begun

-- a message that has begun has a first byte
begun_some : (begun : List ℕ) → IsBegun begun → 0 < length begun
begun_some [] b = let h : slice_get {X = ℕ} [] 0 ≡ Some 123 = b.begins in cc
begun_some (x ∷ begun) b = omega arith

-- a front begins as the whole does
front_begins : (m : List ℕ) (k : ℕ) → 0 < k → slice_get m 0 ≡ Some 123 → slice_get (take k m) 0 ≡ Some 123
front_begins m zero h b = absurd (omega arith)
front_begins [] (suc k) h b = b
front_begins (x ∷ m) (suc k) h b = b

-- a message ends with the byte after a message that has begun
ending : (message : List ℕ) → IsMessage message → Ending message
ending [] m = let h : slice_get {X = ℕ} [] 0 ≡ Some 123 = m.begins in cc
ending (x ∷ []) m =
    let h : slice_get (x ∷ []) 0 ≡ Some 123 = m.begins in
    let e : x ≡ 123 = cc in
    let b : true ≡ is_balanced (123 ∷ []) = sym m.balanced ∙ ap (λ y. is_balanced (y ∷ [])) e in
    cc
ending (x ∷ y ∷ q) m =
    let k = length (y ∷ q) in
    let long : length (x ∷ y ∷ q) ≡ k + 1 = omega arith in
    let whole : (x ∷ y ∷ q) ≡ take k (x ∷ y ∷ q) ++ get_or (x ∷ y ∷ q) k 0 ∷ [] =
    sym (ap (λ n. take n (x ∷ y ∷ q)) (sym long) ∙ take_all (length (x ∷ y ∷ q)) (x ∷ y ∷ q) (omega arith)) ∙ take_more (x ∷ y ∷ q) k 0 (omega arith) in
    let size : length (take k (x ∷ y ∷ q)) ≡ k = length-take-le k (x ∷ y ∷ q) (omega arith) in
    record {
      begun = take k (x ∷ y ∷ q);
      last = get_or (x ∷ y ∷ q) k 0;
      is = whole;
      has_begun = record {
        begins = front_begins (x ∷ y ∷ q) k (omega arith) m.begins;
        unclosed = λ n some short. ap is_balanced (take-take n k (x ∷ y ∷ q) (omega arith)) ∙ m.shortest n some (omega arith);
      };
      some = omega arith;
    }

-- a message is cut off
scan_message : (most at : ℕ) (message t : List ℕ) → IsMessage message → length message ≤ most → cut_from most at [] (message ++ t) ≡ with_message message (cut_from most (at + length message) [] t)
scan_message most at message t m short =
    let e : Ending message = ending message m in
    let size : length message ≡ length e.begun + 1 = ap length e.is ∙ length_push e.begun e.last in
    let n : (at + length e.begun) + 1 ≡ at + length message = omega arith in
    ap (λ l. cut_from most at [] (l ++ t)) e.is
    ∙ (ap (cut_from most at []) (append_assoc e.begun (e.last ∷ []) t)
    ∙ (scan_begun most at e.begun (e.last ∷ t) e.has_begun (omega arith)
    ∙ (run_whole most (at + length e.begun) e.begun e.last t e.some (omega (arith, ap length e.is)) (ap is_balanced (sym e.is) ∙ m.balanced)
    ∙ (ap (λ l. with_message l (cut_from most ((at + length e.begun) + 1) [] t)) (sym e.is) ∙ ap (λ k. with_message message (cut_from most k [] t)) n))))

-- a message that is too long
scan_long : (most at : ℕ) (text : List ℕ) → most < length text → IsBegun (take most text) → cut_from most at [] text ≡ record { messages = []; rest = []; damage = Some TooLong }
scan_long most at text long b =
    let size : length (take most text) ≡ most = length-take-le most text (omega arith) in
    ap (cut_from most at []) (sym (take-append-drop most text))
    ∙ (scan_begun most at (take most text) (drop most text) b (omega arith)
    ∙ (ap (cut_from most (at + length (take most text)) (take most text)) (drop_more text most 0 long)
    ∙ run_long most (at + length (take most text)) (take most text) (get_or text most 0) (drop (most + 1) text) (begun_some (take most text) b) (omega (arith, length_push (take most text) (get_or text most 0)))))

-- ---- the relation leaves one cut

-- an end by the relation is what the program makes of it
ends_one : (most at : ℕ) (s rest : List ℕ) (d : Option Damage) → IsCutAt most at s [] rest d → record { messages = []; rest = rest; damage = d } ≡ cut_from most at [] s
ends_one most at s rest None (gap, e, space, inl none) =
    sym (ap (cut_from most at []) (e ∙ ap (λ l. gap ++ l) none) ∙ (skip_gap most at gap [] space ∙ ap (λ l. record { messages = []; rest = l; damage = None }) (sym none)))
ends_one most at s rest None (gap, e, space, inr (b, short)) =
    sym (ap (cut_from most at []) e ∙ (skip_gap most at gap rest space
    ∙ (ap (cut_from most (at + length gap) []) (sym (append-nil rest)) ∙ scan_begun most (at + length gap) rest [] b short)))
ends_one most at s rest (Some (Stray offset)) (gap, following, x, e, space, solid, ne, off, none) =
    sym (ap (cut_from most at []) e ∙ (skip_gap most at gap (x ∷ following) space
    ∙ (run_stray most (at + length gap) x following solid (ne_eqb x 123 ne)
    ∙ (ap (λ k. record { messages = []; rest = []; damage = Some (Stray k) }) (sym off) ∙ ap (λ l. record { messages = []; rest = l; damage = Some (Stray offset) }) (sym none)))))
ends_one most at s rest (Some TooLong) (gap, text, e, space, long, b, none) =
    sym (ap (cut_from most at []) e ∙ (skip_gap most at gap text space
    ∙ (scan_long most (at + length gap) text long b ∙ ap (λ l. record { messages = []; rest = l; damage = Some TooLong }) (sym none))))

-- a cut by the relation is what the program makes
pub cut_from_relation : (most at : ℕ) (s : List ℕ) (messages : List (List ℕ)) (rest : List ℕ) (d : Option Damage) → IsCutAt most at s messages rest d → record { messages = messages; rest = rest; damage = d } ≡ cut_from most at [] s
cut_from_relation most at s [] rest d h = ends_one most at s rest d h
cut_from_relation most at s (message ∷ messages) rest d (gap, following, e, space, m, short, on) =
    let n : (at + length gap) + length message ≡ at + (length gap + length message) = omega arith in
    let again : record { messages = messages; rest = rest; damage = d } ≡ cut_from most (at + (length gap + length message)) [] following = cut_from_relation most (at + (length gap + length message)) following messages rest d on in
    ap (with_message message) again
    ∙ sym (ap (cut_from most at []) e ∙ (skip_gap most at gap (message ++ following) space
    ∙ (scan_message most (at + length gap) message following m short ∙ ap (λ k. with_message message (cut_from most k [] following)) n)))

-- ---- the program keeps the relation

-- the relation, of a cut
abbrev Holds : ℕ → ℕ → List ℕ → Cut → Type 0
Holds most at s c = IsCutAt most at s c.messages c.rest c.damage

-- white space in front
space_more : (most at x : ℕ) → is_space x ≡ true → (s : List ℕ) (messages : List (List ℕ)) (rest : List ℕ) (d : Option Damage) → IsCutAt most (at + 1) s messages rest d → IsCutAt most at (x ∷ s) messages rest d
space_more most at x h s [] rest None (gap, e, space, end) = (x ∷ gap, ap (λ l. x ∷ l) e, All-cons Space x gap h space, end)
space_more most at x h s [] rest (Some (Stray offset)) (gap, following, y, e, space, solid, ne, off, none) =
    (x ∷ gap, following, y, ap (λ l. x ∷ l) e, All-cons Space x gap h space, solid, ne, omega arith, none)
space_more most at x h s [] rest (Some TooLong) (gap, text, e, space, long, b, none) = (x ∷ gap, text, ap (λ l. x ∷ l) e, All-cons Space x gap h space, long, b, none)
space_more most at x h s (message ∷ messages) rest d (gap, following, e, space, m, short, on) =
    let n : (at + 1) + (length gap + length message) ≡ at + (length (x ∷ gap) + length message) = omega arith in
    (x ∷ gap, following, ap (λ l. x ∷ l) e, All-cons Space x gap h space, m, short, subst (λ k. IsCutAt most k following messages rest d) n on)

-- a message that has begun, or none
abbrev Within : ℕ → List ℕ → Type 0
Within most begun = (begun ≡ []) ⊎ (IsBegun begun × (length begun ≤ most))

-- one byte is a message that has begun
one_byte : IsBegun (123 ∷ [])
one_byte = record { begins = refl; unclosed = λ n some short. let e : n ≡ 1 = omega arith in ap (λ k. is_balanced (take k (123 ∷ []))) e }

-- the fronts of a message that has begun, and one byte more
grown : (begun : List ℕ) (x n : ℕ) → IsBegun begun → 0 < n → n < length (begun ++ x ∷ []) → is_balanced (take n (begun ++ x ∷ [])) ≡ false
grown begun x n b some short =
    let l : length (begun ++ x ∷ []) ≡ length begun + 1 = length_push begun x in
    ap is_balanced (take-append-le n begun (x ∷ []) (omega arith)) ∙ b.unclosed n some (omega arith)

-- the first byte stays
first_kept : (begun t : List ℕ) → slice_get begun 0 ≡ Some 123 → slice_get (begun ++ t) 0 ≡ Some 123
first_kept [] t h = cc
first_kept (b ∷ begun) t h = h

-- a message that has begun and not ended goes on
begun_more : (begun : List ℕ) (x : ℕ) → IsBegun begun → is_balanced (begun ++ x ∷ []) ≡ false → IsBegun (begun ++ x ∷ [])
begun_more begun x b h = record {
  begins = first_kept begun (x ∷ []) b.begins;
  unclosed = λ n some short. elim (cases_lt n (length (begun ++ x ∷ []))) [
    | inl l ↦ grown begun x n b some l
    | inr l ↦ ap is_balanced (take_all n (begun ++ x ∷ []) l) ∙ h
  ];
}

-- one byte, if the program keeps the relation after it
module _ (most : ℕ) (low : 0 < most) (x : ℕ) (s : List ℕ) (again : (at : ℕ) (begun : List ℕ) → Within most begun → Holds most at (begun ++ s) (cut_from most (at + length begun) begun s)) where
  -- a byte after no message
  between_more : (at : ℕ) → Holds most at (x ∷ s) (cut_from most at [] (x ∷ s))
  between_more at = elim (cases_Bool (is_space x)) [
    | inl h ↦
        let e : (at + 1) + 0 ≡ at + 1 = omega arith in
        let c : Cut = cut_from most (at + 1) [] s in
        let on : Holds most (at + 1) s c = subst (λ k. Holds most (at + 1) s (cut_from most k [] s)) e (again (at + 1) [] (inl refl)) in
        subst (Holds most at (x ∷ s)) (sym (run_space most at x s h)) (space_more most at x h s c.messages c.rest c.damage on)
    | inr h ↦ elim (cases_Bool (eqb x 123)) [
      | inl k ↦
          let is : 123 ≡ x = sym (eqb-true x 123 k) in
          subst (λ y. Holds most at (y ∷ s) (cut_from most at [] (y ∷ s))) is (again at (123 ∷ []) (inr (one_byte, omega arith)))
      | inr k ↦
          let ne : x ≢ 123 = λ e. eqb-false x 123 k e in
          let off : at ≡ at + 0 = omega arith in
          subst (Holds most at (x ∷ s)) (sym (run_stray most at x s h k)) ([], s, x, refl, All-nil Space, h, ne, off, refl)
    ]
  ]

  -- a byte after a message that has begun
  begun_on : (at : ℕ) (begun : List ℕ) → IsBegun begun → length begun ≤ most → Holds most at (begun ++ x ∷ s) (cut_from most (at + length begun) begun (x ∷ s))
  begun_on at begun b short =
      let some : 0 < length begun = begun_some begun b in
      let text : List ℕ = begun ++ x ∷ [] in
      let size : length text ≡ length begun + 1 = length_push begun x in
      let assoc : text ++ s ≡ begun ++ x ∷ s = append_assoc begun (x ∷ []) s in
      elim (cases_lt most (length text)) [
        | inl long ↦
            let same : begun ≡ take most (begun ++ x ∷ s) = sym (take_at begun (x ∷ s) most (omega arith)) in
            subst (Holds most at (begun ++ x ∷ s)) (sym (run_long most (at + length begun) begun x s some long))
            ([], begun ++ x ∷ s, refl, All-nil Space, omega (arith, length-append begun (x ∷ s)), subst IsBegun same b, refl)
        | inr fits ↦ elim (cases_Bool (is_balanced text)) [
          | inl h ↦
              let n : (at + (0 + length text)) + 0 ≡ (at + length begun) + 1 = omega arith in
              let m : IsMessage text = record { begins = first_kept begun (x ∷ []) b.begins; balanced = h; shortest = λ k low' high. grown begun x k b low' high } in
              subst (Holds most at (begun ++ x ∷ s)) (sym (run_whole most (at + length begun) begun x s some fits h))
              ([], s, sym assoc, All-nil Space, m, fits, subst (λ k. Holds most (at + (0 + length text)) s (cut_from most k [] s)) n (again (at + (0 + length text)) [] (inl refl)))
          | inr h ↦
              let n : at + length text ≡ (at + length begun) + 1 = omega arith in
              let on : Holds most at (text ++ s) (cut_from most (at + length text) text s) = again at text (inr (begun_more begun x b h, fits)) in
              let on' : Holds most at (text ++ s) (cut_from most ((at + length begun) + 1) text s) = subst (λ k. Holds most at (text ++ s) (cut_from most k text s)) n on in
              subst (Holds most at (begun ++ x ∷ s)) (sym (run_more most (at + length begun) begun x s some fits h)) (subst (λ l. Holds most at l (cut_from most ((at + length begun) + 1) text s)) assoc on')
        ]
      ]

-- what the program makes is a cut by the relation
pub relation_from_cut : (most : ℕ) → 0 < most → (s : List ℕ) (at : ℕ) (begun : List ℕ) → Within most begun → Holds most at (begun ++ s) (cut_from most (at + length begun) begun s)
relation_from_cut most low [] at begun h = ([], append-nil begun, All-nil Space, h)
relation_from_cut most low (x ∷ s) at begun (inl none) =
    let off : at ≡ at + 0 = omega arith in
    subst (λ l. Holds most at (l ++ x ∷ s) (cut_from most (at + length l) l (x ∷ s))) (sym none)
    (subst (λ k. Holds most at (x ∷ s) (cut_from most k [] (x ∷ s))) off (between_more most low x s (relation_from_cut most low s) at))
relation_from_cut most low (x ∷ s) at begun (inr (b, short)) = begun_on most low x s (relation_from_cut most low s) at begun b short

-- ---- the law

-- a stream's cut is the one cut that the relation leaves
pub cut_is_its_relation : (stream : List ℕ) (c : Cut) → IsCut stream c ↔ (c ≡ cut stream)
unfolding cut
cut_is_its_relation stream c = (
  cut_from_relation max_message 0 stream c.messages c.rest c.damage,
  λ e. subst (IsCut stream) (sym e) (relation_from_cut max_message (lit< tt) stream 0 [] (inl refl)),
)

-- ---- a stream in pieces

-- what is left is no longer than the stream
rest_short : (most at : ℕ) (s : List ℕ) (messages : List (List ℕ)) (rest : List ℕ) (d : Option Damage) → IsCutAt most at s messages rest d → length rest ≤ length s
rest_short most at s [] rest None (gap, e, space, end) = omega (arith, ap length e, length-append gap rest)
rest_short most at s [] rest (Some (Stray offset)) (gap, following, y, e, space, solid, ne, off, none) = omega (arith, ap length none)
rest_short most at s [] rest (Some TooLong) (gap, text, e, space, long, b, none) = omega (arith, ap length none)
rest_short most at s (message ∷ messages) rest d (gap, following, e, space, m, short, on) =
    omega (arith, ap length e, length-append gap (message ++ following), length-append message following, rest_short most (at + (length gap + length message)) following messages rest d on)

-- the cut of a longer stream goes on where that of its front ended
pub cut_goes_on : (a b : List ℕ) → cut (a ++ b) ≡ continue_cut (cut a) (λ rest. cut_from max_message (length a) rest b)
unfolding cut
cut_goes_on a b =
    let e : 0 + length a ≡ length a = omega arith in
    cut_append max_message 0 [] a b ∙ ap (λ n. continue_cut (cut_from max_message 0 [] a) (λ rest. cut_from max_message n rest b)) e

-- what a front's cut left is looked at again from its first byte
pub cut_starts_again : (a b : List ℕ) → (cut a).damage ≡ None → cut (a ++ b) ≡ with_messages (cut a).messages (cut_from max_message (length a - length (cut a).rest) [] ((cut a).rest ++ b))
unfolding cut
cut_starts_again a b whole =
    let c : Cut = cut_from max_message 0 [] a in
    let short : length c.rest ≤ length a = rest_short max_message 0 a c.messages c.rest c.damage (relation_from_cut max_message (lit< tt) a 0 [] (inl refl)) in
    let e : (length a - length c.rest) + length c.rest ≡ length a = omega arith in
    cut_goes_on a b
    ∙ (ap (λ d. continued c.messages c.rest d (λ rest. cut_from max_message (length a) rest b)) whole
    ∙ ap (with_messages c.messages) (sym (restart max_message (length a - length c.rest) c.rest b (rest_again max_message 0 [] a (λ n. refl) whole) ∙ ap (λ n. cut_from max_message n c.rest b) e)))
