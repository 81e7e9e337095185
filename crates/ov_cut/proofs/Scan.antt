-- How a message and the white space before one go on.
use Rattle.std.proofs.Common.{◌≡◌, ◌≢◌, ℕ, ◌+◌, ◌-◌, ◌<◌, ◌≤◌, min, List, [], ◌∷◌, ◌++◌, length, get_or, take, drop, refl, sym, ap, ◌∙◌, append_assoc, cond, eqb, Bool, true, false, ◌&&◌, Option, Some, None, option_map, inl, inr, arith, subst}
use Rattle.std.specs.Prelude.{count_by, slice_get}
use Rattle.std.proofs.lemmas.Bool.Decides.{nat_tests}
use Rattle.std.proofs.lemmas.Bool.{eq-eqb, ne_eqb, le-ltb, lt-ltb, cases_eq, and_from, and_right}
use Rattle.std.proofs.lemmas.List.Sums.{sum_by-append}
use Rattle.std.proofs.lemmas.List.Elements.{All-head, All-tail}
use Rattle.std.proofs.lemmas.List.{append-nil, take_more, drop_more, drop-take, take-take, take-append-drop, length_push, length-append, length-take}
use Rattle.ov_specs.specs.wire.Balance.{bare, after_quote, after_backslash, has_equal_braces, is_balanced, is_space}
use Rattle.ov_specs.specs.wire.Cut.{AllSpace, cut_from, after_byte, after_byte_inside, with_message, with_messages, continue_cut, max_message, Stray, TooLong}
use Rattle.ov_specs.proofs.laws.Cuts.{cut_append}
use Rattle.ov_cut.specs.declared.message.Mode.{Mode}
use Rattle.ov_cut.specs.declared.message.Mode.TheVariants.{Outside, InLiteral, Escaped}
use Rattle.ov_cut.specs.Message.{mode_after, bare_in, LeavesMode, IsBegunAs, Brings}

-- ---- one more byte of a message

count_push : (p : ℕ → Bool) (xs : List ℕ) (x : ℕ) → count_by p (xs ++ x ∷ []) ≡ count_by p xs + cond (p x) 1 0
count_push p xs x = omega (arith, sum_by-append (λ y. cond (p y) 1 0) xs (x ∷ []))

in_literal : (b c : Bool) (depth : ℕ) (more : List ℕ) → cond b (bare more) (cond c (after_backslash more) (after_quote more)) ≡ bare_in (cond {A = Mode × ℕ} b (Outside, depth) (cond c (Escaped, depth) (InLiteral, depth))).0 more
in_literal true c depth more = refl
in_literal false true depth more = refl
in_literal false false depth more = refl

same_depth : (b c : Bool) (depth : ℕ) → (cond {A = Mode × ℕ} b (Outside, depth) (cond c (Escaped, depth) (InLiteral, depth))).1 ≡ depth
same_depth true c depth = refl
same_depth false true depth = refl
same_depth false false depth = refl

map_kept : (kept : List ℕ) (x : ℕ) (o : Option (List ℕ)) → option_map (λ rest. kept ++ rest) (option_map (λ rest. x ∷ rest) o) ≡ option_map (λ rest. (kept ++ x ∷ []) ++ rest) o
map_kept kept x None = refl
map_kept kept x (Some rest) = ap Some (sym (append_assoc kept (x ∷ []) rest))

-- outside a literal, by which byte it is
outside_quote : (text : List ℕ) (depth x : ℕ) → x ≡ 34 → LeavesMode text Outside depth → LeavesMode (text ++ x ∷ []) InLiteral depth
outside_quote text depth x e l = record {
  kept = l.kept;
  reads = λ more. ap bare (append_assoc text (x ∷ []) more) ∙ (l.reads (x ∷ more) ∙ rw e refl);
  braces = l.braces;
}

outside_other : (text : List ℕ) (depth depth' x : ℕ) → x ≢ 34 → depth' + cond (eqb x 125) 1 0 ≡ depth + cond (eqb x 123) 1 0 → LeavesMode text Outside depth → LeavesMode (text ++ x ∷ []) Outside depth'
outside_other text depth depth' x ne e l = record {
  kept = l.kept ++ x ∷ [];
  reads = λ more. ap bare (append_assoc text (x ∷ []) more) ∙ (l.reads (x ∷ more) ∙ (ap (λ b. option_map (λ rest. l.kept ++ rest) (cond b (after_quote more) (option_map (λ rest. x ∷ rest) (bare more)))) (ne_eqb x 34 ne) ∙ map_kept l.kept x (bare more)));
  braces = omega (arith, l.braces, e, count_push (λ y. eqb y 123) l.kept x, count_push (λ y. eqb y 125) l.kept x);
}

at_step : (text : List ℕ) (mode mode' : Mode) (depth depth' x : ℕ) → mode_after mode depth x ≡ (mode', depth') → LeavesMode (text ++ x ∷ []) mode' depth' → LeavesMode (text ++ x ∷ []) (mode_after mode depth x).0 (mode_after mode depth x).1
at_step text mode mode' depth depth' x e l = let P : Mode × ℕ → Type 0 = λ p. LeavesMode (text ++ x ∷ []) p.0 p.1 in subst P (sym e) l

outside : (text : List ℕ) (depth x : ℕ) → 0 < depth → LeavesMode text Outside depth → LeavesMode (text ++ x ∷ []) (mode_after Outside depth x).0 (mode_after Outside depth x).1
outside text depth x low l = elim (cases_eq x 34) [
  | inl e ↦ at_step text Outside InLiteral depth depth x (ap (mode_after Outside depth) e) (outside_quote text depth x e l)
  | inr n ↦ elim (cases_eq x 123) [
    | inl e ↦ at_step text Outside Outside depth (depth + 1) x (ap (mode_after Outside depth) e) (outside_other text depth (depth + 1) x n (rw e (omega arith)) l)
    | inr m ↦ elim (cases_eq x 125) [
      | inl e ↦ at_step text Outside Outside depth (depth - 1) x (ap (mode_after Outside depth) e) (outside_other text depth (depth - 1) x n (rw e (omega arith)) l)
      | inr k ↦ at_step text Outside Outside depth depth x (rw (ne_eqb x 34 n, ne_eqb x 123 m, ne_eqb x 125 k) refl) (outside_other text depth depth x n (rw (ne_eqb x 123 m, ne_eqb x 125 k) refl) l)
    ]
  ]
]

pub leaves_more : (text : List ℕ) (mode : Mode) (depth x : ℕ) → 0 < depth → LeavesMode text mode depth → LeavesMode (text ++ x ∷ []) (mode_after mode depth x).0 (mode_after mode depth x).1
leaves_more text Escaped depth x low l = record {
  kept = l.kept;
  reads = λ more. ap bare (append_assoc text (x ∷ []) more) ∙ l.reads (x ∷ more);
  braces = l.braces;
}
leaves_more text InLiteral depth x low l = record {
  kept = l.kept;
  reads = λ more. ap bare (append_assoc text (x ∷ []) more) ∙ (l.reads (x ∷ more) ∙ ap (option_map (λ rest. l.kept ++ rest)) (in_literal (eqb x 34) (eqb x 92) depth more));
  braces = l.braces ∙ ap (λ d. count_by (λ y. eqb y 125) l.kept + d) (sym (same_depth (eqb x 34) (eqb x 92) depth));
}
leaves_more text Outside depth x low l = outside text depth x low l

outside_high : (b c d : Bool) (depth : ℕ) → (cond {A = Mode × ℕ} b (InLiteral, depth) (cond c (Outside, depth + 1) (cond d (Outside, depth - 1) (Outside, depth)))).1 ≤ depth + 1
outside_high true c d depth = omega arith
outside_high false true d depth = omega arith
outside_high false false true depth = omega arith
outside_high false false false depth = omega arith

pub step_high : (mode : Mode) (depth x : ℕ) → (mode_after mode depth x).1 ≤ depth + 1
step_high Escaped depth x = omega arith
step_high InLiteral depth x = omega (arith, same_depth (eqb x 34) (eqb x 92) depth)
step_high Outside depth x = outside_high (eqb x 34) (eqb x 123) (eqb x 125) depth

-- ---- whether the text is balanced

abbrev pub is_outside : Mode → Bool
is_outside Outside = true
is_outside InLiteral = false
is_outside Escaped = false

after_other : (b c d : Bool) (depth : ℕ) → b ≡ false → is_outside (cond {A = Mode × ℕ} b (InLiteral, depth) (cond c (Outside, depth + 1) (cond d (Outside, depth - 1) (Outside, depth)))).0 ≡ true
after_other true c d depth h = cc
after_other false true d depth h = refl
after_other false false true depth h = refl
after_other false false false depth h = refl

pub balanced_by : (text : List ℕ) (mode : Mode) (depth : ℕ) → LeavesMode text mode depth → is_balanced text ≡ (is_outside mode && eqb depth 0)
balanced_by text Outside depth l =
    ap has_equal_braces (ap bare (sym (append-nil text)) ∙ l.reads [])
    ∙ (rw append-nil (let b = l.braces in grind (arith, nat_tests, b)))
balanced_by text InLiteral depth l = ap has_equal_braces (ap bare (sym (append-nil text)) ∙ l.reads [])
balanced_by text Escaped depth l = ap has_equal_braces (ap bare (sym (append-nil text)) ∙ l.reads [])

-- the last brace closes outside a literal
pub closes_outside : (mode : Mode) (depth x : ℕ) → 0 < depth → (mode_after mode depth x).1 ≡ 0 → is_outside (mode_after mode depth x).0 ≡ true
closes_outside Escaped depth x low h = absurd (omega arith)
closes_outside InLiteral depth x low h = let e = same_depth (eqb x 34) (eqb x 92) depth in absurd (omega arith)
closes_outside Outside depth x low h = elim (cases_eq x 34) [
  | inl e ↦ let s : (mode_after Outside depth x).1 ≡ depth = ap (λ y. (mode_after Outside depth y).1) e in absurd (omega arith)
  | inr ne ↦ after_other (eqb x 34) (eqb x 123) (eqb x 125) depth (ne_eqb x 34 ne)
]

-- ---- one more byte of the cut

pub next_is : (most at : ℕ) (begun : List ℕ) (x : ℕ) → 0 < length begun → after_byte most at begun x ≡ after_byte_inside most (begun ++ x ∷ [])
next_is most at [] x h = absurd (omega arith)
next_is most at (b ∷ begun) x h = refl

-- the byte with which a message has more bytes than it may
pub run_long : (most at : ℕ) (begun : List ℕ) (x : ℕ) (s : List ℕ) → 0 < length begun → most < length (begun ++ x ∷ []) → cut_from most at begun (x ∷ s) ≡ record { messages = []; rest = []; damage = Some TooLong }
run_long most at begun x s some long = rw (next_is most at begun x some, lt-ltb most _ long) refl

-- the byte that ends a message
pub run_whole : (most at : ℕ) (begun : List ℕ) (x : ℕ) (s : List ℕ) → 0 < length begun → length (begun ++ x ∷ []) ≤ most → is_balanced (begun ++ x ∷ []) ≡ true → cut_from most at begun (x ∷ s) ≡ with_message (begun ++ x ∷ []) (cut_from most (at + 1) [] s)
run_whole most at begun x s some short balanced = rw (next_is most at begun x some, le-ltb most _ short, balanced) refl

-- a byte that ends none
pub run_more : (most at : ℕ) (begun : List ℕ) (x : ℕ) (s : List ℕ) → 0 < length begun → length (begun ++ x ∷ []) ≤ most → is_balanced (begun ++ x ∷ []) ≡ false → cut_from most at begun (x ∷ s) ≡ cut_from most (at + 1) (begun ++ x ∷ []) s
run_more most at begun x s some short unbalanced = rw (next_is most at begun x some, le-ltb most _ short, unbalanced) refl

-- ---- one text after another

-- the cut after what a text begins with
pub goes_on : (front p q : List ℕ) (messages : List (List ℕ)) (rest : List ℕ) (at : ℕ) → Brings front p messages rest → cut_from max_message at front (p ++ q) ≡ with_messages messages (cut_from max_message (at + length p) rest q)
goes_on front p q messages rest at b = cut_append max_message at front p q ∙ ap (λ k. continue_cut k (λ r. cut_from max_message (at + length p) r q)) (b at)

pub brings_then : (front p q : List ℕ) (messages : List (List ℕ)) (mid rest : List ℕ) → Brings front p [] mid → Brings mid q messages rest → Brings front (p ++ q) messages rest
brings_then front p q messages mid rest a b = λ at. goes_on front p q [] mid at a ∙ ap (with_messages []) (b (at + length p))

pub take_add : (m n : ℕ) (xs : List ℕ) → take m xs ++ take n (drop m xs) ≡ take (m + n) xs
take_add m n xs = let le : m ≤ m + n = omega arith in rw (← drop-take m n xs, ← take-take m (m + n) xs le) (take-append-drop m (take (m + n) xs))

pub take_and_rest : (text : List ℕ) (i : ℕ) → i < length text → take i text ++ (get_or text i 0 ∷ drop (i + 1) text) ≡ text
take_and_rest text i within = rw (← drop_more text i 0 within) (take-append-drop i text)

-- ---- white space

pub gap_brings : (gap : List ℕ) → AllSpace gap → Brings [] gap [] []
gap_brings [] h = λ at. refl
gap_brings (x ∷ gap) h = λ at. rw (All-head (λ y. is_space y ≡ true) x gap h) (gap_brings gap (All-tail (λ y. is_space y ≡ true) x gap h) (at + 1))

-- a byte that begins no message
pub stray_brings : (text : List ℕ) (n : ℕ) → n < length text → AllSpace (take n text) → is_space (get_or text n 0) ≡ false → get_or text n 0 ≢ 123 → (at : ℕ) → cut_from max_message at [] text ≡ record { messages = []; rest = []; damage = Some (Stray (at + n)) }
stray_brings text n within gap no_space no_brace at =
    ap (cut_from max_message at []) (sym (take_and_rest text n within))
    ∙ (goes_on [] (take n text) (get_or text n 0 ∷ drop (n + 1) text) [] [] at (gap_brings (take n text) gap)
    ∙ (rw (no_space, ne_eqb _ 123 no_brace, length-take) (let e : min n (length text) ≡ n = omega arith in ap (λ k. record { messages = []; rest = []; damage = Some (Stray (at + k)) }) e)))

-- ---- the brace of a message

pub first_leaves : (text : List ℕ) → slice_get text 0 ≡ Some 123 → LeavesMode (take 1 text) Outside 1
first_leaves [] h = cc
first_leaves (x ∷ text) h = let e : x ≡ 123 = cc in rw e (record { kept = 123 ∷ []; reads = λ more. refl; braces = refl })

pub first_brings : (text : List ℕ) → slice_get text 0 ≡ Some 123 → Brings [] (take 1 text) [] (take 1 text)
first_brings [] h = cc
first_brings (x ∷ text) h = let e : x ≡ 123 = cc in rw e (λ at. refl)

pub first_length : (text : List ℕ) → slice_get text 0 ≡ Some 123 → length (take 1 text) ≡ 1
first_length [] h = cc
first_length (x ∷ text) h = refl

pub first_some : (text : List ℕ) → slice_get text 0 ≡ Some 123 → 0 < length text
first_some [] h = cc
first_some (x ∷ text) h = omega arith

pub first_begun : (text : List ℕ) → slice_get text 0 ≡ Some 123 → IsBegunAs (take 1 text) (record { mode = Outside; depth = 1 })
first_begun text h = record {
  leaves = first_leaves text h;
  low = omega arith;
  high = omega (arith, first_length text h);
  short = omega (arith, first_length text h);
}

-- ---- one more byte after a message that has begun

module _ (front text : List ℕ) (i : ℕ) (mode : Mode) (depth : ℕ) (p : Mode × ℕ) (within : i < length text) (some : 0 < length front) (is : p ≡ mode_after mode depth (get_or text i 0)) (l : LeavesMode (front ++ take i text) mode depth) (low : 0 < depth) where
  more_is : front ++ take (i + 1) text ≡ (front ++ take i text) ++ get_or text i 0 ∷ []
  more_is = ap (λ t. front ++ t) (take_more text i 0 within) ∙ sym (append_assoc front (take i text) (get_or text i 0 ∷ []))

  pub scan_leaves : LeavesMode (front ++ take (i + 1) text) p.0 p.1
  scan_leaves = rw (more_is, is) (leaves_more (front ++ take i text) mode depth (get_or text i 0) low l)

  balanced : is_balanced ((front ++ take i text) ++ get_or text i 0 ∷ []) ≡ (is_outside p.0 && eqb p.1 0)
  balanced = ap is_balanced (sym more_is) ∙ balanced_by (front ++ take (i + 1) text) p.0 p.1 scan_leaves

  len : length ((front ++ take i text) ++ get_or text i 0 ∷ []) ≡ length front + (i + 1)
  len = simp (length_push, length-append, length-take) (omega arith)

  begun : 0 < length (front ++ take i text)
  begun = simp length-append (omega arith)

  pub scan_more : length front + i < max_message → 0 < p.1 → Brings front (take i text) [] (front ++ take i text) → Brings front (take (i + 1) text) [] (front ++ take (i + 1) text)
  scan_more short deep run = λ at.
      ap (cut_from max_message at front) (take_more text i 0 within)
      ∙ (goes_on front (take i text) (get_or text i 0 ∷ []) [] (front ++ take i text) at run
      ∙ (ap (with_messages []) (run_more max_message (at + length (take i text)) (front ++ take i text) (get_or text i 0) [] begun (rw len (omega arith)) (balanced ∙ and_right _ _ (ne_eqb p.1 0 (λ e. omega arith))))
      ∙ ap (λ r. record { messages = []; rest = r; damage = None }) (sym more_is)))

  pub scan_whole : length front + i < max_message → p.1 ≡ 0 → Brings front (take i text) [] (front ++ take i text) → Brings front (take (i + 1) text) ((front ++ take (i + 1) text) ∷ []) []
  scan_whole short zero run = λ at.
      ap (cut_from max_message at front) (take_more text i 0 within)
      ∙ (goes_on front (take i text) (get_or text i 0 ∷ []) [] (front ++ take i text) at run
      ∙ (ap (with_messages []) (run_whole max_message (at + length (take i text)) (front ++ take i text) (get_or text i 0) [] begun (rw len (omega arith))
      (balanced ∙ and_from _ _ (ap (λ (q : Mode × ℕ). is_outside q.0) is ∙ closes_outside mode depth (get_or text i 0) low (ap (λ (q : Mode × ℕ). q.1) (sym is) ∙ zero)) (eq-eqb p.1 0 zero)))
      ∙ ap (λ m. record { messages = m ∷ []; rest = []; damage = None }) (sym more_is)))

-- a message with more bytes than it may have
pub scan_long : (front text : List ℕ) (i : ℕ) → i < length text → 0 < length front → max_message ≤ length front + i → Brings front (take i text) [] (front ++ take i text) → (at : ℕ) → cut_from max_message at front text ≡ record { messages = []; rest = []; damage = Some TooLong }
scan_long front text i within some long run at =
    ap (cut_from max_message at front) (sym (take_and_rest text i within))
    ∙ (goes_on front (take i text) (get_or text i 0 ∷ drop (i + 1) text) [] (front ++ take i text) at run
    ∙ ap (with_messages []) (run_long max_message (at + length (take i text)) (front ++ take i text) (get_or text i 0) (drop (i + 1) text) (simp length-append (omega arith)) (simp (length_push, length-append, length-take) (omega arith))))
