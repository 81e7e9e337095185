-- The open sessions in the order of their serials, by the entries of the map of keys.
use Rattle.std.proofs.Common.{◌≡◌, ◌≢◌, ℕ, ◌+◌, leb, ◌<◌, List, [], ◌∷◌, ◌++◌, length, set, map, refl, sym, ap, ◌∙◌, cond, eqb, Bool, true, false, Option, Some, None, inl, inr, arith}
use Rattle.std.specs.Prelude.{is_some, not, ◌||◌, ◌&&◌, filter, count_by}
use Rattle.std.specs.List.{list_any, AllByRecursion}
use Rattle.std.specs.Map.{lookup, keys_of, remove_entry}
use Rattle.std.specs.BTreeMap.{is_at, insert_entry}
use Rattle.std.specs.Ordering.{nat_cmp, is_eq}
use Rattle.std.specs.declared.cmp.Ordering.TheVariants.{Less, Equal, Greater}
use Rattle.std.specs.Cmp.{nat_cmp_is}
use Rattle.std.proofs.lemmas.Bool.{eqb-true, eq-eqb, ne_eqb, cases_order, false≢true, leb-false}
use Rattle.std.proofs.lemmas.List.{get_or-set_same, get_or-set_other, get_or_past}
use Rattle.std.proofs.lemmas.List.Sums.{sum_by-set}
use Rattle.std.proofs.lemmas.Option.{same_Some}
use Rattle.ov_sessions.specs.declared.session.Session.{Session}
use Rattle.ov_sessions.specs.Sessions.{most_sessions, beyond_serials, has_serial, has_no_room, session_at, without_serial, IsLeft, serial_at, UpdatesKey}

abbrev Keys : Type 0
Keys = List (ℕ × ℕ)

-- a query compares to a serial as equal numbers do
pub same_serial : (n m : ℕ) → is_at (nat_cmp n) m ≡ eqb m n
same_serial n m = elim (cases_order n m) [
  | inl e ↦ ap is_eq (sym (nat_cmp_is n m Equal e)) ∙ sym (eq-eqb m n (sym e))
  | inr other ↦ elim other [
    | inl less ↦ ap is_eq (sym (nat_cmp_is n m Less less)) ∙ sym (ne_eqb m n (λ e. omega arith))
    | inr more ↦ ap is_eq (sym (nat_cmp_is n m Greater more)) ∙ sym (ne_eqb m n (λ e. omega arith))
  ]
]

-- ---- whether a session is open

-- the map has the serials of the open sessions
pub open_by_keys : (n : ℕ) (es : Keys) → is_some (lookup (is_at (nat_cmp n)) es) ≡ list_any (λ s. eqb s.serial n) (map session_at es)
open_by_keys n [] = refl
open_by_keys n (e ∷ es) = by (is_at (nat_cmp n) e.0) (eqb e.0 n) (same_serial n e.0) (open_by_keys n es)
  where
    by : (b c : Bool) → b ≡ c → is_some (lookup (is_at (nat_cmp n)) es) ≡ list_any (λ s. eqb s.serial n) (map session_at es)
        → is_some (cond b (Some e.1) (lookup (is_at (nat_cmp n)) es)) ≡ (c || list_any (λ s. eqb s.serial n) (map session_at es))
    by true true h rest = refl
    by true false h rest = absurd (false≢true (sym h))
    by false true h rest = absurd (false≢true h)
    by false false h rest = rest

-- and has them in order of opening
pub serials_by_keys : (es : Keys) → keys_of es ≡ map (λ n. n.serial) (map session_at es)
serials_by_keys [] = refl
serials_by_keys (e ∷ es) = ap (λ (rest : List ℕ). e.0 ∷ rest) (serials_by_keys es)

-- ---- one more session

-- a serial above all others comes last
pub insert_last : (next key : ℕ) (es : Keys) → AllByRecursion (λ e. e.0 < next) es → insert_entry nat_cmp es next key ≡ es ++ (next, key) ∷ []
insert_last next key [] below = refl
insert_last next key (e ∷ es) below = rw (← nat_cmp_is next e.0 Greater below.0) (ap (λ (rest : Keys). e ∷ rest) (insert_last next key es below.1))

-- ---- one session less

-- if no key has the serial, none is left out
pub none_left_out : (n : ℕ) (es : Keys) → lookup (is_at (nat_cmp n)) es ≡ None → map session_at es ≡ without_serial n (map session_at es)
none_left_out n [] none = refl
none_left_out n (e ∷ es) none = by (is_at (nat_cmp n) e.0) (eqb e.0 n) (same_serial n e.0) none (none_left_out n es)
  where
    by : (b c : Bool) → b ≡ c → cond b (Some e.1) (lookup (is_at (nat_cmp n)) es) ≡ None → (lookup (is_at (nat_cmp n)) es ≡ None → map session_at es ≡ without_serial n (map session_at es))
        → map session_at (e ∷ es) ≡ cond (not c) (session_at e ∷ without_serial n (map session_at es)) (without_serial n (map session_at es))
    by true c h k rest = cc
    by false true h k rest = absurd (false≢true h)
    by false false h k rest = ap (λ (sessions : List Session). session_at e ∷ sessions) (rest k)

-- the entry of a serial is taken out, and with it the session
pub left_out : (n : ℕ) (es : Keys) → lookup (is_at (nat_cmp n)) (remove_entry (is_at (nat_cmp n)) es) ≡ None → map session_at (remove_entry (is_at (nat_cmp n)) es) ≡ without_serial n (map session_at es)
left_out n [] none = refl
left_out n (e ∷ es) none = by (is_at (nat_cmp n) e.0) (eqb e.0 n) (same_serial n e.0) refl none (left_out n es)
  where
    test : ℕ → Bool
    test = is_at (nat_cmp n)

    by : (b c : Bool) → b ≡ c → test e.0 ≡ b → lookup test (cond b es (e ∷ remove_entry test es)) ≡ None
        → (lookup test (remove_entry test es) ≡ None → map session_at (remove_entry test es) ≡ without_serial n (map session_at es))
        → map session_at (cond b es (e ∷ remove_entry test es)) ≡ cond (not c) (session_at e ∷ without_serial n (map session_at es)) (without_serial n (map session_at es))
    by true true h is k rest = none_left_out n es k
    by true false h is k rest = absurd (false≢true (sym h))
    by false true h is k rest = absurd (false≢true h)
    by false false h is k rest = ap (λ (sessions : List Session). session_at e ∷ sessions) (rest (rw is at k))

-- what holds of all holds without one
pub all_left : (P : ℕ × ℕ → Type 0) (test : ℕ → Bool) (es : Keys) → AllByRecursion P es → AllByRecursion P (remove_entry test es)
all_left P test [] all = all
all_left P test (e ∷ es) all = by (test e.0) (all_left P test es all.1)
  where
    by : (b : Bool) → AllByRecursion P (remove_entry test es) → AllByRecursion P (cond b es (e ∷ remove_entry test es))
    by true rest = all.1
    by false rest = (all.0, rest)

-- ---- keys

-- a place is written
pub key_set : (serials : List (Option ℕ)) (key : ℕ) (serial : Option ℕ) → key < length serials → UpdatesKey serials (set serials key serial) key serial
key_set serials key serial within = record {
  changed = get_or-set_same serials key serial None within;
  others = λ other apart. get_or-set_other serials key other serial None apart;
}

-- a place is taken
pub taken_more : (serials : List (Option ℕ)) (key serial : ℕ) → key < length serials → serial_at serials key ≡ None → count_by is_some (set serials key (Some serial)) ≡ count_by is_some serials + 1
taken_more serials key serial within free = omega (arith, rw free at (sum_by-set (λ (o : Option ℕ). cond (is_some o) 1 0) serials key (Some serial) None within))

-- a place is given up
pub taken_less : (serials : List (Option ℕ)) (key serial : ℕ) → key < length serials → serial_at serials key ≡ Some serial → count_by is_some (set serials key None) + 1 ≡ count_by is_some serials
taken_less serials key serial within held = omega (arith, rw held at (sum_by-set (λ (o : Option ℕ). cond (is_some o) 1 0) serials key None None within))

-- a key that a session has is one of the places
pub key_within : (serials : List (Option ℕ)) (key serial : ℕ) → serial_at serials key ≡ Some serial → key < length serials
key_within serials key serial held = grind (arith, get_or_past)

-- none of the sessions has a key that is free
pub key_is_free : (serials : List (Option ℕ)) (key : ℕ) (es : Keys) → serial_at serials key ≡ None → AllByRecursion (λ e. serial_at serials e.1 ≡ Some e.0) es → AllByRecursion (λ (n : Session). n.key ≢ key) (map session_at es)
key_is_free serials key [] vacant held = held
key_is_free serials key (e ∷ es) vacant held = (λ same. let f : Some e.0 ≡ None = sym held.0 ∙ (ap (serial_at serials) same ∙ vacant) in cc, key_is_free serials key es vacant held.1)

-- a serial was put at a free key
pub held_more : (old new : List (Option ℕ)) (serial key : ℕ) (es : Keys) → serial_at old key ≡ None → UpdatesKey old new key (Some serial) → AllByRecursion (λ e. serial_at old e.1 ≡ Some e.0) es
    → AllByRecursion (λ e. serial_at new e.1 ≡ Some e.0) (es ++ (serial, key) ∷ [])
held_more old new serial key [] vacant updates held = (updates.changed, held)
held_more old new serial key (e ∷ es) vacant updates held =
    (updates.others e.1 (λ same. let f : Some e.0 ≡ None = sym held.0 ∙ (ap (serial_at old) same ∙ vacant) in cc) ∙ held.0, held_more old new serial key es vacant updates held.1)

-- each serial is below the one after the next
pub below_more : (next key : ℕ) (es : Keys) → AllByRecursion (λ e. e.0 < next) es → AllByRecursion (λ e. e.0 < next + 1) (es ++ (next, key) ∷ [])
below_more next key [] below = (omega arith, below)
below_more next key (e ∷ es) below = let here = below.0 in (omega arith, below_more next key es below.1)

-- the serial at a key was taken out, which no session has any longer
pub held_less : (old new : List (Option ℕ)) (serial key : ℕ) (es : Keys) → serial_at old key ≡ Some serial → UpdatesKey old new key None → lookup (is_at (nat_cmp serial)) es ≡ None → AllByRecursion (λ e. serial_at old e.1 ≡ Some e.0) es
    → AllByRecursion (λ e. serial_at new e.1 ≡ Some e.0) es
held_less old new serial key [] was updates none held = held
held_less old new serial key (e ∷ es) was updates none held = by (is_at (nat_cmp serial) e.0) (same_serial serial e.0) none (λ k. held_less old new serial key es was updates k held.1)
  where
    other : false ≡ eqb e.0 serial → e.1 ≢ key
    other h same =
        let is : e.0 ≡ serial = same_Some _ _ (sym held.0 ∙ (ap (serial_at old) same ∙ was)) in
        false≢true (h ∙ eq-eqb e.0 serial is)

    by : (b : Bool) → b ≡ eqb e.0 serial → cond b (Some e.1) (lookup (is_at (nat_cmp serial)) es) ≡ None → (lookup (is_at (nat_cmp serial)) es ≡ None → AllByRecursion (λ e. serial_at new e.1 ≡ Some e.0) es)
        → AllByRecursion (λ e. serial_at new e.1 ≡ Some e.0) (e ∷ es)
    by true h k rest = cc
    by false h k rest = (updates.others e.1 (other h) ∙ held.0, rest k)

-- the places have the serial at the key that the map has for it
pub held_at : (serials : List (Option ℕ)) (n key : ℕ) (es : Keys) → lookup (is_at (nat_cmp n)) es ≡ Some key → AllByRecursion (λ e. serial_at serials e.1 ≡ Some e.0) es → serial_at serials key ≡ Some n
held_at serials n key [] found held = cc
held_at serials n key (e ∷ es) found held = by (is_at (nat_cmp n) e.0) (same_serial n e.0) found (λ k. held_at serials n key es k held.1)
  where
    by : (b : Bool) → b ≡ eqb e.0 n → cond b (Some e.1) (lookup (is_at (nat_cmp n)) es) ≡ Some key → (lookup (is_at (nat_cmp n)) es ≡ Some key → serial_at serials key ≡ Some n) → serial_at serials key ≡ Some n
    by true h k rest =
        let at : e.1 ≡ key = same_Some _ _ k in
        let is : e.0 ≡ n = eqb-true e.0 n (sym h) in
        ap (serial_at serials) (sym at) ∙ (held.0 ∙ ap (λ (m : ℕ). Some m) is)
    by false h k rest = rest k

-- ---- room

-- if there is room, fewer sessions are open than may be
pub room_for_one : (count next : ℕ) → has_no_room count next ≡ false → count < most_sessions
room_for_one count next h = by (leb most_sessions count) refl h
  where
    by : (b : Bool) → leb most_sessions count ≡ b → (b || leb beyond_serials next) ≡ false → count < most_sessions
    by true is k = cc
    by false is k = leb-false most_sessions count is

-- ---- the sessions without one

-- a session is among them if it was and is not the one
among_without : (n k : ℕ) (sessions : List Session) → has_serial k (without_serial n sessions) ≡ (not (eqb k n) && has_serial k sessions)
among_without n k [] = never (eqb k n)
  where
    never : (b : Bool) → false ≡ (not b && false)
    never true = refl
    never false = refl
among_without n k (s ∷ sessions) = by (eqb s.serial n) refl (eqb s.serial k) refl (eqb k n) refl (among_without n k sessions)
  where
    by : (b : Bool) → eqb s.serial n ≡ b → (c : Bool) → eqb s.serial k ≡ c → (d : Bool) → eqb k n ≡ d → has_serial k (without_serial n sessions) ≡ (not d && has_serial k sessions)
        → has_serial k (cond (not b) (s ∷ without_serial n sessions) (without_serial n sessions)) ≡ (not d && (c || has_serial k sessions))
    by true is_n true is_k true same rest = rest
    by true is_n true is_k false same rest =
        let f : false ≡ true = sym same ∙ eq-eqb k n (sym (eqb-true s.serial k is_k) ∙ eqb-true s.serial n is_n) in
        absurd (false≢true f)
    by true is_n false is_k d same rest = rest
    by false is_n true is_k true same rest =
        let f : false ≡ true = sym is_n ∙ eq-eqb s.serial n (eqb-true s.serial k is_k ∙ eqb-true k n same) in
        absurd (false≢true f)
    by false is_n true is_k false same rest = rw is_k refl
    by false is_n false is_k d same rest = rw is_k rest

-- the one is no longer open
pub shut_without : (n : ℕ) (sessions : List Session) → has_serial n (without_serial n sessions) ≡ false
shut_without n sessions = among_without n n sessions ∙ ap (λ (b : Bool). not b && has_serial n sessions) (eq-eqb n n refl)

-- ---- which of the sessions are still open

-- each of the sessions is open
each_open : (sessions : List Session) → AllByRecursion (λ s. has_serial s.serial sessions ≡ true) sessions
each_open [] = tt
each_open (s ∷ sessions) = (ap (λ (b : Bool). b || has_serial s.serial sessions) (eq-eqb s.serial s.serial refl), more sessions (each_open sessions))
  where
    or_true : (b c : Bool) → c ≡ true → (b || c) ≡ true
    or_true true c h = refl
    or_true false c h = h

    more : (these : List Session) → AllByRecursion (λ m. has_serial m.serial sessions ≡ true) these → AllByRecursion (λ m. has_serial m.serial (s ∷ sessions) ≡ true) these
    more [] all = all
    more (m ∷ these) all = (or_true (eqb s.serial m.serial) (has_serial m.serial sessions) all.0, more these all.1)

-- tests that agree on each keep the same
same_kept : (p q : Session → Bool) (sessions : List Session) → AllByRecursion (λ s. p s ≡ q s) sessions → filter p sessions ≡ filter q sessions
same_kept p q [] all = refl
same_kept p q (s ∷ sessions) all = by (p s) (q s) all.0 (same_kept p q sessions all.1)
  where
    by : (b c : Bool) → b ≡ c → filter p sessions ≡ filter q sessions → cond b (s ∷ filter p sessions) (filter p sessions) ≡ cond c (s ∷ filter q sessions) (filter q sessions)
    by true true h rest = ap (λ (left : List Session). s ∷ left) rest
    by true false h rest = absurd (false≢true (sym h))
    by false true h rest = absurd (false≢true h)
    by false false h rest = rest

-- a test that each passes keeps all
all_kept : (p : Session → Bool) (sessions : List Session) → AllByRecursion (λ s. p s ≡ true) sessions → sessions ≡ filter p sessions
all_kept p [] all = refl
all_kept p (s ∷ sessions) all = rw all.0 (ap (λ (left : List Session). s ∷ left) (all_kept p sessions all.1))

-- if none was closed, all are open
pub still_all : (sessions : List Session) → sessions ≡ filter (λ m. has_serial m.serial sessions) sessions
still_all sessions = all_kept (λ m. has_serial m.serial sessions) sessions (each_open sessions)

-- if one was closed, the others are open
pub still_others : (n : ℕ) (sessions : List Session) → without_serial n sessions ≡ filter (λ m. has_serial m.serial (without_serial n sessions)) sessions
still_others n sessions = same_kept (λ m. not (eqb m.serial n)) (λ m. has_serial m.serial (without_serial n sessions)) sessions (agree sessions (each_open sessions))
  where
    and_true : (b c : Bool) → c ≡ true → b ≡ (b && c)
    and_true true c h = sym h
    and_true false c h = refl

    agree : (these : List Session) → AllByRecursion (λ m. has_serial m.serial sessions ≡ true) these → AllByRecursion (λ m. not (eqb m.serial n) ≡ has_serial m.serial (without_serial n sessions)) these
    agree [] all = all
    agree (m ∷ these) all =
        (and_true (not (eqb m.serial n)) (has_serial m.serial sessions) all.0 ∙ sym (among_without n m.serial sessions), agree these all.1)

-- ---- sessions that are left

among_kept : (p : Session → Bool) (n : ℕ) (sessions : List Session) → has_serial n (filter p sessions) ≡ true → has_serial n sessions ≡ true
among_kept p n [] h = h
among_kept p n (s ∷ sessions) h = by (p s) (among_kept p n sessions) h
  where
    or_more : (b c d : Bool) → (c ≡ true → d ≡ true) → (b || c) ≡ true → (b || d) ≡ true
    or_more true c d so k = refl
    or_more false c d so k = so k

    or_true : (b c : Bool) → c ≡ true → (b || c) ≡ true
    or_true true c k = refl
    or_true false c k = k

    by : (b : Bool) → (has_serial n (filter p sessions) ≡ true → has_serial n sessions ≡ true) → has_serial n (cond b (s ∷ filter p sessions) (filter p sessions)) ≡ true → (eqb s.serial n || has_serial n sessions) ≡ true
    by true so k = or_more (eqb s.serial n) (has_serial n (filter p sessions)) (has_serial n sessions) so k
    by false so k = or_true (eqb s.serial n) (has_serial n sessions) (so k)

-- what a narrower test keeps of those that a wider one kept
kept_of_kept : (p q : Session → Bool) (sessions : List Session) → ((s : Session) → p s ≡ true → q s ≡ true) → filter p (filter q sessions) ≡ filter p sessions
kept_of_kept p q [] so = refl
kept_of_kept p q (s ∷ sessions) so = by (p s) refl (q s) refl (kept_of_kept p q sessions so)
  where
    by : (b : Bool) → p s ≡ b → (c : Bool) → q s ≡ c → filter p (filter q sessions) ≡ filter p sessions
        → filter p (cond c (s ∷ filter q sessions) (filter q sessions)) ≡ cond b (s ∷ filter p sessions) (filter p sessions)
    by true is_p true is_q rest = rw is_p (ap (λ (left : List Session). s ∷ left) rest)
    by true is_p false is_q rest = absurd (false≢true (sym is_q ∙ so s is_p))
    by false is_p true is_q rest = rw is_p rest
    by false is_p false is_q rest = rest

-- those that are left of those that are left
pub left_then : (a b c : List Session) → IsLeft a b → IsLeft b c → IsLeft a c
left_then a b c first then =
    then ∙ (ap (filter (λ n. has_serial n.serial c)) first
    ∙ kept_of_kept (λ n. has_serial n.serial c) (λ n. has_serial n.serial b) a (λ s h. among_kept (λ n. has_serial n.serial c) s.serial b (ap (has_serial s.serial) (sym then) ∙ h)))

-- if all serials are below the next, no session has that one
pub none_beyond : (next : ℕ) (es : Keys) → AllByRecursion (λ e. e.0 < next) es → has_serial next (map session_at es) ≡ false
none_beyond next [] below = refl
none_beyond next (e ∷ es) below = rw (ne_eqb e.0 next (λ same. omega (arith, same, below.0)), none_beyond next es below.1) refl
