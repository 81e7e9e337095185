-- Settling: it leaves schema, moment and serials; it may close sessions, and sends only to open ones; it takes few tries;
-- and each transaction that is left is blocked.
use Rattle.std.proofs.Common.{◌≡◌, ℕ, zero, suc, ◌+◌, ◌-◌, ◌*◌, ◌≤◌, List, [], ◌∷◌, ◌++◌, Bool, true, false, cond, eqb, Option, Some, inl, inr, length, map, filter, refl, sym, ap, subst, ◌∙◌, arith}
use Rattle.std.specs.Prelude.{not, ◌||◌}
use Rattle.std.specs.List.{All, list_all, list_any}
use Rattle.std.proofs.lemmas.Bool.{and_parts, and_from, eq-eqb, eqb-true, false≢true}
use Rattle.std.proofs.lemmas.List.{length-append}
use Rattle.std.proofs.lemmas.List.Elements.{All-nil, All-cons, All-head, All-tail, All-append}
use Rattle.std.proofs.lemmas.Map.Views.{any-filter_same}
use Rattle.std.proofs.lemmas.List.Folds.{list_all-append}
use Rattle.std.proofs.lemmas.Nat.{mul-le}
use Rattle.std.proofs.lemmas.Option.{same_Some}
use Rattle.serde_json.specs.Data.{Data, Items}
use Rattle.ov_specs.specs.locks.Queues.{DoQueuesAscend, owns, leave, told_of_leaving}
use Rattle.ov_specs.specs.machine.Machine.{State, Session, Outcome, Attempt, Outstanding, Sent, Stepped, Passed, listed, tries_again, is_kept, is_open, passed, passes_after, still_waiting, waits_after, waits_on, pass, settle_within, settle, to_session, results_of, results_to, updates_sent, told, of_others, closed}
use Rattle.ov_specs.specs.machine.Blocked.{IsBlocked, AreBlocked}
use Rattle.ov_specs.specs.monitors.Updates.{all_updates, update_notification}
use Rattle.ov_specs.specs.rows.Database.{Database}
use Rattle.ov_specs.specs.operations.Transaction.{TransactionOutcome, transaction, failed_results}
use Rattle.ov_specs.proofs.laws.LockQueues.{leave-ascends}
use Rattle.ov_specs.proofs.laws.Locks.{EachQueue, AllPass, leaving-passes, leave-passes, owner-stays}
use Rattle.ov_specs.proofs.laws.Owning.{waits_owning}
use Rattle.ov_specs.proofs.laws.Tries.{left_by, sent_by, emptied, pass_first, settle_first, IsKeptByTries, settle_keeps}
use Rattle.ov_specs.proofs.laws.Truths.{or_truth}
use Rattle.ov_specs.proofs.laws.Works.{OfOutcome, try_has}

-- ---- lists

-- what some of those that are kept pass, some pass
any-kept : {A : Type 0} (test kept : A → Bool) (xs : List A) → list_any test (filter kept xs) ≡ true → list_any test xs ≡ true
any-kept test kept [] h = h
any-kept test kept (x ∷ xs) h = by (kept x) (any-kept test kept xs) h
  where
    more : (b c d : Bool) → (c ≡ true → d ≡ true) → (b || c) ≡ true → (b || d) ≡ true
    more true c d so k = refl
    more false c d so k = so k

    by : (b : Bool) → (list_any test (filter kept xs) ≡ true → list_any test xs ≡ true) → list_any test (cond b (x ∷ filter kept xs) (filter kept xs)) ≡ true → (test x || list_any test xs) ≡ true
    by true so k = more (test x) (list_any test (filter kept xs)) (list_any test xs) so k
    by false so k = ap (λ b. test x || b) (so k) ∙ or_truth (test x)

-- at most as many are kept
length-kept : {A : Type 0} (kept : A → Bool) (xs : List A) → length (filter kept xs) ≤ length xs
length-kept kept [] = omega arith
length-kept kept (x ∷ xs) = by (kept x) (length-kept kept xs)
  where
    by : (b : Bool) → length (filter kept xs) ≤ length xs → length (cond b (x ∷ filter kept xs) (filter kept xs)) ≤ length (x ∷ xs)
    by true h = omega (arith, h)
    by false h = omega (arith, h)

-- what passes one test passes the other
all-so : {A : Type 0} (one other : A → Bool) → ((x : A) → one x ≡ true → other x ≡ true) → (xs : List A) → list_all one xs ≡ true → list_all other xs ≡ true
all-so one other so [] h = refl
all-so one other so (x ∷ xs) h =
    let parts = and_parts (one x) (list_all one xs) h in
    and_from (other x) (list_all other xs) (so x parts.0) (all-so one other so xs parts.1)

-- all pass the test that nothing fails
pub all-any : {A : Type 0} (xs : List A) → list_all (λ x. true) xs ≡ true
all-any [] = refl
all-any (x ∷ xs) = all-any xs

-- ---- sessions

-- from one state to another no session is opened; schema, moment and serials stay
pub record IsNoMore (s t : State) : Type 0 where
  pub schema : t.schema ≡ s.schema
  pub moment : t.moment ≡ s.moment
  pub next : t.next ≡ s.next
  pub still_open : (n : ℕ) → is_open t n ≡ true → is_open s n ≡ true

-- these are sent to sessions that were open
abbrev pub AreToOpen : State → List Sent → Type 0
AreToOpen s sent = list_all (λ x. is_open s x.session) sent ≡ true

-- who stands in a queue of a lock is open
abbrev pub StandOpen : State → Type 0
StandOpen s = EachQueue (AllPass (is_open s)) s.queues

-- the queues ascend, and who stands in one is open
abbrev pub StandInOrder : State → Type 0
StandInOrder s = DoQueuesAscend s.queues × StandOpen s

-- No session is opened; and if the queues ascended and those that stood in them were open, so it is then, and what is sent is
-- sent to sessions that were open.
abbrev pub IsWithin : State → State → List Sent → Type 0
IsWithin s t sent = IsNoMore s t × (StandInOrder s → StandInOrder t × AreToOpen s sent)

no_more-then : (s t u : State) → IsNoMore s t → IsNoMore t u → IsNoMore s u
no_more-then s t u a b = record { schema = b.schema ∙ a.schema; moment = b.moment ∙ a.moment; next = b.next ∙ a.next; still_open = λ n there. a.still_open n (b.still_open n there) }

pub within-then : (s t u : State) (sent more : List Sent) → IsWithin s t sent → IsWithin t u more → IsWithin s u (sent ++ more)
within-then s t u sent more a b = (
  no_more-then s t u a.0 b.0,
  λ stand.
      let first = a.1 stand in
      let then = b.1 first.0 in
      let to_open : AreToOpen s more = all-so (λ x. is_open t x.session) (λ x. is_open s x.session) (λ x there. a.0.still_open x.session there) more then.1 in
      (then.0, list_all-append (λ x. is_open s x.session) sent more ∙ and_from (list_all (λ x. is_open s x.session) sent) (list_all (λ x. is_open s x.session) more) first.1 to_open),
)

-- what one session is sent, which is open
pub to_open : (s : State) (n : ℕ) (trees : List Data) → is_open s n ≡ true → AreToOpen s (to_session n trees)
to_open s n [] there = refl
to_open s n (tree ∷ trees) there = and_from (is_open s n) (list_all (λ x. is_open s x.session) (to_session n trees)) there (to_open s n trees there)

-- and notifications, if the sessions that receive them are open
pub told_open : (s : State) (notifications : List (ℕ × Data)) → list_all (λ (notification : ℕ × Data). is_open s notification.0) notifications ≡ true → AreToOpen s (told notifications)
told_open s [] all = refl
told_open s (notification ∷ notifications) all =
    let parts = and_parts (is_open s notification.0) (list_all (λ (n : ℕ × Data). is_open s n.0) notifications) all in
    and_from (is_open s notification.0) (list_all (λ x. is_open s x.session) (told notifications)) parts.0 (told_open s notifications parts.1)

-- what monitors report, if their sessions are open
updates_open : (s : State) (after : Database) (sessions : List Session) → list_all (λ (n : Session). is_open s n.serial) sessions ≡ true → AreToOpen s (updates_sent s.database after sessions)
updates_open s after [] all = refl
updates_open s after (n ∷ sessions) all =
    let parts = and_parts (is_open s n.serial) (list_all (λ (x : Session). is_open s x.serial) sessions) all in
    let its : List Data = map update_notification (all_updates s.database after n.monitors) in
    list_all-append (λ x. is_open s x.session) (to_session n.serial its) (updates_sent s.database after sessions)
    ∙ and_from (list_all (λ x. is_open s x.session) (to_session n.serial its)) (list_all (λ x. is_open s x.session) (updates_sent s.database after sessions))
    (to_open s n.serial its parts.0) (updates_open s after sessions parts.1)

-- as those of the state are
all_open : (sessions : List Session) → list_all (λ (n : Session). list_any (λ (k : Session). eqb k.serial n.serial) sessions) sessions ≡ true
all_open [] = refl
all_open (n ∷ sessions) =
    and_from (eqb n.serial n.serial || list_any (λ (k : Session). eqb k.serial n.serial) sessions) (list_all (λ (x : Session). eqb n.serial x.serial || list_any (λ (k : Session). eqb k.serial x.serial) sessions) sessions)
    (ap (λ b. b || list_any (λ (k : Session). eqb k.serial n.serial) sessions) (eq-eqb n.serial n.serial refl))
    (all-so (λ (x : Session). list_any (λ (k : Session). eqb k.serial x.serial) sessions) (λ (x : Session). eqb n.serial x.serial || list_any (λ (k : Session). eqb k.serial x.serial) sessions)
    (λ x there. ap (λ b. eqb n.serial x.serial || b) there ∙ or_truth (eqb n.serial x.serial)) sessions (all_open sessions))

-- they, and the reply to a session that is open
kept_open : (s : State) (after : Database) (o : Outstanding) (results : Items) → is_open s o.session ≡ true → AreToOpen s (updates_sent s.database after s.sessions ++ results_to o.session o.id results)
kept_open s after o results there =
    list_all-append (λ x. is_open s x.session) (updates_sent s.database after s.sessions) (results_to o.session o.id results)
    ∙ and_from (list_all (λ x. is_open s x.session) (updates_sent s.database after s.sessions)) (list_all (λ x. is_open s x.session) (results_to o.session o.id results))
    (updates_open s after s.sessions (all_open s.sessions)) (to_open s o.session (results_of o.id results) there)

-- the same sessions are open
pub no_more-same : (s t : State) → t.schema ≡ s.schema → t.moment ≡ s.moment → t.next ≡ s.next → t.sessions ≡ s.sessions → IsNoMore s t
no_more-same s t schema moment next sessions = record { schema = schema; moment = moment; next = next; still_open = λ n there. ap (λ (xs : List Session). list_any (λ k. eqb k.serial n) xs) (sym sessions) ∙ there }

-- one session fewer
pub no_more-closed : (s : State) (n : ℕ) → IsNoMore s (closed s n).state
no_more-closed s n = record { schema = refl; moment = refl; next = refl; still_open = λ m there. any-kept (λ (k : Session). eqb k.serial m) (λ k. not (eqb k.serial n)) s.sessions there }

-- the others stay open
pub others_open : (s : State) (n m : ℕ) → eqb m n ≡ false → is_open (closed s n).state m ≡ is_open s m
others_open s n m apart =
    any-filter_same (λ (k : Session). eqb k.serial m) (λ k. not (eqb k.serial n)) true (λ k is. ap (λ x. not (eqb x n)) (eqb-true k.serial m is) ∙ ap not apart) s.sessions

-- those that become owners are notified
pub closed_within : (s : State) (n : ℕ) → IsWithin s (closed s n).state (closed s n).sent
closed_within s n = (
  no_more-closed s n,
  λ stand. (
    (leave-ascends n s.queues stand.0, leave-passes (is_open s) (is_open (closed s n).state) n (λ m there apart. others_open s n m apart ∙ there) s.queues stand.0 stand.1),
    told_open s (told_of_leaving n s.queues) (leaving-passes (is_open s) n s.queues stand.1),
  ),
)

-- whatever comes of a transaction
pub outcome_within : (s : State) (o : Outstanding) (r : TransactionOutcome) → is_open s o.session ≡ true → OfOutcome (λ kept x. IsWithin s x.state x.sent) s o r
outcome_within s o r there = record {
  sends = λ trees. (no_more-same s s refl refl refl refl, λ stand. (stand, to_open s o.session trees there));
  commits = λ results database is. (
    (no_more-same s (record s { database = database }) refl refl refl refl, λ stand. (stand, kept_open s database o results there)),
    (no_more-same s (record s { sealed = Some database }) refl refl refl refl, λ stand. (stand, to_open s o.session (results_of o.id (failed_results results)) there)),
  );
  waits = λ timeout is. (no_more-same s (waits_on s o timeout) refl refl refl refl, λ stand. (stand, refl));
}

try_within : (s : State) (o : Outstanding) (outcome : Option Outcome) (t : Stepped) → is_open s o.session ≡ true → tries_again s o outcome ≡ Some t → IsWithin s t.state t.sent
try_within s o outcome t there h =
    try_has (λ kept x. IsWithin s x.state x.sent) s o outcome t (closed_within s o.session) (outcome_within s o (transaction s.schema s.database (owns s.queues o.session) o.draws (s.moment - o.arrival) o.operations) there) h

within_kept : (s : State) → IsKeptByTries (IsWithin s) (λ o. true)
within_kept s = record {
  aside = λ t sent h. ((no_more-then s t (emptied t) h.0 (no_more-same t (emptied t) refl refl refl refl), h.1), all-any t.outstanding);
  back = λ t sent waiting h all. (no_more-then s t (waits_after t waiting) h.0 (no_more-same t (waits_after t waiting) refl refl refl refl), h.1);
  tries = λ t sent o outcome u h all there again. within-then s t u.state sent u.sent h (try_within t o outcome u there again);
}

-- settling opens no session and leaves schema, moment and serials; and it sends to sessions that were open, if only such
-- stood in queues
pub settle_within_open : (s : State) (number : ℕ) (attempts : List Attempt) (p : Passed) → settle s number attempts ≡ Some p → IsWithin s (left_by p) (sent_by p)
settle_within_open s number attempts p h = settle_keeps (IsWithin s) (λ o. true) (within_kept s) s number attempts p (no_more-same s s refl refl refl refl, λ stand. (stand, refl)) h

-- ---- how many tries it takes

-- how many wait in a state
abbrev pub waiting : State → ℕ
waiting s = length s.outstanding

-- one that changed the database
abbrev one_if : Bool → ℕ
one_if b = cond b 1 0

-- A try that changes the database leaves no more waiting than before it; any other at most the one that was tried.
try_counts : (s : State) (o : Outstanding) (outcome : Option Outcome) (t : Stepped) → tries_again s o outcome ≡ Some t → waiting t.state + one_if (is_kept outcome) ≤ waiting s + 1
try_counts s o outcome t h =
    try_has (λ kept x. waiting x.state + one_if kept ≤ waiting s + 1) s o outcome t (omega (arith, length-kept (λ (x : Outstanding). not (eqb x.session o.session)) s.outstanding)) (record {
      sends = λ trees. omega arith;
      commits = λ results database is. (omega arith, omega arith);
      waits = λ timeout is. omega (arith, length-append s.outstanding (record o { timeout = timeout } ∷ []));
    }) h

-- a pass tries each once at most; if one changed the database, fewer wait after it
pub record PassCounts (s : State) (number : ℕ) (before : List Outstanding) (p : Passed) : Type 0 where
  pub left : waiting (left_by p) + one_if p.has_changed ≤ waiting s + length before
  pub up : number ≤ p.next
  pub down : p.next ≤ number + length before

pub pass_counts : (s : State) (number : ℕ) (attempts : List Attempt) (before : List Outstanding) (p : Passed) → pass s number attempts before ≡ Some p → PassCounts s number before p
pass_counts s number attempts [] p h = subst (PassCounts s number []) (same_Some (passed s number attempts false) p h) (record { left = omega arith; up = omega arith; down = omega arith })
pass_counts s number attempts (o ∷ before) p h = elim (pass_first s number attempts o before p h) [
  | inl skipped ↦
      let c = pass_counts s number attempts before p skipped.1 in
      record { left = omega (arith, c.left); up = c.up; down = omega (arith, c.down) }
  | inr x ↦
      let c = try_counts s o (listed number attempts).outcome x.first x.try in
      subst (PassCounts s number (o ∷ before)) x.is (elim x.goes_on [
        | inl ends ↦
            let left : waiting x.first.state + 1 ≤ waiting s + 1 = subst (λ b. waiting x.first.state + one_if b ≤ waiting s + 1) ends.0 c in
            subst (λ (v : Passed). PassCounts s number (o ∷ before) (passes_after x.first.sent v)) ends.1 (record {
              left = omega (arith, left, length-append x.first.state.outstanding (still_waiting x.first.state before), length-kept (λ (k : Outstanding). is_open x.first.state k.session) before);
              up = omega arith;
              down = omega arith;
            })
        | inr on ↦
            let left : waiting x.first.state + 0 ≤ waiting s + 1 = subst (λ b. waiting x.first.state + one_if b ≤ waiting s + 1) on.0 c in
            let d = pass_counts x.first.state (number + 1) (listed number attempts).others before x.rest on.1 in
            record { left = omega (arith, left, d.left); up = omega (arith, d.up); down = omega (arith, d.down) }
      ])
]

-- after a pass over all that changed the database fewer wait
pub fewer_left : (s : State) (number : ℕ) (p : Passed) → PassCounts (emptied s) number s.outstanding p → p.has_changed ≡ true → waiting (left_by p) + 1 ≤ waiting s
fewer_left s number p c changed =
    let left : waiting (left_by p) + 1 ≤ 0 + waiting s = subst (λ b. waiting (left_by p) + one_if b ≤ 0 + waiting s) changed c.left in
    omega (arith, left)

-- a pass over n and then all over fewer
fewer : (m n : ℕ) → m + 1 ≤ n → m * (m + 1) + (n + n) ≤ n * (n + 1)
fewer m zero h = omega (arith, h)
fewer m (suc n) h = omega (arith, mul-le m (m + 1) n (n + 1) (omega (arith, h)) (omega (arith, h)))

-- a pass over n alone
at_once : (n : ℕ) → n + n ≤ n * (n + 1)
at_once zero = omega arith
at_once (suc n) = omega (arith, mul-le (n + 1) 2 (n + 1) (n + 2) (omega arith) (omega arith))

-- settling n takes at most n * (n + 1) / 2 tries
pub record SettleCounts (s : State) (number : ℕ) (p : Passed) : Type 0 where
  pub up : number ≤ p.next
  pub down : p.next + p.next ≤ number + number + waiting s * (waiting s + 1)

settle_within_counts : (most : ℕ) (s : State) (number : ℕ) (attempts : List Attempt) (p : Passed) → settle_within most s number attempts ≡ Some p → SettleCounts s number p
settle_within_counts zero s number attempts p h = subst (SettleCounts s number) (same_Some (passed s number attempts false) p h) (record { up = omega arith; down = omega arith })
settle_within_counts (suc most) s number attempts p h =
    let x = settle_first most s number attempts p h in
    let c = pass_counts (emptied s) number attempts s.outstanding x.first x.pass in
    elim x.goes_on [
      | inl (changed, rest, on, is) ↦
          let d = settle_within_counts most (left_by x.first) x.first.next x.first.tried.others rest on in
          let left = fewer_left s number x.first c changed in
          subst (SettleCounts s number) is (record { up = omega (arith, c.up, d.up); down = omega (arith, c.down, d.down, fewer (waiting (left_by x.first)) (waiting s) left) })
      | inr (same, is) ↦ subst (SettleCounts s number) is (record { up = c.up; down = omega (arith, c.down, at_once (waiting s)) })
    ]

pub settle_counts : (s : State) (number : ℕ) (attempts : List Attempt) (p : Passed) → settle s number attempts ≡ Some p → SettleCounts s number p
settle_counts s number attempts p h = settle_within_counts (waiting s) s number attempts p h

-- ---- what is left

-- those of other sessions are blocked still, when a session is closed: what they own they own still
left_blocked : (s : State) (n : ℕ) (os : List Outstanding) → All (IsBlocked s) os → All (IsBlocked (closed s n).state) (of_others n os)
left_blocked s n [] all = All-nil (IsBlocked (closed s n).state)
left_blocked s n (o ∷ os) all = by (left_blocked s n os (All-tail (IsBlocked s) o os all)) (eqb o.session n) refl
  where
    by : All (IsBlocked (closed s n).state) (of_others n os) → (b : Bool) → eqb o.session n ≡ b → All (IsBlocked (closed s n).state) (cond (not b) (o ∷ of_others n os) (of_others n os))
    by rest true is = rest
    by rest false is =
        All-cons (IsBlocked (closed s n).state) o (of_others n os)
        (waits_owning s.schema s.database (owns s.queues o.session) (owns (leave n s.queues) o.session) o.draws (s.moment - o.arrival) o.operations o.timeout
        (λ name own. owner-stays o.session n is name s.queues own) (All-head (IsBlocked s) o os all))
        rest

-- a try that changes nothing
try_blocks : (s : State) (o : Outstanding) (outcome : Option Outcome) (t : Stepped) → tries_again s o outcome ≡ Some t → is_kept outcome ≡ false → AreBlocked s → AreBlocked t.state
try_blocks s o outcome t h same before =
    try_has (λ kept x. kept ≡ false → AreBlocked x.state) s o outcome t (λ no. left_blocked s o.session s.outstanding before) (record {
      sends = λ trees no. before;
      commits = λ results database is. (λ no. cc, λ no. before);
      waits = λ timeout is no.
          let last : Outstanding = record o { timeout = timeout } in
          All-append (IsBlocked s) s.outstanding (last ∷ []) before (All-cons (IsBlocked s) last [] is (All-nil (IsBlocked s)));
    }) h same

-- a pass that changes nothing has tried each that it leaves
pub pass_blocks : (s : State) (number : ℕ) (attempts : List Attempt) (before : List Outstanding) (p : Passed) → pass s number attempts before ≡ Some p → p.has_changed ≡ false → AreBlocked s → AreBlocked (left_by p)
pass_blocks s number attempts [] p h same are = subst (λ (v : Passed). AreBlocked (left_by v)) (same_Some (passed s number attempts false) p h) are
pass_blocks s number attempts (o ∷ before) p h same are = elim (pass_first s number attempts o before p h) [
  | inl skipped ↦ pass_blocks s number attempts before p skipped.1 same are
  | inr x ↦ elim x.goes_on [
    | inl ends ↦ absurd (false≢true (sym same ∙ (ap (λ (v : Passed). v.has_changed) (sym x.is) ∙ ap (λ (v : Passed). v.has_changed) (sym ends.1))))
    | inr on ↦
        subst (λ (v : Passed). AreBlocked (left_by v)) x.is
        (pass_blocks x.first.state (number + 1) (listed number attempts).others before x.rest on.1 (ap (λ (v : Passed). v.has_changed) x.is ∙ same) (try_blocks s o (listed number attempts).outcome x.first x.try on.0 are))
  ]
]

settle_within_blocks : (most : ℕ) (s : State) (number : ℕ) (attempts : List Attempt) (p : Passed) → settle_within most s number attempts ≡ Some p → waiting s ≤ most → AreBlocked (left_by p)
settle_within_blocks zero s number attempts p h few = subst (λ (v : Passed). AreBlocked (left_by v)) (same_Some (passed s number attempts false) p h) (λ k d low. absurd (omega (arith, low, few)))
settle_within_blocks (suc most) s number attempts p h few =
    let x = settle_first most s number attempts p h in
    let c = pass_counts (emptied s) number attempts s.outstanding x.first x.pass in
    elim x.goes_on [
      | inl (changed, rest, on, is) ↦
          let left = fewer_left s number x.first c changed in
          subst (λ (v : Passed). AreBlocked (left_by v)) is (settle_within_blocks most (left_by x.first) x.first.next x.first.tried.others rest on (omega (arith, left, few)))
      | inr (same, is) ↦ subst (λ (v : Passed). AreBlocked (left_by v)) is (pass_blocks (emptied s) number attempts s.outstanding x.first x.pass same (All-nil (IsBlocked s)))
    ]

-- settling ends where each transaction that is left is blocked
pub settle_blocks : (s : State) (number : ℕ) (attempts : List Attempt) (p : Passed) → settle s number attempts ≡ Some p → AreBlocked (left_by p)
settle_blocks s number attempts p h = settle_within_blocks (waiting s) s number attempts p h (omega arith)

-- if nothing waits, nothing is tried
pub settle_nothing : (s : State) (number : ℕ) (attempts : List Attempt) → s.outstanding ≡ [] → settle s number attempts ≡ Some (passed s number attempts false)
settle_nothing s number attempts none = ap (λ (os : List Outstanding). settle_within (length os) s number attempts) none
