-- How many transactions wait in the states that a history leads to: at most as many of each session as may, all of them of
-- sessions that are open.
use Rattle.std.proofs.Common.{◌≡◌, ℕ, zero, suc, ◌+◌, ◌*◌, ◌<◌, ◌≤◌, List, [], ◌∷◌, ◌++◌, length, Bool, true, false, cond, eqb, leb, Option, Some, None, inl, inr, refl, sym, ap, subst, ◌∙◌, arith}
use Rattle.std.specs.Prelude.{◌&&◌, ◌||◌, not, filter, codes, option_map, is_some, Result, Ok, Err}
use Rattle.std.specs.List.{list_all, list_any}
use Rattle.std.specs.Str.{bytes_eq}
use Rattle.std.proofs.lemmas.Bool.{and_parts, and_from, eqb-true, eq-eqb, leb-false, false≢true}
use Rattle.std.proofs.lemmas.List.{length-append}
use Rattle.std.proofs.lemmas.List.Folds.{list_all-append}
use Rattle.std.proofs.lemmas.Option.{same_Some}
use Rattle.serde_json.specs.Data.{Data, Items, no_items, item}
use Rattle.serde_json.specs.Find.{as_str, as_object}
use Rattle.ov_specs.specs.locks.Queues.{LockCall, Lock, Steal, Unlock, lock_name, call_refusal}
use Rattle.ov_specs.specs.machine.History.{run}
use Rattle.ov_specs.specs.machine.Machine.{State, Session, Entry, Event, Open, Take, Close, Tick, Choice, Outcome, Attempt, Outstanding, Listed, listed, Stepped, Passed, Work, Answers, Transact, Cancels, Locks, Watches, work_of, cancel_notification, transact_call, transact_call_on, schema_call, schema_call_on, lock_call, lock_call_on, monitors_of, monitor_work, monitor_call, monitor_call_on, monitor_cancel_work, monitor_cancel_call, unless_refused, is_open, is_waiting, is_request, waiting_of, most_waiting, arrived, of_others, works, tries_again, closed, happens, takes_and_settles, settle, settle_within, pass, passed, still_waiting, step, ends, is_without_choice, none_drawn, with_next_session, with_monitors, opening}
use Rattle.ov_specs.specs.monitors.Monitors.{Monitor, added, canceled}
use Rattle.ov_specs.specs.monitors.Requests.{MonitorFault}
use Rattle.ov_specs.specs.rows.Database.{Database}
use Rattle.ov_specs.specs.schema.SchemaTypes.{Schema}
use Rattle.ov_specs.specs.values.Uuid.{Uuid}
use Rattle.ov_specs.specs.wire.Message.{Message, Call, Notification, Answer, Bad}
use Rattle.ov_specs.proofs.laws.Histories.{run_parts}
use Rattle.ov_specs.proofs.laws.Lists.{all-filter}
use Rattle.ov_specs.proofs.laws.Settling.{all-any, others_open}
use Rattle.ov_specs.proofs.laws.Tries.{left_by, emptied, pass_first, settle_first, IsKeptByTries, settle_keeps, takes_first, tick_first}
use Rattle.ov_specs.proofs.laws.Turns.{is_open-more, same_open}
use Rattle.ov_specs.proofs.laws.Works.{when_is, when_suits, try_has, work_has}

-- ---- what a message asks for

-- a transaction is tried only if fewer of its session wait than may
abbrev pub MayWait : State → ℕ → Work → Type 0
MayWait s n (Answers trees) = Unit {0}
MayWait s n (Transact id operations) = waiting_of n s < most_waiting
MayWait s n (Cancels id) = Unit {0}
MayWait s n (Locks call id name) = Unit {0}
MayWait s n (Watches id result monitors) = Unit {0}

module _ (s : State) (n : ℕ) where
  either : (b : Bool) (v w : Work) → MayWait s n v → MayWait s n w → MayWait s n (cond b v w)
  either true v w p q = p
  either false v w p q = q

  schema_waits : (id : Data) (params : Items) → MayWait s n (schema_call s id params)
  schema_waits id no_items = tt
  schema_waits id (item d no_items) = by (as_str d)
    where
      by : (o : Option (List ℕ)) → MayWait s n (schema_call_on s id o)
      by None = tt
      by (Some name) = either (bytes_eq name s.schema.name) _ _ tt tt
  schema_waits id (item d (item e items)) = tt

  transact_waits : (id : Data) (params : Items) → MayWait s n (transact_call s n id params)
  transact_waits id no_items = tt
  transact_waits id (item d operations) = by (as_str d)
    where
      few : (w : Work) → MayWait s n w → (b : Bool) → leb most_waiting (waiting_of n s) ≡ b → MayWait s n (cond b w (Transact id operations))
      few w may true is = may
      few w may false is = leb-false most_waiting (waiting_of n s) is

      by : (o : Option (List ℕ)) → MayWait s n (transact_call_on s n id o operations)
      by None = tt
      by (Some name) = either (bytes_eq name s.schema.name) _ _ (either (is_waiting s n id) _ _ tt (few _ tt (leb most_waiting (waiting_of n s)) refl)) tt

  lock_waits : (id : Data) (call : LockCall) (params : Items) → MayWait s n (lock_call s n id call params)
  lock_waits id call no_items = tt
  lock_waits id call (item d no_items) = by (lock_name (as_str d))
    where
      unless : (name : List ℕ) (o : Option (List ℕ)) → MayWait s n (unless_refused id o (Locks call id name))
      unless name None = tt
      unless name (Some text) = tt

      by : (o : Option (List ℕ)) → MayWait s n (lock_call_on s n id call o)
      by None = tt
      by (Some name) = unless name (call_refusal call name n s.queues)
  lock_waits id call (item d (item e items)) = tt

  monitor_waits : (id : Data) (params : Items) → MayWait s n (monitor_call s n id params)
  monitor_waits id no_items = tt
  monitor_waits id (item d no_items) = tt
  monitor_waits id (item d (item name no_items)) = tt
  monitor_waits id (item d (item name (item requests no_items))) = either (is_some (as_object requests)) _ _ (by (as_str d)) tt
    where
      watch : (r : Result (List Monitor) MonitorFault) → MayWait s n (monitor_work s id name r)
      watch (Ok monitors) = tt
      watch (Err fault) = tt

      by : (o : Option (List ℕ)) → MayWait s n (monitor_call_on s n id o name requests)
      by None = tt
      by (Some database) = either (bytes_eq database s.schema.name) _ _ (watch (added s.schema (monitors_of n s) name requests)) tt
  monitor_waits id (item d (item name (item requests (item e items)))) = tt

  monitor_cancel_waits : (id : Data) (params : Items) → MayWait s n (monitor_cancel_call s n id params)
  monitor_cancel_waits id no_items = tt
  monitor_cancel_waits id (item name no_items) = watch (canceled (monitors_of n s) name)
    where
      watch : (r : Result (List Monitor) MonitorFault) → MayWait s n (monitor_cancel_work id r)
      watch (Ok monitors) = tt
      watch (Err fault) = tt
  monitor_cancel_waits id (item name (item d items)) = tt

  cancel_waits : (params : Items) → MayWait s n (cancel_notification s n params)
  cancel_waits no_items = tt
  cancel_waits (item id no_items) = either (is_waiting s n id) _ _ tt tt
  cancel_waits (item id (item d items)) = tt

  pub work_waits : (message : Message) → MayWait s n (work_of s n message)
  work_waits (Call id method params) =
      either (bytes_eq method (codes "list_dbs")) _ _ tt
      (either (bytes_eq method (codes "get_schema")) _ _ (schema_waits id params)
      (either (bytes_eq method (codes "transact")) _ _ (transact_waits id params)
      (either (bytes_eq method (codes "echo")) _ _ tt
      (either (bytes_eq method (codes "lock")) _ _ (lock_waits id Lock params)
      (either (bytes_eq method (codes "steal")) _ _ (lock_waits id Steal params)
      (either (bytes_eq method (codes "unlock")) _ _ (lock_waits id Unlock params)
      (either (bytes_eq method (codes "monitor")) _ _ (monitor_waits id params)
      (either (bytes_eq method (codes "monitor_cancel")) _ _ (monitor_cancel_waits id params) tt))))))))
  work_waits (Notification method params) = either (bytes_eq method (codes "cancel")) _ _ (cancel_waits params) tt
  work_waits Answer = tt
  work_waits (Bad id kind) = tt

-- ---- how many of these are of a session

abbrev count_of : ℕ → List Outstanding → ℕ
count_of n waiting = length (filter (λ o. eqb o.session n) waiting)

count-append : (n : ℕ) (xs ys : List Outstanding) → count_of n (xs ++ ys) ≡ count_of n xs + count_of n ys
count-append n [] ys = omega arith
count-append n (x ∷ xs) ys = by (eqb x.session n) (count-append n xs ys)
  where
    test : Outstanding → Bool
    test o = eqb o.session n

    by : (b : Bool) → count_of n (xs ++ ys) ≡ count_of n xs + count_of n ys
        → length (cond b (x ∷ filter test (xs ++ ys)) (filter test (xs ++ ys))) ≡ length (cond b (x ∷ filter test xs) (filter test xs)) + count_of n ys
    by true h = omega (arith, h)
    by false h = h

-- at most as many are kept
count-kept : (n : ℕ) (kept : Outstanding → Bool) (xs : List Outstanding) → count_of n (filter kept xs) ≤ count_of n xs
count-kept n kept [] = omega arith
count-kept n kept (x ∷ xs) = by (kept x) (eqb x.session n) refl (count-kept n kept xs)
  where
    test : Outstanding → Bool
    test o = eqb o.session n

    by : (b c : Bool) → eqb x.session n ≡ c → count_of n (filter kept xs) ≤ count_of n xs
        → count_of n (cond b (x ∷ filter kept xs) (filter kept xs)) ≤ length (cond c (x ∷ filter test xs) (filter test xs))
    by true true e h = rw e (omega (arith, h))
    by true false e h = rw e h
    by false true e h = omega (arith, h)
    by false false e h = h

-- those of a session, and the others
count-others : (n : ℕ) (xs : List Outstanding) → length xs ≡ count_of n xs + length (of_others n xs)
count-others n [] = refl
count-others n (x ∷ xs) = by (eqb x.session n) (count-others n xs)
  where
    test : Outstanding → Bool
    test o = eqb o.session n

    by : (b : Bool) → length xs ≡ count_of n xs + length (of_others n xs)
        → length (x ∷ xs) ≡ length (cond b (x ∷ filter test xs) (filter test xs)) + length (cond (not b) (x ∷ of_others n xs) (of_others n xs))
    by true h = omega (arith, h)
    by false h = omega (arith, h)

-- ---- settling leaves no more of a session

module _ (n : ℕ) where
  try_counts : (s : State) (o : Outstanding) (outcome : Option Outcome) (t : Stepped) → tries_again s o outcome ≡ Some t → waiting_of n t.state ≤ waiting_of n s + count_of n (o ∷ [])
  try_counts s o outcome t h =
      try_has (λ kept x. waiting_of n x.state ≤ waiting_of n s + count_of n (o ∷ [])) s o outcome t (omega (arith, count-kept n (λ (x : Outstanding). not (eqb x.session o.session)) s.outstanding)) (record {
        sends = λ trees. omega arith;
        commits = λ results database is. (omega arith, omega arith);
        waits = λ timeout is. counts-same (eqb o.session n) timeout (count-append n s.outstanding (record o { timeout = timeout } ∷ []));
      }) h
    where
      counts-same : (b : Bool) (timeout : Option ℕ) → count_of n (s.outstanding ++ record o { timeout = timeout } ∷ []) ≡ waiting_of n s + length (cond b (record o { timeout = timeout } ∷ []) [])
          → count_of n (s.outstanding ++ record o { timeout = timeout } ∷ []) ≤ waiting_of n s + length (cond b (o ∷ []) [])
      counts-same true timeout e = omega (arith, e)
      counts-same false timeout e = omega (arith, e)

  pass_counts : (s : State) (number : ℕ) (attempts : List Attempt) (before : List Outstanding) (p : Passed) → pass s number attempts before ≡ Some p → waiting_of n (left_by p) ≤ waiting_of n s + count_of n before
  pass_counts s number attempts [] p h = subst (λ q. waiting_of n (left_by q) ≤ waiting_of n s + count_of n []) (same_Some (passed s number attempts false) p h) (omega arith)
  pass_counts s number attempts (o ∷ before) p h = elim (pass_first s number attempts o before p h) [
    | inl skipped ↦ omega (arith, pass_counts s number attempts before p skipped.1, count-append n (o ∷ []) before)
    | inr x ↦
        let c = try_counts s o (listed number attempts).outcome x.first x.try in
        let all = count-append n (o ∷ []) before in
        subst (λ q. waiting_of n (left_by q) ≤ waiting_of n s + count_of n (o ∷ before)) x.is (elim x.goes_on [
          | inl ends ↦
              subst (λ q. waiting_of n (left_by q) ≤ waiting_of n s + count_of n (o ∷ before)) ends.1
              (omega (arith, c, all, count-append n x.first.state.outstanding (still_waiting x.first.state before), count-kept n (λ (w : Outstanding). is_open x.first.state w.session) before))
          | inr on ↦ omega (arith, c, all, pass_counts x.first.state (number + 1) (listed number attempts).others before x.rest on.1)
        ])
  ]

  within_counts : (most : ℕ) (s : State) (number : ℕ) (attempts : List Attempt) (p : Passed) → settle_within most s number attempts ≡ Some p → waiting_of n (left_by p) ≤ waiting_of n s
  within_counts zero s number attempts p h = subst (λ q. waiting_of n (left_by q) ≤ waiting_of n s) (same_Some (passed s number attempts false) p h) (omega arith)
  within_counts (suc most) s number attempts p h =
      let x = settle_first most s number attempts p h in
      let first : waiting_of n (left_by x.first) ≤ waiting_of n s = omega (arith, pass_counts (emptied s) number attempts s.outstanding x.first x.pass) in
      elim x.goes_on [
        | inl (changed, rest, on, is) ↦
            subst (λ q. waiting_of n (left_by q) ≤ waiting_of n s) is (omega (arith, first, within_counts most (left_by x.first) x.first.next x.first.tried.others rest on))
        | inr (same, is) ↦ subst (λ q. waiting_of n (left_by q) ≤ waiting_of n s) is first
      ]

-- ---- only transactions of open sessions wait

abbrev AreOpen : State → Type 0
AreOpen s = list_all (λ o. is_open s o.session) s.outstanding ≡ true

all-so : (one other : Outstanding → Bool) → ((o : Outstanding) → one o ≡ true → other o ≡ true) → (xs : List Outstanding) → list_all one xs ≡ true → list_all other xs ≡ true
all-so one other so [] h = refl
all-so one other so (x ∷ xs) h =
    let parts = and_parts (one x) (list_all one xs) h in
    and_from (other x) (list_all other xs) (so x parts.0) (all-so one other so xs parts.1)

closed_open : (s : State) (n : ℕ) → AreOpen s → AreOpen (closed s n).state
closed_open s n holds = left s.outstanding holds
  where
    left : (xs : List Outstanding) → list_all (λ o. is_open s o.session) xs ≡ true → list_all (λ o. is_open (closed s n).state o.session) (of_others n xs) ≡ true
    left [] h = refl
    left (x ∷ xs) h = by (eqb x.session n) refl (left xs parts.1)
      where
        parts : (is_open s x.session ≡ true) × (list_all (λ o. is_open s o.session) xs ≡ true)
        parts = and_parts (is_open s x.session) (list_all (λ o. is_open s o.session) xs) h

        by : (b : Bool) → eqb x.session n ≡ b → list_all (λ o. is_open (closed s n).state o.session) (of_others n xs) ≡ true
            → list_all (λ o. is_open (closed s n).state o.session) (cond (not b) (x ∷ of_others n xs) (of_others n xs)) ≡ true
        by true e rest = rest
        by false e rest = and_from (is_open (closed s n).state x.session) (list_all (λ o. is_open (closed s n).state o.session) (of_others n xs)) (others_open s n x.session e ∙ parts.0) rest

one_more : (s : State) (o : Outstanding) → AreOpen s → is_open s o.session ≡ true → list_all (λ w. is_open s w.session) (s.outstanding ++ o ∷ []) ≡ true
one_more s o holds there =
    list_all-append (λ w. is_open s w.session) s.outstanding (o ∷ [])
    ∙ and_from (list_all (λ w. is_open s w.session) s.outstanding) (is_open s o.session && true) holds (and_from (is_open s o.session) true there refl)

try_open : (s : State) (o : Outstanding) (outcome : Option Outcome) (t : Stepped) → AreOpen s → is_open s o.session ≡ true → tries_again s o outcome ≡ Some t → AreOpen t.state
try_open s o outcome t holds there h =
    try_has (λ kept x. AreOpen x.state) s o outcome t (closed_open s o.session holds) (record {
      sends = λ trees. holds;
      commits = λ results database is. (holds, holds);
      waits = λ timeout is. one_more s (record o { timeout = timeout }) holds there;
    }) h

settle_open : (s : State) (number : ℕ) (attempts : List Attempt) (p : Passed) → AreOpen s → settle s number attempts ≡ Some p → AreOpen (left_by p)
settle_open s number attempts p holds h = settle_keeps (λ t sent. AreOpen t) (λ o. true) kept s number attempts p holds h
  where
    after : (t : State) (waiting : List Outstanding) → list_all (λ o. is_open t o.session) (still_waiting t waiting) ≡ true
    after t [] = refl
    after t (o ∷ waiting) = by (is_open t o.session) refl (after t waiting)
      where
        by : (b : Bool) → is_open t o.session ≡ b → list_all (λ w. is_open t w.session) (still_waiting t waiting) ≡ true → list_all (λ w. is_open t w.session) (cond b (o ∷ still_waiting t waiting) (still_waiting t waiting)) ≡ true
        by true e rest = and_from (is_open t o.session) (list_all (λ w. is_open t w.session) (still_waiting t waiting)) e rest
        by false e rest = rest

    kept : IsKeptByTries (λ t sent. AreOpen t) (λ o. true)
    kept = record {
      aside = λ t sent h. (refl, all-any t.outstanding);
      back = λ t sent waiting h all.
          list_all-append (λ o. is_open t o.session) t.outstanding (still_waiting t waiting)
          ∙ and_from (list_all (λ o. is_open t o.session) t.outstanding) (list_all (λ o. is_open t o.session) (still_waiting t waiting)) h (after t waiting);
      tries = λ t sent o outcome u h all there again. try_open t o outcome u h there again;
    }

-- ---- steps and runs

-- at most as many of each session wait as may, and only those of open sessions
pub record AreFew (s : State) : Type 0 where
  pub of_each : (n : ℕ) → waiting_of n s ≤ most_waiting
  pub are_open : AreOpen s

settle_few : (s : State) (number : ℕ) (attempts : List Attempt) (p : Passed) → AreFew s → settle s number attempts ≡ Some p → AreFew (left_by p)
settle_few s number attempts p few h = record {
  of_each = λ n. omega (arith, within_counts n (length s.outstanding) s number attempts p h, few.of_each n);
  are_open = settle_open s number attempts p few.are_open h;
}

some_few : (s : State) (kept : Outstanding → Bool) → AreFew s → AreFew (record s { outstanding = filter kept s.outstanding })
some_few s kept few = record {
  of_each = λ n. omega (arith, count-kept n kept s.outstanding, few.of_each n);
  are_open = all-filter kept (λ o. is_open s o.session) s.outstanding few.are_open;
}

closed_few : (s : State) (n : ℕ) → AreFew s → AreFew (closed s n).state
closed_few s n few = record {
  of_each = λ m. omega (arith, count-kept m (λ (o : Outstanding). not (eqb o.session n)) s.outstanding, few.of_each m);
  are_open = closed_open s n few.are_open;
}

-- one more waits, of a session of which fewer do than may
more_few : (s : State) (o : Outstanding) → AreFew s → is_open s o.session ≡ true → waiting_of o.session s < most_waiting → (n : ℕ) → count_of n (s.outstanding ++ o ∷ []) ≤ most_waiting
more_few s o few there may n = rw (count-append n s.outstanding (o ∷ [])) (by (eqb o.session n) refl)
  where
    by : (b : Bool) → eqb o.session n ≡ b → count_of n s.outstanding + length (cond b (o ∷ []) []) ≤ most_waiting
    by true e = omega (arith, subst (λ m. waiting_of m s < most_waiting) (eqb-true o.session n e) may)
    by false e = omega (arith, few.of_each n)

work_few : (s : State) (n : ℕ) (draws : List Uuid) (o : Option Outcome) (message : Message) (t : Stepped) → AreFew s → is_open s n ≡ true → works s n draws o (work_of s n message) ≡ Some t → AreFew t.state
work_few s n draws o message t few there h =
    work_has (λ own x. AreFew x.state) s n draws o (work_of s n message) t (record {
      closes = closed_few s n few;
      sends = λ trees. few;
      transacts = λ id operations is.
          let may : waiting_of n s < most_waiting = subst (MayWait s n) is (work_waits s n message) in
          record {
            sends = λ trees. few;
            commits = λ results database is. (record { of_each = few.of_each; are_open = few.are_open }, record { of_each = few.of_each; are_open = few.are_open });
            waits = λ timeout is.
                let w : Outstanding = record (arrived s n id draws operations) { timeout = timeout } in
                record { of_each = more_few s w few there may; are_open = one_more s w few.are_open there };
          };
      cancels = λ id is. some_few s (λ w. not (is_request n id w)) few;
      locks = λ call id name is. record { of_each = few.of_each; are_open = few.are_open };
      watches = λ id result monitors is. record {
        of_each = few.of_each;
        are_open = all-so (λ w. is_open s w.session) (λ w. is_open (with_monitors n monitors s) w.session) (λ w open'. same_open s n monitors w.session ∙ open') s.outstanding few.are_open;
      };
    }) h

take_few : (s : State) (c : Choice) (n : ℕ) (message : Message) (t : Stepped) → AreFew s → is_open s n ≡ true → ends (takes_and_settles s c n message) ≡ Some t → AreFew t.state
take_few s c n message t few there h =
    let x = takes_first s c n message t h in
    let own : Listed = listed 1 c.outcomes in
    let first = work_few s n c.draws own.outcome message x.first few there x.work in
    elim x.goes_on [
      | inl (not_kept, same) ↦ subst (λ (v : Stepped). AreFew v.state) same first
      | inr (kept, p, settled, same) ↦ subst (λ (v : Stepped). AreFew v.state) same (settle_few x.first.state 2 own.others p first settled)
    ]

happens_few : (s : State) (c : Choice) (what : Event) (t : Stepped) → AreFew s → happens s c what ≡ Some t → AreFew t.state
happens_few s c Open t few h =
    let x : Stepped = record { state = with_next_session s; sent = [] } in
    subst (λ (v : Stepped). AreFew v.state) (same_Some x t (when_is (is_without_choice c) (Some x) t h)) (record {
      of_each = few.of_each;
      are_open = all-so (λ o. is_open s o.session) (λ o. is_open x.state o.session) (λ o there. is_open-more s o.session ∙ ap (λ b. b || eqb s.next o.session) there) s.outstanding few.are_open;
    })
happens_few s c (Take n message) t few h =
    take_few s c n message t few (when_suits (is_open s n) (ends (takes_and_settles s c n message)) t h) (when_is (is_open s n) (ends (takes_and_settles s c n message)) t h)
happens_few s c (Close n cause) t few h = subst (λ (v : Stepped). AreFew v.state) (same_Some (closed s n) t (when_is (is_without_choice c && is_open s n) (Some (closed s n)) t h)) (closed_few s n few)
happens_few s c Tick t few h =
    let (p, settled, same) = tick_first s c t (when_is (none_drawn c) (ends (option_map (λ p. p.tried) (settle s 1 c.outcomes))) t h) in
    subst (λ (v : Stepped). AreFew v.state) same (settle_few s 1 c.outcomes p few settled)

step_few : (s : State) (e : Entry) (t : Stepped) → step s e ≡ Some t → AreFew s → AreFew t.state
step_few s e t h few =
    let now : State = record s { moment = e.choice.moment } in
    happens_few now e.choice e.event t (record { of_each = few.of_each; are_open = few.are_open }) (when_is (leb s.moment e.choice.moment) (happens now e.choice e.event) t h)

run_few : (s : State) (history : List Entry) (t : Stepped) → run s history ≡ Some t → AreFew s → AreFew t.state
run_few s [] t h few = subst (λ (v : Stepped). AreFew v.state) (same_Some (record { state = s; sent = [] }) t h) few
run_few s (e ∷ history) t h few =
    let parts = run_parts s e history t h in
    subst AreFew parts.state (run_few parts.first.state history parts.rest parts.runs (step_few s e parts.first parts.stepped few))

-- so it is in each state that a history leads to
pub history_few : (schema : Schema) (database : Database) (history : List Entry) (t : Stepped) → run (opening schema database) history ≡ Some t → AreFew t.state
history_few schema database history t h = run_few (opening schema database) history t h (record { of_each = λ n. omega arith; are_open = refl })

-- ---- how many wait in all

-- at most 64 of each of the sessions
count_all : (sessions : List Session) (waiting : List Outstanding) → list_all (λ o. list_any (λ (k : Session). eqb k.serial o.session) sessions) waiting ≡ true → ((n : ℕ) → count_of n waiting ≤ most_waiting)
    → length waiting ≤ most_waiting * length sessions
count_all [] [] all few = omega arith
count_all [] (o ∷ waiting) all few = absurd (false≢true all)
count_all (m ∷ sessions) waiting all few =
    let rest = of_others m.serial waiting in
    let fewer = count_all sessions rest (others waiting all) (λ n. omega (arith, few n, count-kept n (λ (o : Outstanding). not (eqb o.session m.serial)) waiting)) in
    omega (arith, fewer, count-others m.serial waiting, few m.serial)
  where
    any : Outstanding → Bool
    any o = list_any (λ (k : Session). eqb k.serial o.session) sessions

    others : (xs : List Outstanding) → list_all (λ o. eqb m.serial o.session || any o) xs ≡ true → list_all any (of_others m.serial xs) ≡ true
    others [] h = refl
    others (x ∷ xs) h = by (eqb x.session m.serial) refl (others xs parts.1)
      where
        parts : ((eqb m.serial x.session || any x) ≡ true) × (list_all (λ o. eqb m.serial o.session || any o) xs ≡ true)
        parts = and_parts (eqb m.serial x.session || any x) (list_all (λ o. eqb m.serial o.session || any o) xs) h

        other : (b : Bool) → eqb m.serial x.session ≡ b → eqb x.session m.serial ≡ false → (b || any x) ≡ true → any x ≡ true
        other true is apart k = absurd (false≢true (sym apart ∙ eq-eqb x.session m.serial (sym (eqb-true m.serial x.session is))))
        other false is apart k = k

        by : (b : Bool) → eqb x.session m.serial ≡ b → list_all any (of_others m.serial xs) ≡ true → list_all any (cond (not b) (x ∷ of_others m.serial xs) (of_others m.serial xs)) ≡ true
        by true e more = more
        by false e more = and_from (any x) (list_all any (of_others m.serial xs)) (other (eqb m.serial x.session) refl e parts.0) more

-- If a message asks for a transaction, there is room for it to wait.
pub has_room : (s : State) (n : ℕ) (message : Message) (id : Data) (operations : Items) → AreFew s → length s.sessions ≤ 64 → is_open s n ≡ true → work_of s n message ≡ Transact id operations → length s.outstanding < 4096
has_room s n message id operations few most there is =
    let w : Outstanding = arrived s n id [] operations in
    let may : waiting_of n s < most_waiting = subst (MayWait s n) is (work_waits s n message) in
    omega (arith, most, count_all s.sessions (s.outstanding ++ w ∷ []) (one_more s w few.are_open there) (more_few s w few there may), length-append s.outstanding (w ∷ []))
