-- What holds of the queues of locks, whatever is asked: one owner at most, nobody twice, and nobody stays after leaving.
use Rattle.std.proofs.Common.{◌≡◌, ℕ, List, [], ◌∷◌, ◌++◌, map, Bool, true, false, cond, not, ◌&&◌, ◌||◌, eqb, Option, Some, None, option_map, refl, sym, ap, ◌∙◌, Ordering, Less, Equal, Greater}
use Rattle.std.proofs.lemmas.Bool.{eq-eqb, eqb-true, or_parts, and_parts, and_from, false≢true}
use Rattle.std.proofs.lemmas.List.Folds.{list_all-append}
use Rattle.std.proofs.lemmas.Option.{same_Some}
use Rattle.std.proofs.lemmas.Map.Keys.{IsDistinct-cons}
use Rattle.std.specs.BTreeMap.{is_at, insert_entry}
use Rattle.std.specs.List.{AllByRecursion, IsDistinct, filter, list_any, list_all}
use Rattle.std.specs.Map.{lookup, remove_entry}
use Rattle.std.specs.Ordering.{is_eq, match_ordering}
use Rattle.std.specs.Prelude.{unwrap_or, option_to_list}
use Rattle.serde_json.specs.Data.{Data}
use Rattle.ov_specs.specs.locks.Queues.{Queues, LockCall, Lock, Steal, Unlock, HasNoRepeats, queue_of, first_of, owner, owns, stands_in, has_requested, names_of, with_queue, lock, steal, without, next_in, unlock, next_owner, freed_before, freed_all, leave, after_call, told_of_call, told_of_leaving, locked_notification, stolen_notification}
use Rattle.ov_specs.specs.schema.Schema.{is_some_and}
use Rattle.ov_specs.specs.schema.SchemaTypes.{name_cmp}
use Rattle.ov_specs.proofs.laws.Lists.{all-filter}
use Rattle.ov_specs.proofs.laws.LockQueues.{DoQueuesAscend, with_queue-ascends, apart_back, requested-names, unlock-ascends, unlock_all-keeps, names-leave, leave-ascends}
use Rattle.ov_specs.proofs.laws.Names.{name_exact, same_name-itself}
use Rattle.ov_specs.proofs.laws.Truths.{equal_is}

-- ---- one owner

-- the session is the first of a queue
abbrev stands_first : ℕ → List ℕ → Bool
stands_first session queue = is_some_and (λ first. eqb first session) (first_of queue)

-- who owns a lock is its owner
pub owns-owner : (name : List ℕ) (queues : Queues) (session : ℕ) → owns queues session name ≡ true → owner name queues ≡ Some session
owns-owner name queues session own = by (queue_of name queues) own
  where
    by : (queue : List ℕ) → stands_first session queue ≡ true → first_of queue ≡ Some session
    by [] own = absurd (false≢true own)
    by (first ∷ queue) own = ap (λ (n : ℕ). Some n) (eqb-true first session own)

pub one_owner : (name : List ℕ) (queues : Queues) (a b : ℕ) → owns queues a name ≡ true → owns queues b name ≡ true → a ≡ b
one_owner name queues a b own also = same_Some a b (sym (owns-owner name queues a own) ∙ owns-owner name queues b also)

-- ---- nobody stays after leaving

-- the one that leaves asks for no lock any longer
no_names_left : (session : ℕ) (queues : Queues) → DoQueuesAscend queues → names_of session (leave session queues) ≡ []
no_names_left session queues ascend = names-leave session session queues ascend ∙ ap (λ b. cond b [] (names_of session queues)) (eq-eqb session session refl)

pub none_left : (session : ℕ) (name : List ℕ) (queues : Queues) → DoQueuesAscend queues → has_requested session name (leave session queues) ≡ false
none_left session name queues ascend =
    requested-names session name (leave session queues) (leave-ascends session queues ascend) ∙ ap (list_any (is_at (name_cmp name))) (no_names_left session queues ascend)

-- ---- what holds of each queue

-- it holds of each of the queues
abbrev pub EachQueue : (List ℕ → Type 0) → Queues → Type 0
EachQueue P queues = AllByRecursion (λ e. P e.1) queues

module _ (P : List ℕ → Type 0) where
  -- so it holds of that of a lock, if it holds of an empty queue
  pub queue-has : (name : List ℕ) (queues : Queues) → P [] → EachQueue P queues → P (queue_of name queues)
  queue-has name [] none all = none
  queue-has name (e ∷ queues) none all = by (queue-has name queues none all.1) (is_at (name_cmp name) e.0)
    where
      by : P (queue_of name queues) → (b : Bool) → P (unwrap_or (cond b (Some e.1) (lookup (is_at (name_cmp name)) queues)) [])
      by later true = all.0
      by later false = later

  put-has : (name queue : List ℕ) (queues : Queues) → EachQueue P queues → P queue → EachQueue P (insert_entry name_cmp queues name queue)
  put-has name queue [] all new = (new, tt)
  put-has name queue (e ∷ queues) all new = by (put-has name queue queues all.1 new) (name_cmp name e.0)
    where
      by : EachQueue P (insert_entry name_cmp queues name queue) → (o : Ordering)
          → EachQueue P (match_ordering o ((name, queue) ∷ e ∷ queues) ((e.0, queue) ∷ queues) (e ∷ insert_entry name_cmp queues name queue))
      by later Less = (new, all)
      by later Equal = (new, all.1)
      by later Greater = (all.0, later)

  out-has : (name : List ℕ) (queues : Queues) → EachQueue P queues → EachQueue P (remove_entry (is_at (name_cmp name)) queues)
  out-has name [] all = tt
  out-has name (e ∷ queues) all = by (out-has name queues all.1) (is_at (name_cmp name) e.0)
    where
      by : EachQueue P (remove_entry (is_at (name_cmp name)) queues) → (b : Bool) → EachQueue P (cond b queues (e ∷ remove_entry (is_at (name_cmp name)) queues))
      by later true = all.1
      by later false = (all.0, later)

  -- another queue of a lock, of which it holds
  pub with-has : (name queue : List ℕ) (queues : Queues) → EachQueue P queues → P queue → EachQueue P (with_queue name queue queues)
  with-has name [] queues all new = out-has name queues all
  with-has name (session ∷ queue) queues all new = put-has name (session ∷ queue) queues all new

-- a session that asked for no lock stands in no queue
out-each : (session : ℕ) (queues : Queues) → names_of session queues ≡ [] → EachQueue (λ queue. stands_in session queue ≡ false) queues
out-each session [] none = tt
out-each session (e ∷ queues) none = by (out-each session queues) (stands_in session e.1) refl none
  where
    by : (names_of session queues ≡ [] → EachQueue (λ queue. stands_in session queue ≡ false) queues) → (b : Bool) → stands_in session e.1 ≡ b
        → cond b (e.0 ∷ names_of session queues) (names_of session queues) ≡ [] → EachQueue (λ queue. stands_in session queue ≡ false) (e ∷ queues)
    by rest true is none = cc
    by rest false is none = (is, rest none)

-- ---- the queues ascend after a call

pub call-ascends : (call : LockCall) (name : List ℕ) (session : ℕ) (queues : Queues) → DoQueuesAscend queues → DoQueuesAscend (after_call call name session queues)
call-ascends Lock name session queues ascend = with_queue-ascends name (queue_of name queues ++ session ∷ []) queues ascend
call-ascends Steal name session queues ascend = with_queue-ascends name (session ∷ queue_of name queues) queues ascend
call-ascends Unlock name session queues ascend = unlock-ascends name session queues ascend

-- ---- nobody stands in a queue twice

abbrev pub HaveNoRepeats : Queues → Type 0
HaveNoRepeats queues = EachQueue HasNoRepeats queues

none_of : HasNoRepeats []
unfolding IsDistinct
none_of = tt

pub queue-distinct : (name : List ℕ) (queues : Queues) → HaveNoRepeats queues → HasNoRepeats (queue_of name queues)
queue-distinct name queues once = queue-has HasNoRepeats name queues none_of once

-- one that does not stand in a queue is none of those who do
none_is : (session : ℕ) (queue : List ℕ) → stands_in session queue ≡ false → AllByRecursion (λ other. eqb session other ≡ false) queue
none_is session [] out = tt
none_is session (other ∷ queue) out =
    let parts = or_parts (eqb other session) (stands_in session queue) out in
    (apart_back other session parts.0, none_is session queue parts.1)

all-back : (P : ℕ → Type 0) (queue : List ℕ) (session : ℕ) → AllByRecursion P queue → P session → AllByRecursion P (queue ++ session ∷ [])
all-back P [] session all p = (p, tt)
all-back P (other ∷ queue) session all p = (all.0, all-back P queue session all.1 p)

back-distinct : (queue : List ℕ) (session : ℕ) → HasNoRepeats queue → stands_in session queue ≡ false → HasNoRepeats (queue ++ session ∷ [])
unfolding IsDistinct
back-distinct [] session once out = (tt, tt)
back-distinct (other ∷ queue) session once out =
    let parts = or_parts (eqb other session) (stands_in session queue) out in
    (all-back (λ one. eqb other one ≡ false) queue session once.0 parts.0, back-distinct queue session once.1 parts.1)

all-kept : (P : ℕ → Type 0) (test : ℕ → Bool) (queue : List ℕ) → AllByRecursion P queue → AllByRecursion P (filter test queue)
all-kept P test [] all = tt
all-kept P test (other ∷ queue) all = by (all-kept P test queue all.1) (test other)
  where
    by : AllByRecursion P (filter test queue) → (b : Bool) → AllByRecursion P (cond b (other ∷ filter test queue) (filter test queue))
    by later true = (all.0, later)
    by later false = later

kept-distinct : (test : ℕ → Bool) (queue : List ℕ) → HasNoRepeats queue → HasNoRepeats (filter test queue)
unfolding IsDistinct
kept-distinct test [] once = tt
kept-distinct test (other ∷ queue) once = by (kept-distinct test queue once.1) (all-kept (λ one. eqb other one ≡ false) test queue once.0) (test other)
  where
    by : HasNoRepeats (filter test queue) → AllByRecursion (λ one. eqb other one ≡ false) (filter test queue) → (b : Bool) → HasNoRepeats (cond b (other ∷ filter test queue) (filter test queue))
    by later apart true = (apart, later)
    by later apart false = later

module _ (name : List ℕ) (session : ℕ) (queues : Queues) (once : HaveNoRepeats queues) where
  abbrev queue : List ℕ
  queue = queue_of name queues

  pub lock-once : has_requested session name queues ≡ false → HaveNoRepeats (lock name session queues)
  lock-once out = with-has HasNoRepeats name (queue ++ session ∷ []) queues once (back-distinct queue session (queue-distinct name queues once) out)

  pub steal-once : has_requested session name queues ≡ false → HaveNoRepeats (steal name session queues)
  steal-once out = with-has HasNoRepeats name (session ∷ queue) queues once (IsDistinct-cons eqb session queue (none_is session queue out) (queue-distinct name queues once))

  pub unlock-once : HaveNoRepeats (unlock name session queues)
  unlock-once = with-has HasNoRepeats name (without session queue) queues once (kept-distinct (λ other. not (eqb other session)) queue (queue-distinct name queues once))

pub leave-once : (session : ℕ) (queues : Queues) → HaveNoRepeats queues → HaveNoRepeats (leave session queues)
leave-once session queues once = unlock_all-keeps HaveNoRepeats session (λ name qs. unlock-once name session qs) (names_of session queues) queues once

-- ---- who stands in a queue passes a test

abbrev pub AllPass : (ℕ → Bool) → List ℕ → Type 0
AllPass test queue = list_all test queue ≡ true

module _ (test : ℕ → Bool) where
  stands-passes : (session : ℕ) (queue : List ℕ) → AllPass test queue → stands_in session queue ≡ true → test session ≡ true
  stands-passes session [] all stands = absurd (false≢true stands)
  stands-passes session (other ∷ queue) all stands = by parts.0 (stands-passes session queue parts.1) (eqb other session) refl stands
    where
      parts : (test other ≡ true) × AllPass test queue
      parts = and_parts (test other) (list_all test queue) all

      by : test other ≡ true → (stands_in session queue ≡ true → test session ≡ true) → (b : Bool) → eqb other session ≡ b → (b || stands_in session queue) ≡ true → test session ≡ true
      by own later true is stands = ap test (sym (eqb-true other session is)) ∙ own
      by own later false is stands = later stands

  -- so does who asked for a lock
  pub requested-passes : (session : ℕ) (name : List ℕ) (queues : Queues) → EachQueue (AllPass test) queues → has_requested session name queues ≡ true → test session ≡ true
  requested-passes session name queues all stands = stands-passes session (queue_of name queues) (queue-has (AllPass test) name queues refl all) stands

  first-passes : (queue : List ℕ) (session : ℕ) → AllPass test queue → first_of queue ≡ Some session → test session ≡ true
  first-passes [] session all is = cc
  first-passes (first ∷ queue) session all is = ap test (sym (same_Some first session is)) ∙ (and_parts (test first) (list_all test queue) all).0

  next-passes : (queue : List ℕ) (session next : ℕ) → AllPass test queue → next_in session queue ≡ Some next → test next ≡ true
  next-passes [] session next all is = cc
  next-passes (first ∷ queue) session next all is = by (eqb first session) is
    where
      by : (b : Bool) → cond b (first_of (without session queue)) None ≡ Some next → test next ≡ true
      by true is = first-passes (without session queue) next (all-filter (λ other. not (eqb other session)) test queue (and_parts (test first) (list_all test queue) all).1) is
      by false is = cc

  -- who stands in a queue after a session unlocks a lock
  unlock-passes : (name : List ℕ) (session : ℕ) (queues : Queues) → EachQueue (AllPass test) queues → EachQueue (AllPass test) (unlock name session queues)
  unlock-passes name session queues all =
      let its = queue_of name queues in
      with-has (AllPass test) name (without session its) queues all (all-filter (λ other. not (eqb other session)) test its (queue-has (AllPass test) name queues refl all))

  -- which sessions a session's leaving notifies
  freed-passes : (session : ℕ) (names : List (List ℕ)) (queues : Queues) → EachQueue (AllPass test) queues
      → list_all (λ (notification : ℕ × Data). test notification.0) (map (λ f. (f.0, locked_notification f.1)) (freed_all session names queues)) ≡ true
  freed-passes session [] queues all = refl
  freed-passes session (name ∷ names) queues all =
      by (next_owner name session queues) refl (freed-passes session names (unlock name session queues) (unlock-passes name session queues all))
    where
      later : List (ℕ × List ℕ)
      later = freed_all session names (unlock name session queues)

      by : (next : Option ℕ) → next_owner name session queues ≡ next → list_all (λ (notification : ℕ × Data). test notification.0) (map (λ f. (f.0, locked_notification f.1)) later) ≡ true
          → list_all (λ (notification : ℕ × Data). test notification.0) (map (λ f. (f.0, locked_notification f.1)) (freed_before next name later)) ≡ true
      by None is rest = rest
      by (Some next) is rest =
          let own = next-passes (queue_of name queues) session next (queue-has (AllPass test) name queues refl all) is in
          and_from (test next) (list_all (λ (notification : ℕ × Data). test notification.0) (map (λ f. (f.0, locked_notification f.1)) later)) own rest

  pub leaving-passes : (session : ℕ) (queues : Queues) → EachQueue (AllPass test) queues → list_all (λ (notification : ℕ × Data). test notification.0) (told_of_leaving session queues) ≡ true
  leaving-passes session queues all = freed-passes session (names_of session queues) queues all

  module _ (session : ℕ) (name : List ℕ) (queues : Queues) (all : EachQueue (AllPass test) queues) where
    abbrev its : List ℕ
    its = queue_of name queues

    passes : AllPass test its
    passes = queue-has (AllPass test) name queues refl all

    told-passes : (o : Option ℕ) (notification : Data) → ((other : ℕ) → o ≡ Some other → test other ≡ true) → list_all (λ (notification : ℕ × Data). test notification.0) (option_to_list (option_map (λ other. (other, notification)) o)) ≡ true
    told-passes None notification h = refl
    told-passes (Some other) notification h = and_from (test other) true (h other refl) refl

    -- which session a call notifies
    pub call-passes : (call : LockCall) → list_all (λ (notification : ℕ × Data). test notification.0) (option_to_list (told_of_call call name session queues)) ≡ true
    call-passes Lock = refl
    call-passes Steal = told-passes (owner name queues) (stolen_notification name) (λ other is. first-passes its other passes is)
    call-passes Unlock = told-passes (next_owner name session queues) (locked_notification name) (λ other is. next-passes its session other passes is)

    -- who stands in a queue after it, if the session passes
    pub after-passes : (call : LockCall) → test session ≡ true → EachQueue (AllPass test) (after_call call name session queues)
    after-passes Lock own =
        with-has (AllPass test) name (its ++ session ∷ []) queues all (list_all-append test its (session ∷ []) ∙ and_from (list_all test its) (test session && true) passes (and_from (test session) true own refl))
    after-passes Steal own = with-has (AllPass test) name (session ∷ its) queues all (and_from (test session) (list_all test its) own passes)
    after-passes Unlock own = unlock-passes name session queues all

-- what passes one test passes another
pub each-so : (one other : ℕ → Bool) → ((n : ℕ) → one n ≡ true → other n ≡ true) → (queues : Queues) → EachQueue (AllPass one) queues → EachQueue (AllPass other) queues
each-so one other so [] all = tt
each-so one other so (e ∷ queues) all = (pass e.1 all.0, each-so one other so queues all.1)
  where
    pass : (queue : List ℕ) → AllPass one queue → AllPass other queue
    pass [] own = refl
    pass (n ∷ queue) own =
        let parts = and_parts (one n) (list_all one queue) own in
        and_from (other n) (list_all other queue) (so n parts.0) (pass queue parts.1)

-- who stands in a queue after a session leaves passes another test, if the others that passed the first pass it
module _ (one other : ℕ → Bool) (session : ℕ) (so : (n : ℕ) → one n ≡ true → eqb n session ≡ false → other n ≡ true) where
  stay-passes : (queue : List ℕ) → stands_in session queue ≡ false → AllPass one queue → AllPass other queue
  stay-passes [] out all = refl
  stay-passes (n ∷ queue) out all =
      let parts = and_parts (one n) (list_all one queue) all in
      let apart = or_parts (eqb n session) (stands_in session queue) out in
      and_from (other n) (list_all other queue) (so n parts.0 apart.0) (stay-passes queue apart.1 parts.1)

  each-passes : (queues : Queues) → EachQueue (λ queue. stands_in session queue ≡ false) queues → EachQueue (AllPass one) queues → EachQueue (AllPass other) queues
  each-passes [] out all = tt
  each-passes (e ∷ queues) out all = (stay-passes e.1 out.0 all.0, each-passes queues out.1 all.1)

  pub leave-passes : (queues : Queues) → DoQueuesAscend queues → EachQueue (AllPass one) queues → EachQueue (AllPass other) (leave session queues)
  leave-passes queues ascend all =
      each-passes (leave session queues) (out-each session (leave session queues) (no_names_left session queues ascend))
      (unlock_all-keeps (EachQueue (AllPass one)) session (λ name qs. unlock-passes one name session qs) (names_of session queues) queues all)

-- ---- the queue of a lock, after another was given to it or to another lock

queue_of-put : (name queue : List ℕ) (queues : Queues) → queue_of name (insert_entry name_cmp queues name queue) ≡ queue
queue_of-put name queue [] = ap (λ b. unwrap_or (cond b (Some queue) None) []) (same_name-itself name)
queue_of-put name queue (e ∷ queues) = by (queue_of-put name queue queues) (name_cmp name e.0) refl
  where
    by : queue_of name (insert_entry name_cmp queues name queue) ≡ queue → (o : Ordering) → name_cmp name e.0 ≡ o
        → queue_of name (match_ordering o ((name, queue) ∷ e ∷ queues) ((e.0, queue) ∷ queues) (e ∷ insert_entry name_cmp queues name queue)) ≡ queue
    by later Less is = ap (λ b. unwrap_or (cond b (Some queue) (lookup (is_at (name_cmp name)) (e ∷ queues))) []) (same_name-itself name)
    by later Equal is = ap (λ o. unwrap_or (cond (is_eq o) (Some queue) (lookup (is_at (name_cmp name)) queues)) []) is
    by later Greater is = ap (λ o. unwrap_or (cond (is_eq o) (Some e.1) (lookup (is_at (name_cmp name)) (insert_entry name_cmp queues name queue))) []) is ∙ later

module _ (name at : List ℕ) (away : is_at (name_cmp name) at ≡ false) where
  -- one that is not the lock's
  passed-by : (queue : List ℕ) (queues : Queues) → queue_of name ((at, queue) ∷ queues) ≡ queue_of name queues
  passed-by queue queues = ap (λ b. unwrap_or (cond b (Some queue) (lookup (is_at (name_cmp name)) queues)) []) away

  -- the same before others
  same-before : (e : List ℕ × List ℕ) (queues others : Queues) → queue_of name queues ≡ queue_of name others → queue_of name (e ∷ queues) ≡ queue_of name (e ∷ others)
  same-before e queues others same = by (is_at (name_cmp name) e.0)
    where
      by : (b : Bool) → unwrap_or (cond b (Some e.1) (lookup (is_at (name_cmp name)) queues)) [] ≡ unwrap_or (cond b (Some e.1) (lookup (is_at (name_cmp name)) others)) []
      by true = refl
      by false = same

  queue_of-put_other : (queue : List ℕ) (queues : Queues) → queue_of name (insert_entry name_cmp queues at queue) ≡ queue_of name queues
  queue_of-put_other queue [] = passed-by queue []
  queue_of-put_other queue (e ∷ queues) = by (queue_of-put_other queue queues) (name_cmp at e.0) refl
    where
      by : queue_of name (insert_entry name_cmp queues at queue) ≡ queue_of name queues → (o : Ordering) → name_cmp at e.0 ≡ o
          → queue_of name (match_ordering o ((at, queue) ∷ e ∷ queues) ((e.0, queue) ∷ queues) (e ∷ insert_entry name_cmp queues at queue)) ≡ queue_of name (e ∷ queues)
      by later Less is = passed-by queue (e ∷ queues)
      by later Equal is =
          let here : e.0 ≡ at = sym (name_exact at e.0 is) in
          ap (λ n. queue_of name ((n, queue) ∷ queues)) here ∙ passed-by queue queues ∙ sym (passed-by e.1 queues) ∙ ap (λ n. queue_of name ((n, e.1) ∷ queues)) (sym here)
      by later Greater is = same-before e (insert_entry name_cmp queues at queue) queues later

  queue_of-out_other : (queues : Queues) → queue_of name (remove_entry (is_at (name_cmp at)) queues) ≡ queue_of name queues
  queue_of-out_other [] = refl
  queue_of-out_other (e ∷ queues) = by (queue_of-out_other queues) (is_at (name_cmp at) e.0) refl
    where
      by : queue_of name (remove_entry (is_at (name_cmp at)) queues) ≡ queue_of name queues → (b : Bool) → is_at (name_cmp at) e.0 ≡ b
          → queue_of name (cond b queues (e ∷ remove_entry (is_at (name_cmp at)) queues)) ≡ queue_of name (e ∷ queues)
      by later true is =
          let here : e.0 ≡ at = sym (name_exact at e.0 (equal_is _ is)) in
          sym (passed-by e.1 queues) ∙ ap (λ n. queue_of name ((n, e.1) ∷ queues)) (sym here)
      by later false is = same-before e (remove_entry (is_at (name_cmp at)) queues) queues later

  queue_of-with_other : (queue : List ℕ) (queues : Queues) → queue_of name (with_queue at queue queues) ≡ queue_of name queues
  queue_of-with_other [] queues = queue_of-out_other queues
  queue_of-with_other (session ∷ queue) queues = queue_of-put_other (session ∷ queue) queues

-- ---- an owner stays the owner while others leave

module _ (session other : ℕ) (apart : eqb session other ≡ false) (name : List ℕ) where
  first-stays : (queue : List ℕ) (queues : Queues) → stands_first session queue ≡ true → owns (with_queue name (without other queue) queues) session name ≡ true
  first-stays [] queues first = absurd (false≢true first)
  first-stays (n ∷ queue) queues first =
      let stays : eqb n other ≡ false = ap (λ k. eqb k other) (eqb-true n session first) ∙ apart in
      ap (λ b. owns (with_queue name (cond (not b) (n ∷ without other queue) (without other queue)) queues) session name) stays
      ∙ ap (stands_first session) (queue_of-put name (n ∷ without other queue) queues) ∙ first

  unlock-stays : (at : List ℕ) (queues : Queues) → owns queues session name ≡ true → owns (unlock at other queues) session name ≡ true
  unlock-stays at queues own = by (is_at (name_cmp name) at) refl
    where
      by : (b : Bool) → is_at (name_cmp name) at ≡ b → owns (unlock at other queues) session name ≡ true
      by true is = ap (λ n. owns (unlock n other queues) session name) (sym (name_exact name at (equal_is _ is))) ∙ first-stays (queue_of name queues) queues own
      by false is = ap (stands_first session) (queue_of-with_other name at is (without other (queue_of at queues)) queues) ∙ own

  pub owner-stays : (queues : Queues) → owns queues session name ≡ true → owns (leave other queues) session name ≡ true
  owner-stays queues own = unlock_all-keeps (λ qs. owns qs session name ≡ true) other unlock-stays (names_of other queues) queues own
