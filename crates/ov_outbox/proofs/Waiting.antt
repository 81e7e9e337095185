-- In how many queues a session waits, after a lock was given, stolen or given up, and after a session left.
use Rattle.std.proofs.Common.{◌≡◌, ℕ, ◌+◌, ◌≤◌, List, [], ◌∷◌, ◌++◌, length, Bool, true, false, cond, not, ◌||◌, eqb, Option, Some, None, refl, sym, ap, ◌∙◌, arith, Ordering, Less, Equal, Greater, true≢false}
use Rattle.std.specs.Prelude.{is_some, unwrap_or}
use Rattle.std.specs.BTreeMap.{is_at, insert_entry}
use Rattle.std.specs.List.{count_by, list_any}
use Rattle.std.specs.Map.{keys_of, lookup, remove_entry}
use Rattle.std.specs.Ordering.{is_eq, match_ordering}
use Rattle.std.proofs.lemmas.Bool.{or_parts, eq-eqb}
use Rattle.std.proofs.lemmas.List.Sums.{sum_by-cons, sum_by_push}
use Rattle.std.proofs.lemmas.Map.{lookup-none}
use Rattle.std.proofs.lemmas.Map.Entries.{none_below_head}
use Rattle.std.proofs.lemmas.Map.Keys.{sorted_tail}
use Rattle.ov_specs.specs.locks.Queues.{Queues, DoQueuesAscend, queue_of, first_of, owner, stands_in, has_requested, names_of, requests_of, with_queue, lock, steal, without, unlock, next_in, next_owner, unlock_all, freed_before, freed_all, leave, freed}
use Rattle.ov_specs.specs.schema.SchemaTypes.{name_cmp}
use Rattle.ov_specs.proofs.laws.LockQueues.{requested-names, unlock-ascends, names-leave}
use Rattle.ov_specs.proofs.laws.Names.{name_cmp_total, same_name-itself}
use Rattle.ov_outbox.specs.Frames.{count_for}
use Rattle.ov_outbox.specs.Waits.{waits_in, waits_of, IsOutOfQueues}
use Rattle.ov_outbox.proofs.Releasing.{turned}

-- how often the session stands in the queue
abbrev pub times : ℕ → List ℕ → ℕ
times session queue = count_by (λ other. eqb other session) queue

-- one for the session itself
abbrev pub one_for : ℕ → Option ℕ → ℕ
one_for session None = 0
one_for session (Some other) = cond (eqb other session) 1 0

times-cons : (s f : ℕ) (queue : List ℕ) → times s (f ∷ queue) ≡ cond (eqb f s) 1 0 + times s queue
times-cons s f queue = sum_by-cons _ f queue

times-back : (s f : ℕ) (queue : List ℕ) → times s (queue ++ f ∷ []) ≡ times s queue + cond (eqb f s) 1 0
times-back s f queue = sum_by_push _ queue f

times-without : (other s : ℕ) (queue : List ℕ) → times other (without s queue) ≤ times other queue
times-without other s [] = omega arith
times-without other s (f ∷ queue) = by (times-without other s queue) (eqb f s)
  where
    by : times other (without s queue) ≤ times other queue → (b : Bool) → times other (cond (not b) (f ∷ without s queue) (without s queue)) ≤ times other (f ∷ queue)
    by less true = let all = times-cons other f queue in omega arith
    by less false =
        let all = times-cons other f queue in
        let left = times-cons other f (without s queue) in
        omega arith

times-gone : (s : ℕ) (queue : List ℕ) → times s (without s queue) ≡ 0
times-gone s [] = refl
times-gone s (f ∷ queue) = by (times-gone s queue) (eqb f s) refl
  where
    by : times s (without s queue) ≡ 0 → (b : Bool) → eqb f s ≡ b → times s (cond (not b) (f ∷ without s queue) (without s queue)) ≡ 0
    by gone true is = gone
    by gone false is = times-cons s f (without s queue) ∙ (ap (λ b. cond b 1 0 + times s (without s queue)) is ∙ omega arith)

times-none : (s : ℕ) (queue : List ℕ) → stands_in s queue ≡ false → times s queue ≡ 0
times-none s [] out = refl
times-none s (f ∷ queue) out =
    let p = or_parts (eqb f s) (stands_in s queue) out in
    let rest = times-none s queue p.1 in
    times-cons s f queue ∙ (ap (λ b. cond b 1 0 + times s queue) p.0 ∙ omega arith)

times-some : (s : ℕ) (queue : List ℕ) → stands_in s queue ≡ true → 1 ≤ times s queue
times-some s [] stands = cc
times-some s (f ∷ queue) stands = by (times-some s queue) (eqb f s) refl stands
  where
    by : (stands_in s queue ≡ true → 1 ≤ times s queue) → (b : Bool) → eqb f s ≡ b → (b || stands_in s queue) ≡ true → 1 ≤ times s (f ∷ queue)
    by rest true is stands =
        let all = times-cons s f queue in
        let one : cond {A = ℕ} (eqb f s) 1 0 ≡ 1 = ap (λ b. cond {A = ℕ} b 1 0) is in
        omega arith
    by rest false is stands =
        let all = times-cons s f queue in
        let more = rest stands in
        omega arith

-- ---- one queue

pub waits-back : (other s : ℕ) (queue : List ℕ) → waits_in other (queue ++ s ∷ []) ≡ waits_in other queue + cond (is_some (first_of queue)) (cond (eqb other s) 1 0) 0
waits-back other s [] = refl
waits-back other s (f ∷ queue) = times-back other s queue ∙ ap (λ b. times other queue + cond b 1 0) (turned s other)

pub waits-front : (other s : ℕ) (queue : List ℕ) → waits_in other (s ∷ queue) ≡ waits_in other queue + one_for other (first_of queue)
waits-front other s [] = refl
waits-front other s (f ∷ queue) = times-cons other f queue ∙ omega arith

first_and_rest : (other : ℕ) (queue : List ℕ) → waits_in other queue + one_for other (first_of queue) ≡ times other queue
first_and_rest other [] = refl
first_and_rest other (f ∷ queue) = omega (arith, times-cons other f queue)

pub waits-without : (other s : ℕ) (queue : List ℕ) → waits_in other (without s queue) + one_for other (next_in s queue) ≤ waits_in other queue
waits-without other s [] = omega arith
waits-without other s (f ∷ queue) = by (eqb f s)
  where
    by : (b : Bool) → waits_in other (cond (not b) (f ∷ without s queue) (without s queue)) + one_for other (cond b (first_of (without s queue)) None) ≤ times other queue
    by true =
        let all = first_and_rest other (without s queue) in
        let less = times-without other s queue in
        omega arith
    by false = let less = times-without other s queue in omega arith

pub waits-gone : (s : ℕ) (queue : List ℕ) → waits_in s (without s queue) ≡ 0
waits-gone s queue = let all = first_and_rest s (without s queue) in let gone = times-gone s queue in omega arith

waits-none : (s : ℕ) (queue : List ℕ) → stands_in s queue ≡ false → waits_in s queue ≡ 0
waits-none s queue out = let all = first_and_rest s queue in let none = times-none s queue out in omega arith

-- a session that stands in the queue, and is not the first, waits
pub waits-some : (s : ℕ) (queue : List ℕ) → stands_in s queue ≡ true → one_for s (first_of queue) ≡ 0 → 1 ≤ waits_in s queue
waits-some s queue stands apart = let all = first_and_rest s queue in let some = times-some s queue stands in omega arith

-- nobody becomes the first if a session that is not the first leaves
pub next-not_first : (s : ℕ) (queue : List ℕ) → one_for s (first_of queue) ≡ 0 → next_in s queue ≡ None
next-not_first s [] apart = refl
next-not_first s (f ∷ queue) apart = by (eqb f s) apart
  where
    by : (b : Bool) → cond {A = ℕ} b 1 0 ≡ 0 → cond b (first_of (without s queue)) None ≡ None
    by true one = absurd (omega arith)
    by false one = refl

-- ---- all queues, with another one of a lock

module _ (other : ℕ) (name : List ℕ) where
  waits-out : (queues : Queues) → waits_of other (remove_entry (is_at (name_cmp name)) queues) + waits_in other (queue_of name queues) ≡ waits_of other queues
  waits-out [] = refl
  waits-out (e ∷ queues) = by (waits-out queues) (is_at (name_cmp name) e.0)
    where
      by : waits_of other (remove_entry (is_at (name_cmp name)) queues) + waits_in other (queue_of name queues) ≡ waits_of other queues → (b : Bool)
          → waits_of other (cond b queues (e ∷ remove_entry (is_at (name_cmp name)) queues)) + waits_in other (unwrap_or (cond b (Some e.1) (lookup (is_at (name_cmp name)) queues)) []) ≡ waits_in other e.1 + waits_of other queues
      by rest true = omega arith
      by rest false = omega arith

  waits-put : (queue : List ℕ) (queues : Queues) → DoQueuesAscend queues → waits_of other (insert_entry name_cmp queues name queue) + waits_in other (queue_of name queues) ≡ waits_of other queues + waits_in other queue
  waits-put queue [] ascend = omega arith
  waits-put queue (e ∷ queues) ascend = by (waits-put queue queues (sorted_tail name_cmp e.0 (keys_of queues) ascend)) (name_cmp name e.0) refl
    where
      by : waits_of other (insert_entry name_cmp queues name queue) + waits_in other (queue_of name queues) ≡ waits_of other queues + waits_in other queue → (o : Ordering) → name_cmp name e.0 ≡ o
          → waits_of other (match_ordering o ((name, queue) ∷ e ∷ queues) ((e.0, queue) ∷ queues) (e ∷ insert_entry name_cmp queues name queue))
          + waits_in other (unwrap_or (cond (is_eq o) (Some e.1) (lookup (is_at (name_cmp name)) queues)) [])
          ≡ (waits_in other e.1 + waits_of other queues) + waits_in other queue
      by rest Less is =
          let none = ap (λ o. waits_in other (unwrap_or o [])) (lookup-none (is_at (name_cmp name)) queues (none_below_head name_cmp_total name e queues ascend is).1) in
          omega arith
      by rest Equal is = omega arith
      by rest Greater is = omega arith

  pub waits-with : (queue : List ℕ) (queues : Queues) → DoQueuesAscend queues → waits_of other (with_queue name queue queues) + waits_in other (queue_of name queues) ≡ waits_of other queues + waits_in other queue
  waits-with [] queues ascend = waits-out queues ∙ omega arith
  waits-with (f ∷ queue) queues ascend = waits-put (f ∷ queue) queues ascend

  module _ (s : ℕ) (queues : Queues) (ascend : DoQueuesAscend queues) where
    pub waits-lock : waits_of other (lock name s queues) ≡ waits_of other queues + cond (is_some (owner name queues)) (cond (eqb other s) 1 0) 0
    waits-lock =
        let all = waits-with (queue_of name queues ++ s ∷ []) queues ascend in
        let one = waits-back other s (queue_of name queues) in
        omega arith

    pub waits-steal : waits_of other (steal name s queues) ≡ waits_of other queues + one_for other (owner name queues)
    waits-steal =
        let all = waits-with (s ∷ queue_of name queues) queues ascend in
        let one = waits-front other s (queue_of name queues) in
        omega arith

    pub waits-unlock : waits_of other (unlock name s queues) + one_for other (next_owner name s queues) ≤ waits_of other queues
    waits-unlock =
        let all = waits-with (without s (queue_of name queues)) queues ascend in
        let one = waits-without other s (queue_of name queues) in
        omega arith

-- one that waited, and stops waiting
pub waiter-unlocks : (name : List ℕ) (s : ℕ) (queues : Queues) → DoQueuesAscend queues → has_requested s name queues ≡ true → one_for s (owner name queues) ≡ 0
    → waits_of s (unlock name s queues) + 1 ≤ waits_of s queues
waiter-unlocks name s queues ascend stands apart =
    let all = waits-with s name (without s (queue_of name queues)) queues ascend in
    let gone = waits-gone s (queue_of name queues) in
    let some = waits-some s (queue_of name queues) stands apart in
    omega arith

-- ---- leaving

count-before : (other : ℕ) (o : Option ℕ) (name : List ℕ) (others : List (ℕ × List ℕ)) → count_for other (freed_before o name others) ≡ one_for other o + count_for other others
count-before other None name others = omega arith
count-before other (Some s) name others = sum_by-cons _ (s, name) others

waits-unlock_all : (other s : ℕ) (names : List (List ℕ)) (queues : Queues) → DoQueuesAscend queues → waits_of other (unlock_all s names queues) + count_for other (freed_all s names queues) ≤ waits_of other queues
waits-unlock_all other s [] queues ascend = omega arith
waits-unlock_all other s (name ∷ names) queues ascend =
    let rest = waits-unlock_all other s names (unlock name s queues) (unlock-ascends name s queues ascend) in
    let told = count-before other (next_owner name s queues) name (freed_all s names (unlock name s queues)) in
    let one = waits-unlock other name s queues ascend in
    omega arith

pub waits-leave : (other s : ℕ) (queues : Queues) → DoQueuesAscend queues → waits_of other (leave s queues) + count_for other (freed s queues) ≤ waits_of other queues
waits-leave other s queues ascend = waits-unlock_all other s (names_of s queues) queues ascend

-- ---- a session that has asked for no lock

pub no_waits : (s : ℕ) (queues : Queues) → requests_of s queues ≡ 0 → waits_of s queues ≡ 0
no_waits s [] none = refl
no_waits s (e ∷ queues) none = by (no_waits s queues) (stands_in s e.1) refl none
  where
    by : (requests_of s queues ≡ 0 → waits_of s queues ≡ 0) → (b : Bool) → stands_in s e.1 ≡ b → length (cond b (e.0 ∷ names_of s queues) (names_of s queues)) ≡ 0 → waits_in s e.1 + waits_of s queues ≡ 0
    by rest true is none = absurd (omega arith)
    by rest false is none =
        let first = waits-none s e.1 is in
        let later = rest none in
        omega arith

pub no_requests : (s : ℕ) (queues : Queues) → DoQueuesAscend queues → IsOutOfQueues s queues → requests_of s queues ≡ 0
no_requests s queues ascend out = by (names_of s queues) (λ name. sym (requested-names s name queues ascend) ∙ out name)
  where
    by : (names : List (List ℕ)) → ((name : List ℕ) → list_any (is_at (name_cmp name)) names ≡ false) → length names ≡ 0
    by [] none = refl
    by (name ∷ names) none = absurd (true≢false (sym (same_name-itself name) ∙ (or_parts (is_at (name_cmp name) name) (list_any (is_at (name_cmp name)) names) (none name)).0))

-- after leaving it waits nowhere
pub leaver-waits : (s : ℕ) (queues : Queues) → DoQueuesAscend queues → waits_of s (leave s queues) ≡ 0
leaver-waits s queues ascend = no_waits s (leave s queues) (ap length (names-leave s s queues ascend) ∙ ap (λ b. length (cond b [] (names_of s queues))) (eq-eqb s s refl))
