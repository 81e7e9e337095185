-- The queues of locks, which ascend by name: what one queue more, another or one fewer makes of them, and of the names that
-- a session asked for.
use Rattle.std.proofs.Common.{◌≡◌, ℕ, List, [], ◌∷◌, ◌++◌, Bool, true, false, cond, not, ◌&&◌, ◌||◌, eqb, Some, refl, sym, ap, ◌∙◌, Ordering, Less, Equal, Greater, true≢false}
use Rattle.std.proofs.lemmas.Bool.{eqb-true, eq-eqb, or_parts}
use Rattle.std.proofs.lemmas.List.Folds.{list_any-append}
use Rattle.std.proofs.lemmas.Map.{lookup-none}
use Rattle.std.proofs.lemmas.Map.Entries.{none_below_head}
use Rattle.std.proofs.lemmas.Map.Views.{any-filter_same}
use Rattle.std.proofs.lemmas.Map.Keys.{sorted_head, sorted_tail}
use Rattle.std.specs.BTreeMap.{is_at, insert_entry}
use Rattle.std.specs.BTreeSet.{insert_key}
use Rattle.std.specs.List.{AllByRecursion, list_any}
use Rattle.std.specs.List.Sorted.{IsStrictlySortedBy}
use Rattle.std.specs.Map.{keys_of, lookup, remove_entry}
use Rattle.std.specs.Ordering.{is_eq, match_ordering, ordering_reverse}
use Rattle.std.specs.Prelude.{unwrap_or}
use Rattle.std.specs.Set.{remove_key}
use Rattle.ov_specs.specs.locks.Queues.{Queues, queue_of, stands_in, has_requested, names_of, with_queue, lock, steal, without, unlock, unlock_all, leave}
pub use Rattle.ov_specs.specs.locks.Queues.{DoQueuesAscend}
use Rattle.ov_specs.specs.schema.SchemaTypes.{name_cmp}
use Rattle.ov_specs.proofs.laws.Names.{name_cmp_total, name_exact, same_name-itself}
use Rattle.ov_specs.proofs.laws.Truths.{equal_is, or_nothing, or_truth}

-- ---- names in ascending order

-- the name stands before all of these
abbrev pub IsBelow : List ℕ → List (List ℕ) → Type 0
IsBelow name = AllByRecursion (λ other. name_cmp name other ≡ Less)

below_later : (name head : List ℕ) (names : List (List ℕ)) → name_cmp name head ≡ Less → IsBelow head names → IsBelow name names
below_later name head [] less below = tt
below_later name head (other ∷ names) less below = (name_cmp_total.trans name head other less below.0, below_later name head names less below.1)

insert-below : (name : List ℕ) (names : List (List ℕ)) → IsBelow name names → insert_key name_cmp names name ≡ name ∷ names
insert-below name [] below = refl
insert-below name (other ∷ names) below = ap (λ o. match_ordering o (name ∷ other ∷ names) (other ∷ names) (other ∷ insert_key name_cmp names name)) below.0

remove-below : (name : List ℕ) (names : List (List ℕ)) → IsBelow name names → remove_key (is_at (name_cmp name)) names ≡ names
remove-below name [] below = refl
remove-below name (other ∷ names) below =
    ap (λ o. cond (is_eq o) names (other ∷ remove_key (is_at (name_cmp name)) names)) below.0 ∙ ap (λ rest. other ∷ rest) (remove-below name names below.1)

any-below : (name : List ℕ) (names : List (List ℕ)) → IsBelow name names → list_any (is_at (name_cmp name)) names ≡ false
any-below name [] below = refl
any-below name (other ∷ names) below = ap (λ o. is_eq o || list_any (is_at (name_cmp name)) names) below.0 ∙ any-below name names below.1

-- what was not there goes again as it came
pub remove-insert : (name : List ℕ) (names : List (List ℕ)) → list_any (is_at (name_cmp name)) names ≡ false → remove_key (is_at (name_cmp name)) (insert_key name_cmp names name) ≡ names
remove-insert name [] absent = ap (λ b. cond b [] (name ∷ [])) (same_name-itself name)
remove-insert name (other ∷ names) absent =
    let parts = or_parts (is_at (name_cmp name) other) (list_any (is_at (name_cmp name)) names) absent in
    by parts.0 (remove-insert name names parts.1) (name_cmp name other) refl
  where
    by : is_at (name_cmp name) other ≡ false → remove_key (is_at (name_cmp name)) (insert_key name_cmp names name) ≡ names → (o : Ordering) → name_cmp name other ≡ o
        → remove_key (is_at (name_cmp name)) (match_ordering o (name ∷ other ∷ names) (other ∷ names) (other ∷ insert_key name_cmp names name)) ≡ other ∷ names
    by apart later Less is = ap (λ b. cond b (other ∷ names) (name ∷ remove_key (is_at (name_cmp name)) (other ∷ names))) (same_name-itself name)
    by apart later Equal is = absurd (true≢false (sym (ap is_eq is) ∙ apart))
    by apart later Greater is =
        ap (λ b. cond b (insert_key name_cmp names name) (other ∷ remove_key (is_at (name_cmp name)) (insert_key name_cmp names name))) apart
        ∙ ap (λ rest. other ∷ rest) later

-- ---- names of queues

all-names : (P : List ℕ → Type 0) (session : ℕ) (queues : Queues) → AllByRecursion P (keys_of queues) → AllByRecursion P (names_of session queues)
all-names P session [] all = tt
all-names P session (e ∷ queues) all = by (all-names P session queues all.1) (stands_in session e.1)
  where
    by : AllByRecursion P (names_of session queues) → (b : Bool) → AllByRecursion P (cond b (e.0 ∷ names_of session queues) (names_of session queues))
    by later true = (all.0, later)
    by later false = later

module _ (name : List ℕ) where
  all-put : (P : List ℕ → Type 0) (queue : List ℕ) (queues : Queues) → AllByRecursion P (keys_of queues) → P name → AllByRecursion P (keys_of (insert_entry name_cmp queues name queue))
  all-put P queue [] all p = (p, tt)
  all-put P queue (e ∷ queues) all p = by (all-put P queue queues all.1 p) (name_cmp name e.0)
    where
      by : AllByRecursion P (keys_of (insert_entry name_cmp queues name queue)) → (o : Ordering)
          → AllByRecursion P (keys_of (match_ordering o ((name, queue) ∷ e ∷ queues) ((e.0, queue) ∷ queues) (e ∷ insert_entry name_cmp queues name queue)))
      by later Less = (p, all)
      by later Equal = all
      by later Greater = (all.0, later)

  all-out : (P : List ℕ → Type 0) (queues : Queues) → AllByRecursion P (keys_of queues) → AllByRecursion P (keys_of (remove_entry (is_at (name_cmp name)) queues))
  all-out P [] all = tt
  all-out P (e ∷ queues) all = by (all-out P queues all.1) (is_at (name_cmp name) e.0)
    where
      by : AllByRecursion P (keys_of (remove_entry (is_at (name_cmp name)) queues)) → (b : Bool) → AllByRecursion P (keys_of (cond b queues (e ∷ remove_entry (is_at (name_cmp name)) queues)))
      by later true = all.1
      by later false = (all.0, later)

-- a name that comes after another
is_above : (name other : List ℕ) → name_cmp name other ≡ Greater → name_cmp other name ≡ Less
is_above name other greater = name_cmp_total.antisymm other name ∙ ap ordering_reverse greater

module _ (name : List ℕ) where
  put-ascends : (queue : List ℕ) (queues : Queues) → DoQueuesAscend queues → DoQueuesAscend (insert_entry name_cmp queues name queue)
  unfolding IsStrictlySortedBy
  put-ascends queue [] ascend = (tt, tt)
  put-ascends queue (e ∷ queues) ascend = by (put-ascends queue queues ascend.1) (name_cmp name e.0) refl
    where
      by : DoQueuesAscend (insert_entry name_cmp queues name queue) → (o : Ordering) → name_cmp name e.0 ≡ o → DoQueuesAscend (match_ordering o ((name, queue) ∷ e ∷ queues) ((e.0, queue) ∷ queues) (e ∷ insert_entry name_cmp queues name queue))
      by later Less is = ((is, below_later name e.0 (keys_of queues) is ascend.0), ascend)
      by later Equal is = ascend
      by later Greater is = (all-put name (λ other. name_cmp e.0 other ≡ Less) queue queues ascend.0 (is_above name e.0 is), later)

  out-ascends : (queues : Queues) → DoQueuesAscend queues → DoQueuesAscend (remove_entry (is_at (name_cmp name)) queues)
  unfolding IsStrictlySortedBy
  out-ascends [] ascend = tt
  out-ascends (e ∷ queues) ascend = by (out-ascends queues ascend.1) (is_at (name_cmp name) e.0)
    where
      by : DoQueuesAscend (remove_entry (is_at (name_cmp name)) queues) → (b : Bool) → DoQueuesAscend (cond b queues (e ∷ remove_entry (is_at (name_cmp name)) queues))
      by later true = ascend.1
      by later false = (all-out name (λ other. name_cmp e.0 other ≡ Less) queues ascend.0, later)

  pub with_queue-ascends : (queue : List ℕ) (queues : Queues) → DoQueuesAscend queues → DoQueuesAscend (with_queue name queue queues)
  with_queue-ascends [] queues ascend = out-ascends queues ascend
  with_queue-ascends (session ∷ queue) queues ascend = put-ascends (session ∷ queue) queues ascend

-- ---- the names that a session asked for

-- names that come after this one
pub below-names : (session : ℕ) (e : List ℕ × List ℕ) (queues : Queues) → DoQueuesAscend (e ∷ queues) → IsBelow e.0 (names_of session queues)
below-names session e queues ascend = all-names (λ other. name_cmp e.0 other ≡ Less) session queues (sorted_head name_cmp e.0 (keys_of queues) ascend)

-- and after one that comes before it
below-all : (session : ℕ) (name : List ℕ) (e : List ℕ × List ℕ) (queues : Queues) → DoQueuesAscend (e ∷ queues) → name_cmp name e.0 ≡ Less → IsBelow name (names_of session (e ∷ queues))
below-all session name e queues ascend less =
    all-names (λ other. name_cmp name other ≡ Less) session (e ∷ queues) (less, below_later name e.0 (keys_of queues) less (sorted_head name_cmp e.0 (keys_of queues) ascend))

module _ (session : ℕ) (name : List ℕ) where
  -- the session asks for one more lock
  names-put : (queue : List ℕ) (queues : Queues) → DoQueuesAscend queues → stands_in session queue ≡ true → names_of session (insert_entry name_cmp queues name queue) ≡ insert_key name_cmp (names_of session queues) name
  names-put queue [] ascend stands = ap (λ b. cond b (name ∷ []) []) stands
  names-put queue (e ∷ queues) ascend stands = by (names-put queue queues (sorted_tail name_cmp e.0 (keys_of queues) ascend) stands) (name_cmp name e.0) refl
    where
      names : List (List ℕ)
      names = names_of session queues

      at : name_cmp name e.0 ≡ Equal → (b : Bool) → e.0 ∷ names ≡ insert_key name_cmp (cond b (e.0 ∷ names) names) name
      at is true = sym (ap (λ o. match_ordering o (name ∷ e.0 ∷ names) (e.0 ∷ names) (e.0 ∷ insert_key name_cmp names name)) is)
      at is false = sym (ap (insert_key name_cmp names) (name_exact name e.0 is) ∙ insert-below e.0 names (below-names session e queues ascend))

      later : name_cmp name e.0 ≡ Greater → (b : Bool) → cond b (e.0 ∷ insert_key name_cmp names name) (insert_key name_cmp names name) ≡ insert_key name_cmp (cond b (e.0 ∷ names) names) name
      later is true = sym (ap (λ o. match_ordering o (name ∷ e.0 ∷ names) (e.0 ∷ names) (e.0 ∷ insert_key name_cmp names name)) is)
      later is false = refl

      by : names_of session (insert_entry name_cmp queues name queue) ≡ insert_key name_cmp names name → (o : Ordering) → name_cmp name e.0 ≡ o
          → names_of session (match_ordering o ((name, queue) ∷ e ∷ queues) ((e.0, queue) ∷ queues) (e ∷ insert_entry name_cmp queues name queue)) ≡ insert_key name_cmp (names_of session (e ∷ queues)) name
      by rest Less is =
          ap (λ b. cond b (name ∷ names_of session (e ∷ queues)) (names_of session (e ∷ queues))) stands
          ∙ sym (insert-below name (names_of session (e ∷ queues)) (below-all session name e queues ascend is))
      by rest Equal is = ap (λ b. cond b (e.0 ∷ names) names) stands ∙ at is (stands_in session e.1)
      by rest Greater is = ap (λ ns. cond (stands_in session e.1) (e.0 ∷ ns) ns) rest ∙ later is (stands_in session e.1)

  -- the session no longer asks for the lock, and others do
  names-put_out : (queue : List ℕ) (queues : Queues) → DoQueuesAscend queues → stands_in session queue ≡ false
      → names_of session (insert_entry name_cmp queues name queue) ≡ remove_key (is_at (name_cmp name)) (names_of session queues)
  names-put_out queue [] ascend out = ap (λ b. cond b (name ∷ []) []) out
  names-put_out queue (e ∷ queues) ascend out = by (names-put_out queue queues (sorted_tail name_cmp e.0 (keys_of queues) ascend) out) (name_cmp name e.0) refl
    where
      names : List (List ℕ)
      names = names_of session queues

      less : List (List ℕ)
      less = remove_key (is_at (name_cmp name)) names

      at : name_cmp name e.0 ≡ Equal → (b : Bool) → names ≡ remove_key (is_at (name_cmp name)) (cond b (e.0 ∷ names) names)
      at is true = sym (ap (λ o. cond (is_eq o) names (e.0 ∷ less)) is)
      at is false = sym (ap (λ n. remove_key (is_at (name_cmp n)) names) (name_exact name e.0 is) ∙ remove-below e.0 names (below-names session e queues ascend))

      later : name_cmp name e.0 ≡ Greater → (b : Bool) → cond b (e.0 ∷ less) less ≡ remove_key (is_at (name_cmp name)) (cond b (e.0 ∷ names) names)
      later is true = sym (ap (λ o. cond (is_eq o) names (e.0 ∷ less)) is)
      later is false = refl

      by : names_of session (insert_entry name_cmp queues name queue) ≡ less → (o : Ordering) → name_cmp name e.0 ≡ o
          → names_of session (match_ordering o ((name, queue) ∷ e ∷ queues) ((e.0, queue) ∷ queues) (e ∷ insert_entry name_cmp queues name queue)) ≡ remove_key (is_at (name_cmp name)) (names_of session (e ∷ queues))
      by rest Less is =
          ap (λ b. cond b (name ∷ names_of session (e ∷ queues)) (names_of session (e ∷ queues))) out
          ∙ sym (remove-below name (names_of session (e ∷ queues)) (below-all session name e queues ascend is))
      by rest Equal is = ap (λ b. cond b (e.0 ∷ names) names) out ∙ at is (stands_in session e.1)
      by rest Greater is = ap (λ ns. cond (stands_in session e.1) (e.0 ∷ ns) ns) rest ∙ later is (stands_in session e.1)

  -- nobody asks for the lock any longer
  names-out : (queues : Queues) → DoQueuesAscend queues → names_of session (remove_entry (is_at (name_cmp name)) queues) ≡ remove_key (is_at (name_cmp name)) (names_of session queues)
  names-out [] ascend = refl
  names-out (e ∷ queues) ascend = by (names-out queues (sorted_tail name_cmp e.0 (keys_of queues) ascend)) (is_at (name_cmp name) e.0) refl
    where
      names : List (List ℕ)
      names = names_of session queues

      less : List (List ℕ)
      less = remove_key (is_at (name_cmp name)) names

      at : is_at (name_cmp name) e.0 ≡ true → (b : Bool) → names ≡ remove_key (is_at (name_cmp name)) (cond b (e.0 ∷ names) names)
      at is true = sym (ap (λ t. cond t names (e.0 ∷ less)) is)
      at is false = sym (ap (λ n. remove_key (is_at (name_cmp n)) names) (name_exact name e.0 (equal_is _ is)) ∙ remove-below e.0 names (below-names session e queues ascend))

      later : is_at (name_cmp name) e.0 ≡ false → (b : Bool) → cond b (e.0 ∷ less) less ≡ remove_key (is_at (name_cmp name)) (cond b (e.0 ∷ names) names)
      later is true = sym (ap (λ t. cond t names (e.0 ∷ less)) is)
      later is false = refl

      by : names_of session (remove_entry (is_at (name_cmp name)) queues) ≡ less → (t : Bool) → is_at (name_cmp name) e.0 ≡ t
          → names_of session (cond t queues (e ∷ remove_entry (is_at (name_cmp name)) queues)) ≡ remove_key (is_at (name_cmp name)) (names_of session (e ∷ queues))
      by rest true is = at is (stands_in session e.1)
      by rest false is = ap (λ ns. cond (stands_in session e.1) (e.0 ∷ ns) ns) rest ∙ later is (stands_in session e.1)

  -- ---- it asks for the lock as it did before

  names-out_same : (queues : Queues) → stands_in session (queue_of name queues) ≡ false → names_of session (remove_entry (is_at (name_cmp name)) queues) ≡ names_of session queues
  names-out_same [] same = refl
  names-out_same (e ∷ queues) same = by (names-out_same queues) (is_at (name_cmp name) e.0) same
    where
      names : List (List ℕ)
      names = names_of session queues

      by : (stands_in session (queue_of name queues) ≡ false → names_of session (remove_entry (is_at (name_cmp name)) queues) ≡ names) → (t : Bool)
          → stands_in session (unwrap_or (cond t (Some e.1) (lookup (is_at (name_cmp name)) queues)) []) ≡ false
          → names_of session (cond t queues (e ∷ remove_entry (is_at (name_cmp name)) queues)) ≡ names_of session (e ∷ queues)
      by rest true is = sym (ap (λ b. cond b (e.0 ∷ names) names) is)
      by rest false is = ap (λ ns. cond (stands_in session e.1) (e.0 ∷ ns) ns) (rest is)

  names-put_same : (queue : List ℕ) (queues : Queues) → DoQueuesAscend queues → stands_in session queue ≡ stands_in session (queue_of name queues)
      → names_of session (insert_entry name_cmp queues name queue) ≡ names_of session queues
  names-put_same queue [] ascend same = ap (λ b. cond b (name ∷ []) []) same
  names-put_same queue (e ∷ queues) ascend same = by (names-put_same queue queues (sorted_tail name_cmp e.0 (keys_of queues) ascend)) (name_cmp name e.0) refl same
    where
      names : List (List ℕ)
      names = names_of session queues

      by : (stands_in session queue ≡ stands_in session (queue_of name queues) → names_of session (insert_entry name_cmp queues name queue) ≡ names) → (o : Ordering) → name_cmp name e.0 ≡ o
          → stands_in session queue ≡ stands_in session (unwrap_or (cond (is_eq o) (Some e.1) (lookup (is_at (name_cmp name)) queues)) [])
          → names_of session (match_ordering o ((name, queue) ∷ e ∷ queues) ((e.0, queue) ∷ queues) (e ∷ insert_entry name_cmp queues name queue)) ≡ names_of session (e ∷ queues)
      by rest Less is stands =
          ap (λ b. cond b (name ∷ names_of session (e ∷ queues)) (names_of session (e ∷ queues)))
          (stands ∙ ap (λ o. stands_in session (unwrap_or o [])) (lookup-none (is_at (name_cmp name)) queues (none_below_head name_cmp_total name e queues ascend is).1))
      by rest Equal is stands = ap (λ b. cond b (e.0 ∷ names) names) stands
      by rest Greater is stands = ap (λ ns. cond (stands_in session e.1) (e.0 ∷ ns) ns) (rest stands)

  -- ---- another queue of the lock

  names-in : (queue : List ℕ) (queues : Queues) → DoQueuesAscend queues → stands_in session queue ≡ true → names_of session (with_queue name queue queues) ≡ insert_key name_cmp (names_of session queues) name
  names-in [] queues ascend stands = absurd (true≢false (sym stands))
  names-in (first ∷ queue) queues ascend stands = names-put (first ∷ queue) queues ascend stands

  names-gone : (queue : List ℕ) (queues : Queues) → DoQueuesAscend queues → stands_in session queue ≡ false → names_of session (with_queue name queue queues) ≡ remove_key (is_at (name_cmp name)) (names_of session queues)
  names-gone [] queues ascend out = names-out queues ascend
  names-gone (first ∷ queue) queues ascend out = names-put_out (first ∷ queue) queues ascend out

  names-same : (queue : List ℕ) (queues : Queues) → DoQueuesAscend queues → stands_in session queue ≡ stands_in session (queue_of name queues) → names_of session (with_queue name queue queues) ≡ names_of session queues
  names-same [] queues ascend same = names-out_same queues (sym same)
  names-same (first ∷ queue) queues ascend same = names-put_same (first ∷ queue) queues ascend same

  -- the session asked for a lock if it is one of these names
  pub requested-names : (queues : Queues) → DoQueuesAscend queues → has_requested session name queues ≡ list_any (is_at (name_cmp name)) (names_of session queues)
  requested-names [] ascend = refl
  requested-names (e ∷ queues) ascend = by (requested-names queues (sorted_tail name_cmp e.0 (keys_of queues) ascend)) (is_at (name_cmp name) e.0) refl
    where
      names : List (List ℕ)
      names = names_of session queues

      at : is_at (name_cmp name) e.0 ≡ true → (b : Bool) → b ≡ list_any (is_at (name_cmp name)) (cond b (e.0 ∷ names) names)
      at is true = sym (ap (λ t. t || list_any (is_at (name_cmp name)) names) is)
      at is false = sym (ap (λ n. list_any (is_at (name_cmp n)) names) (name_exact name e.0 (equal_is _ is)) ∙ any-below e.0 names (below-names session e queues ascend))

      later : is_at (name_cmp name) e.0 ≡ false → (b : Bool) → list_any (is_at (name_cmp name)) names ≡ list_any (is_at (name_cmp name)) (cond b (e.0 ∷ names) names)
      later is true = sym (ap (λ t. t || list_any (is_at (name_cmp name)) names) is)
      later is false = refl

      by : has_requested session name queues ≡ list_any (is_at (name_cmp name)) names → (t : Bool) → is_at (name_cmp name) e.0 ≡ t
          → stands_in session (unwrap_or (cond t (Some e.1) (lookup (is_at (name_cmp name)) queues)) []) ≡ list_any (is_at (name_cmp name)) (names_of session (e ∷ queues))
      by rest true is = at is (stands_in session e.1)
      by rest false is = rest ∙ later is (stands_in session e.1)

-- ---- who stands in a queue

same_session : (a b : ℕ) → eqb a b ≡ true → a ≡ b
same_session = eqb-true

-- two that are not the same, the other way round
pub apart_back : (other session : ℕ) → eqb other session ≡ false → eqb session other ≡ false
apart_back other session apart = by (eqb session other) refl
  where
    by : (b : Bool) → eqb session other ≡ b → b ≡ false
    by true is = absurd (true≢false (sym (eq-eqb other session (sym (same_session session other is))) ∙ apart))
    by false is = refl

stands-one : (other session : ℕ) (queue : List ℕ) → eqb other session ≡ false → stands_in other (session ∷ queue) ≡ stands_in other queue
stands-one other session queue apart = ap (λ b. b || stands_in other queue) (apart_back other session apart)

stands-front : (session : ℕ) (queue : List ℕ) → stands_in session (session ∷ queue) ≡ true
stands-front session queue = ap (λ b. b || stands_in session queue) (eq-eqb session session refl)

stands-back : (session : ℕ) (queue : List ℕ) → stands_in session (queue ++ session ∷ []) ≡ true
stands-back session queue =
    list_any-append (λ other. eqb other session) queue (session ∷ []) ∙ ap (λ b. stands_in session queue || b) (stands-front session []) ∙ or_truth (stands_in session queue)

stands-after : (other session : ℕ) (queue : List ℕ) → eqb other session ≡ false → stands_in other (queue ++ session ∷ []) ≡ stands_in other queue
stands-after other session queue apart =
    list_any-append (λ one. eqb one other) queue (session ∷ []) ∙ ap (λ b. stands_in other queue || b) (stands-one other session [] apart) ∙ or_nothing (stands_in other queue)

-- the queue without a session
pub stands-without : (other session : ℕ) (queue : List ℕ) → stands_in other (without session queue) ≡ cond (eqb other session) false (stands_in other queue)
stands-without other session queue =
    any-filter_same (λ one. eqb one other) (λ one. not (eqb one session)) (not (eqb other session)) (λ one is. ap (λ n. not (eqb n session)) (same_session one other is)) queue
    ∙ by (eqb other session)
  where
    by : (b : Bool) → (not b && stands_in other queue) ≡ cond b false (stands_in other queue)
    by true = refl
    by false = refl

-- ---- the names that sessions asked for, after each of the calls

module _ (name : List ℕ) (other session : ℕ) (queues : Queues) (ascend : DoQueuesAscend queues) where
  pub names-lock : names_of other (lock name session queues) ≡ cond (eqb other session) (insert_key name_cmp (names_of other queues) name) (names_of other queues)
  names-lock = by (eqb other session) refl
    where
      queue : List ℕ
      queue = queue_of name queues

      by : (b : Bool) → eqb other session ≡ b → names_of other (lock name session queues) ≡ cond b (insert_key name_cmp (names_of other queues) name) (names_of other queues)
      by true is = names-in other name (queue ++ session ∷ []) queues ascend (ap (λ one. stands_in other (queue ++ one ∷ [])) (sym (same_session other session is)) ∙ stands-back other queue)
      by false is = names-same other name (queue ++ session ∷ []) queues ascend (stands-after other session queue is)

  pub names-steal : names_of other (steal name session queues) ≡ cond (eqb other session) (insert_key name_cmp (names_of other queues) name) (names_of other queues)
  names-steal = by (eqb other session) refl
    where
      queue : List ℕ
      queue = queue_of name queues

      by : (b : Bool) → eqb other session ≡ b → names_of other (steal name session queues) ≡ cond b (insert_key name_cmp (names_of other queues) name) (names_of other queues)
      by true is = names-in other name (session ∷ queue) queues ascend (ap (λ one. stands_in other (one ∷ queue)) (sym (same_session other session is)) ∙ stands-front other queue)
      by false is = names-same other name (session ∷ queue) queues ascend (stands-one other session queue is)

  pub names-unlock : names_of other (unlock name session queues) ≡ cond (eqb other session) (remove_key (is_at (name_cmp name)) (names_of other queues)) (names_of other queues)
  names-unlock = by (eqb other session) refl
    where
      queue : List ℕ
      queue = queue_of name queues

      by : (b : Bool) → eqb other session ≡ b → names_of other (unlock name session queues) ≡ cond b (remove_key (is_at (name_cmp name)) (names_of other queues)) (names_of other queues)
      by true is = names-gone other name (without session queue) queues ascend (stands-without other session queue ∙ ap (λ b. cond b false (stands_in other queue)) is)
      by false is = names-same other name (without session queue) queues ascend (stands-without other session queue ∙ ap (λ b. cond b false (stands_in other queue)) is)

-- ---- leaving

pub unlock-ascends : (name : List ℕ) (session : ℕ) (queues : Queues) → DoQueuesAscend queues → DoQueuesAscend (unlock name session queues)
unlock-ascends name session queues ascend = with_queue-ascends name (without session (queue_of name queues)) queues ascend

-- what holds after each single lock is unlocked holds after all are
pub unlock_all-keeps : (P : Queues → Type 0) (session : ℕ) → ((name : List ℕ) (queues : Queues) → P queues → P (unlock name session queues))
    → (names : List (List ℕ)) (queues : Queues) → P queues → P (unlock_all session names queues)
unlock_all-keeps P session keeps [] queues has = has
unlock_all-keeps P session keeps (name ∷ names) queues has = unlock_all-keeps P session keeps names (unlock name session queues) (keeps name queues has)

pub leave-ascends : (session : ℕ) (queues : Queues) → DoQueuesAscend queues → DoQueuesAscend (leave session queues)
leave-ascends session queues ascend = unlock_all-keeps DoQueuesAscend session (λ name qs. unlock-ascends name session qs) (names_of session queues) queues ascend

-- a session that unlocks each lock that it asked for asks for none any longer
names-unlock_all : (session : ℕ) (names : List (List ℕ)) (queues : Queues) → DoQueuesAscend queues → names_of session queues ≡ names → names_of session (unlock_all session names queues) ≡ []
names-unlock_all session [] queues ascend are = are
names-unlock_all session (name ∷ names) queues ascend are = names-unlock_all session names (unlock name session queues) (unlock-ascends name session queues ascend) fewer
  where
    fewer : names_of session (unlock name session queues) ≡ names
    fewer =
        names-unlock name session session queues ascend
        ∙ ap (λ b. cond b (remove_key (is_at (name_cmp name)) (names_of session queues)) (names_of session queues)) (eq-eqb session session refl)
        ∙ ap (remove_key (is_at (name_cmp name))) are ∙ ap (λ b. cond b names (name ∷ remove_key (is_at (name_cmp name)) names)) (same_name-itself name)

-- and the others ask for the same ones
names-unlock_all_other : (other session : ℕ) (names : List (List ℕ)) (queues : Queues) → DoQueuesAscend queues → eqb other session ≡ false
    → names_of other (unlock_all session names queues) ≡ names_of other queues
names-unlock_all_other other session [] queues ascend apart = refl
names-unlock_all_other other session (name ∷ names) queues ascend apart =
    names-unlock_all_other other session names (unlock name session queues) (unlock-ascends name session queues ascend) apart
    ∙ names-unlock name other session queues ascend ∙ ap (λ b. cond b (remove_key (is_at (name_cmp name)) (names_of other queues)) (names_of other queues)) apart

pub names-leave : (other session : ℕ) (queues : Queues) → DoQueuesAscend queues → names_of other (leave session queues) ≡ cond (eqb other session) [] (names_of other queues)
names-leave other session queues ascend = by (eqb other session) refl
  where
    by : (b : Bool) → eqb other session ≡ b → names_of other (leave session queues) ≡ cond b [] (names_of other queues)
    by true is = ap (λ one. names_of one (leave session queues)) (same_session other session is) ∙ names-unlock_all session (names_of session queues) queues ascend refl
    by false is = names-unlock_all_other other session (names_of session queues) queues ascend is
