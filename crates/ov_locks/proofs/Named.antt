-- The map of queues of the code as the queues of the definitions, and what one change of it makes of them.
use Rattle.std.proofs.Common.{◌≡◌, ℕ, List, [], ◌∷◌, Bool, true, false, cond, Option, Some, None, option_map, refl, sym, ap, subst, ◌∙◌, String, string_bytes, Global, Ordering, Less, Equal, Greater}
use Rattle.std.proofs.lemmas.Map.{lookup-none}
use Rattle.std.proofs.lemmas.Option.{same_Some}
use Rattle.std.proofs.lemmas.Map.Entries.{none_below_head}
use Rattle.std.proofs.lemmas.Map.Keys.{sorted_tail}
use Rattle.std.specs.BTreeMap.{is_at, insert_entry}
use Rattle.std.specs.Cmp.Lexicographic.{slice_cmp}
use Rattle.std.specs.List.{AllByRecursion}
use Rattle.std.specs.List.Sorted.{IsStrictlySortedBy}
use Rattle.std.specs.Map.{keys_of, lookup, remove_entry, set_value}
use Rattle.std.specs.Ordering.{nat_cmp, is_eq, match_ordering}
use Rattle.std.specs.Prelude.{unwrap_or}
use Rattle.ov_specs.specs.locks.Queues.{Queues, queue_of}
use Rattle.ov_specs.specs.schema.SchemaTypes.{name_cmp}
use Rattle.ov_specs.proofs.laws.LockQueues.{DoQueuesAscend}
use Rattle.ov_specs.proofs.laws.Names.{name_cmp_total, name_exact}
use Rattle.ov_specs.proofs.laws.Truths.{equal_is}
use Rattle.ov_locks.specs.Queued.{Queue, sessions_of, queues_of, AreToldOf, AllAreTold}

abbrev pub Entries : Type 0
Entries = List (String Global × Queue)

-- texts by their bytes
abbrev pub text_order : String Global → String Global → Ordering
text_order a b = name_cmp (string_bytes a) (string_bytes b)

-- the text has these bytes
abbrev pub text_is : List ℕ → String Global → Bool
text_is name = is_at (λ k. slice_cmp nat_cmp name (string_bytes k))

-- ---- what is found

found_more : (b : Bool) (q : Queue) (o : Option (List ℕ)) (p : Option Queue) → o ≡ option_map sessions_of p → cond b (Some (sessions_of q)) o ≡ option_map sessions_of (cond b (Some q) p)
found_more true q o p again = refl
found_more false q o p again = again

lookup-queues : (name : List ℕ) (es : Entries) → lookup (is_at (name_cmp name)) (queues_of es) ≡ option_map sessions_of (lookup (text_is name) es)
lookup-queues name [] = refl
lookup-queues name (e ∷ es) = found_more (text_is name e.0) e.1 (lookup (is_at (name_cmp name)) (queues_of es)) (lookup (text_is name) es) (lookup-queues name es)

pub queue-found : (name : List ℕ) (es : Entries) (o : Option Queue) → o ≡ lookup (text_is name) es → queue_of name (queues_of es) ≡ unwrap_or (option_map sessions_of o) []
queue-found name es o is = ap (λ p. unwrap_or p []) (lookup-queues name es ∙ ap (option_map sessions_of) (sym is))

-- ---- order

below-named : (k : String Global) (es : Entries) → AllByRecursion (λ y. text_order k y ≡ Less) (keys_of es) → AllByRecursion (λ y. name_cmp (string_bytes k) y ≡ Less) (keys_of (queues_of es))
below-named k [] below = tt
below-named k (e ∷ es) below = (below.0, below-named k es below.1)

pub named-ascend : (es : Entries) → IsStrictlySortedBy text_order (keys_of es) → DoQueuesAscend (queues_of es)
unfolding IsStrictlySortedBy
named-ascend [] ascend = tt
named-ascend (e ∷ es) ascend = (below-named e.0 es ascend.0, named-ascend es ascend.1)

-- ---- one more queue, another, or one fewer

pub insert-queues : (k : String Global) (q : Queue) (es : Entries) → queues_of (insert_entry text_order es k q) ≡ insert_entry name_cmp (queues_of es) (string_bytes k) (sessions_of q)
insert-queues k q [] = refl
insert-queues k q (e ∷ es) = by (insert-queues k q es) (text_order k e.0)
  where
    by : queues_of (insert_entry text_order es k q) ≡ insert_entry name_cmp (queues_of es) (string_bytes k) (sessions_of q) → (o : Ordering)
        → queues_of (match_ordering o ((k, q) ∷ e ∷ es) ((e.0, q) ∷ es) (e ∷ insert_entry text_order es k q))
        ≡ match_ordering o ((string_bytes k, sessions_of q) ∷ queues_of (e ∷ es)) ((string_bytes e.0, sessions_of q) ∷ queues_of es) ((string_bytes e.0, sessions_of e.1) ∷ insert_entry name_cmp (queues_of es) (string_bytes k) (sessions_of q))
    by rest Less = refl
    by rest Equal = refl
    by rest Greater = ap (λ qs. (string_bytes e.0, sessions_of e.1) ∷ qs) rest

pub out-queues : (name : List ℕ) (es : Entries) → queues_of (remove_entry (text_is name) es) ≡ remove_entry (is_at (name_cmp name)) (queues_of es)
out-queues name [] = refl
out-queues name (e ∷ es) = by (out-queues name es) (text_is name e.0)
  where
    by : queues_of (remove_entry (text_is name) es) ≡ remove_entry (is_at (name_cmp name)) (queues_of es) → (b : Bool)
        → queues_of (cond b es (e ∷ remove_entry (text_is name) es)) ≡ cond b (queues_of es) ((string_bytes e.0, sessions_of e.1) ∷ remove_entry (is_at (name_cmp name)) (queues_of es))
    by rest true = refl
    by rest false = ap (λ qs. (string_bytes e.0, sessions_of e.1) ∷ qs) rest

set-named : (name : List ℕ) (q : Queue) (es : Entries) → queues_of (set_value (text_is name) es q) ≡ set_value (is_at (name_cmp name)) (queues_of es) (sessions_of q)
set-named name q [] = refl
set-named name q (e ∷ es) = by (set-named name q es) (text_is name e.0)
  where
    by : queues_of (set_value (text_is name) es q) ≡ set_value (is_at (name_cmp name)) (queues_of es) (sessions_of q) → (b : Bool)
        → queues_of (cond b ((e.0, q) ∷ es) (e ∷ set_value (text_is name) es q))
        ≡ cond b ((string_bytes e.0, sessions_of q) ∷ queues_of es) ((string_bytes e.0, sessions_of e.1) ∷ set_value (is_at (name_cmp name)) (queues_of es) (sessions_of q))
    by rest true = refl
    by rest false = ap (λ qs. (string_bytes e.0, sessions_of e.1) ∷ qs) rest

-- a queue that exists is put where it is
put-found : (name : List ℕ) (queue old : List ℕ) (queues : Queues) → DoQueuesAscend queues → lookup (is_at (name_cmp name)) queues ≡ Some old
    → set_value (is_at (name_cmp name)) queues queue ≡ insert_entry name_cmp queues name queue
put-found name queue old [] ascend found = absurd (no found)
  where
    no : None ≡ Some old → ⊥
    no h = cc
put-found name queue old (e ∷ queues) ascend found = by (put-found name queue old queues (sorted_tail name_cmp e.0 (keys_of queues) ascend)) (name_cmp name e.0) refl found
  where
    no : None ≡ Some old → ⊥
    no h = cc

    by : (lookup (is_at (name_cmp name)) queues ≡ Some old → set_value (is_at (name_cmp name)) queues queue ≡ insert_entry name_cmp queues name queue) → (o : Ordering) → name_cmp name e.0 ≡ o
        → cond (is_eq o) (Some e.1) (lookup (is_at (name_cmp name)) queues) ≡ Some old
        → cond (is_eq o) ((e.0, queue) ∷ queues) (e ∷ set_value (is_at (name_cmp name)) queues queue)
        ≡ match_ordering o ((name, queue) ∷ e ∷ queues) ((e.0, queue) ∷ queues) (e ∷ insert_entry name_cmp queues name queue)
    by rest Less is at = absurd (no (sym (lookup-none (is_at (name_cmp name)) queues (none_below_head name_cmp_total name e queues ascend is).1) ∙ at))
    by rest Equal is at = refl
    by rest Greater is at = ap (λ qs. e ∷ qs) (rest at)

pub set-queues : (name : List ℕ) (q old : Queue) (es : Entries) → IsStrictlySortedBy text_order (keys_of es) → Some old ≡ lookup (text_is name) es
    → queues_of (set_value (text_is name) es q) ≡ insert_entry name_cmp (queues_of es) name (sessions_of q)
set-queues name q old es ascend found =
    set-named name q es
    ∙ put-found name (sessions_of q) (sessions_of old) (queues_of es) (named-ascend es ascend) (lookup-queues name es ∙ ap (option_map sessions_of) (sym found))

-- a queue that is changed before it goes
pub out-set : (name : List ℕ) (q : Queue) (es : Entries) → remove_entry (text_is name) (set_value (text_is name) es q) ≡ remove_entry (text_is name) es
out-set name q [] = refl
out-set name q (e ∷ es) = by (out-set name q es) (text_is name e.0) refl
  where
    by : remove_entry (text_is name) (set_value (text_is name) es q) ≡ remove_entry (text_is name) es → (b : Bool) → text_is name e.0 ≡ b
        → remove_entry (text_is name) (cond b ((e.0, q) ∷ es) (e ∷ set_value (text_is name) es q)) ≡ cond b es (e ∷ remove_entry (text_is name) es)
    by rest true is = ap (λ b. cond b es ((e.0, q) ∷ remove_entry (text_is name) es)) is
    by rest false is = ap (λ b. cond b (set_value (text_is name) es q) (e ∷ remove_entry (text_is name) (set_value (text_is name) es q))) is ∙ ap (λ qs. e ∷ qs) rest

-- ---- all will be notified of their locks

pub told-insert : (k : String Global) (q : Queue) (es : Entries) → AllAreTold es → AreToldOf (string_bytes k) q.1 → AllAreTold (insert_entry text_order es k q)
told-insert k q [] all are = (are, tt)
told-insert k q (e ∷ es) all are = by (told-insert k q es all.1 are) (text_order k e.0) refl
  where
    by : AllAreTold (insert_entry text_order es k q) → (o : Ordering) → text_order k e.0 ≡ o → AllAreTold (match_ordering o ((k, q) ∷ e ∷ es) ((e.0, q) ∷ es) (e ∷ insert_entry text_order es k q))
    by rest Less is = (are, all)
    by rest Equal is = (subst (λ n. AreToldOf n q.1) (name_exact (string_bytes k) (string_bytes e.0) is) are, all.1)
    by rest Greater is = (all.0, rest)

pub told-set : (name : List ℕ) (q : Queue) (es : Entries) → AllAreTold es → AreToldOf name q.1 → AllAreTold (set_value (text_is name) es q)
told-set name q [] all are = tt
told-set name q (e ∷ es) all are = by (told-set name q es all.1 are) (text_is name e.0) refl
  where
    by : AllAreTold (set_value (text_is name) es q) → (b : Bool) → text_is name e.0 ≡ b → AllAreTold (cond b ((e.0, q) ∷ es) (e ∷ set_value (text_is name) es q))
    by rest true is = (subst (λ n. AreToldOf n q.1) (name_exact name (string_bytes e.0) (equal_is _ is)) are, all.1)
    by rest false is = (all.0, rest)

pub told-out : (name : List ℕ) (es : Entries) → AllAreTold es → AllAreTold (remove_entry (text_is name) es)
told-out name [] all = tt
told-out name (e ∷ es) all = by (told-out name es all.1) (text_is name e.0)
  where
    by : AllAreTold (remove_entry (text_is name) es) → (b : Bool) → AllAreTold (cond b es (e ∷ remove_entry (text_is name) es))
    by rest true = all.1
    by rest false = (all.0, rest)

pub told-found : (name : List ℕ) (q : Queue) (es : Entries) → AllAreTold es → Some q ≡ lookup (text_is name) es → AreToldOf name q.1
told-found name q [] all found = absurd (no (sym found))
  where
    no : None ≡ Some q → ⊥
    no h = cc
told-found name q (e ∷ es) all found = by (told-found name q es all.1) (text_is name e.0) refl found
  where
    by : (Some q ≡ lookup (text_is name) es → AreToldOf name q.1) → (b : Bool) → text_is name e.0 ≡ b → Some q ≡ cond b (Some e.1) (lookup (text_is name) es) → AreToldOf name q.1
    by rest true is at = subst (λ n. AreToldOf n q.1) (sym (name_exact name (string_bytes e.0) (equal_is _ is))) (subst (λ (p : Queue). AreToldOf (string_bytes e.0) p.1) (same_Some e.1 q (sym at)) all.0)
    by rest false is at = rest at
