-- The queues of a table of locks with the names that its sessions have asked for.
use Rattle.std.proofs.Common.{◌≡◌, ℕ, ◌+◌, ◌≤◌, List, [], ◌∷◌, ◌++◌, length, Bool, true, false, cond, ◌||◌, eqb, Option, Some, None, refl, sym, ap, subst, ◌∙◌, arith, Ordering, Less, Equal, Greater}
use Rattle.std.proofs.lemmas.Bool.{eqb-true, eq-eqb}
use Rattle.std.proofs.lemmas.List.{append_assoc}
use Rattle.std.specs.BTreeMap.{is_at}
use Rattle.std.specs.BTreeSet.{insert_key}
use Rattle.std.specs.List.{list_any}
use Rattle.std.specs.List.Sorted.{IsStrictlySortedBy}
use Rattle.std.specs.Ordering.{is_eq, match_ordering}
use Rattle.std.specs.Prelude.{Ok, Err, option_to_list}
use Rattle.std.specs.Set.{remove_key}
use Rattle.ov_specs.specs.locks.Queues.{Queues, queue_of, has_requested, names_of, lock, steal, without, unlock, next_owner, unlock_all, freed_before, freed_all, leave}
use Rattle.ov_specs.specs.schema.SchemaTypes.{name_cmp}
use Rattle.ov_specs.proofs.laws.LockQueues.{DoQueuesAscend, with_queue-ascends, leave-ascends, names-lock, names-steal, names-unlock, names-leave, requested-names, remove-insert}
use Rattle.ov_specs.proofs.laws.Names.{same_name-itself}
use Rattle.ov_specs.proofs.laws.Truths.{or_truth}
use Rattle.ov_locks.specs.Freeing.{owner_notified, owners_notified}
use Rattle.ov_locks.specs.Held.{HeldNames, names_asked}
use Rattle.ov_locks.specs.Refusing.{refusal_for, request_refusal, RefusesFor}
use Rattle.ov_locks.specs.declared.fault.LockFault.{LockFault}
use Rattle.ov_locks.specs.declared.fault.LockFault.TheVariants.{AlreadyRequested, Memory}

-- what contracts see of a table
abbrev pub TableValue : Type 0
TableValue = Queues × List (ℕ × List ℕ)

-- the names are those of the queues
abbrev pub AreNamesOf : HeldNames → Queues → Type 0
AreNamesOf held queues = (session : ℕ) → names_asked session held ≡ names_of session queues

pub none-ascend : DoQueuesAscend []
unfolding IsStrictlySortedBy
none-ascend = tt

-- the session asks for the lock as well, or stops asking for it
abbrev pub AddsName : List ℕ → ℕ → HeldNames → HeldNames → Type 0
AddsName name session held new = (other : ℕ) → names_asked other new ≡ cond (eqb other session) (insert_key name_cmp (names_asked other held) name) (names_asked other held)

abbrev pub RemovesName : List ℕ → ℕ → HeldNames → HeldNames → Type 0
RemovesName name session held new = (other : ℕ) → names_asked other new ≡ cond (eqb other session) (remove_key (is_at (name_cmp name)) (names_asked other held)) (names_asked other held)

module _ (name : List ℕ) (session : ℕ) (queues : Queues) (held : HeldNames) (ascend : DoQueuesAscend queues) (are : AreNamesOf held queues) where
  -- ---- whether it is refused

  pub has-is : list_any (is_at (name_cmp name)) (names_asked session held) ≡ has_requested session name queues
  has-is = ap (list_any (is_at (name_cmp name))) (are session) ∙ sym (requested-names session name queues ascend)

  pub refusal-is : refusal_for (list_any (is_at (name_cmp name)) (names_asked session held)) (length (names_asked session held)) ≡ request_refusal name session queues
  refusal-is i = refusal_for (has-is i) (length (are session i))

  -- ---- what the table is after a call

  pub locks-table : (new : HeldNames) (after : Queues) → AddsName name session held new → after ≡ lock name session queues → DoQueuesAscend after × AreNamesOf new after
  locks-table new after adds is = (
    subst DoQueuesAscend (sym is) (with_queue-ascends name (queue_of name queues ++ session ∷ []) queues ascend),
    λ other.
        adds other ∙ ap (λ ns. cond (eqb other session) (insert_key name_cmp ns name) ns) (are other) ∙ sym (names-lock name other session queues ascend) ∙ ap (names_of other) (sym is),
  )

  pub steals-table : (new : HeldNames) (after : Queues) → AddsName name session held new → after ≡ steal name session queues → DoQueuesAscend after × AreNamesOf new after
  steals-table new after adds is = (
    subst DoQueuesAscend (sym is) (with_queue-ascends name (session ∷ queue_of name queues) queues ascend),
    λ other.
        adds other ∙ ap (λ ns. cond (eqb other session) (insert_key name_cmp ns name) ns) (are other) ∙ sym (names-steal name other session queues ascend) ∙ ap (names_of other) (sym is),
  )

  pub unlocks-table : (new : HeldNames) (after : Queues) → RemovesName name session held new → after ≡ unlock name session queues → DoQueuesAscend after × AreNamesOf new after
  unlocks-table new after removes is = (
    subst DoQueuesAscend (sym is) (with_queue-ascends name (without session (queue_of name queues)) queues ascend),
    λ other.
        removes other ∙ ap (λ ns. cond (eqb other session) (remove_key (is_at (name_cmp name)) ns) ns) (are other) ∙ sym (names-unlock name other session queues ascend) ∙ ap (names_of other) (sym is),
  )

  -- what was noted is undone
  pub same-table : (mid new : HeldNames) (after : Queues) → list_any (is_at (name_cmp name)) (names_asked session held) ≡ false → AddsName name session held mid → RemovesName name session mid new → after ≡ queues
      → DoQueuesAscend after × AreNamesOf new after
  same-table mid new after absent adds removes is = (
    subst DoQueuesAscend (sym is) ascend,
    λ other.
        removes other ∙ ap (λ ns. cond (eqb other session) (remove_key (is_at (name_cmp name)) ns) ns) (adds other) ∙ by other (eqb other session) refl ∙ are other ∙ ap (names_of other) (sym is),
  )
    where
      by : (other : ℕ) (b : Bool) → eqb other session ≡ b
          → cond b (remove_key (is_at (name_cmp name)) (cond b (insert_key name_cmp (names_asked other held) name) (names_asked other held))) (cond b (insert_key name_cmp (names_asked other held) name) (names_asked other held)) ≡ names_asked other held
      by other true same = remove-insert name (names_asked other held) (ap (λ s. list_any (is_at (name_cmp name)) (names_asked s held)) (eqb-true other session same) ∙ absent)
      by other false same = refl

-- the session has left
pub leaves-table : (session : ℕ) (queues : Queues) (held new : HeldNames) (after : Queues) → DoQueuesAscend queues → AreNamesOf held queues
    → ((other : ℕ) → names_asked other new ≡ cond (eqb other session) [] (names_asked other held)) → after ≡ leave session queues → DoQueuesAscend after × AreNamesOf new after
leaves-table session queues held new after ascend are gone is = (
  subst DoQueuesAscend (sym is) (leave-ascends session queues ascend),
  λ other. gone other ∙ ap (cond (eqb other session) []) (are other) ∙ sym (names-leave other session queues ascend) ∙ ap (names_of other) (sym is),
)

any-insert : (name : List ℕ) (names : List (List ℕ)) → list_any (is_at (name_cmp name)) (insert_key name_cmp names name) ≡ true
any-insert name [] = ap (λ b. b || false) (same_name-itself name)
any-insert name (other ∷ names) = by (any-insert name names) (name_cmp name other) refl
  where
    by : list_any (is_at (name_cmp name)) (insert_key name_cmp names name) ≡ true → (o : Ordering) → name_cmp name other ≡ o
        → list_any (is_at (name_cmp name)) (match_ordering o (name ∷ other ∷ names) (other ∷ names) (other ∷ insert_key name_cmp names name)) ≡ true
    by rest Less is = ap (λ b. b || list_any (is_at (name_cmp name)) (other ∷ names)) (same_name-itself name)
    by rest Equal is = ap (λ o. is_eq o || list_any (is_at (name_cmp name)) names) is
    by rest Greater is = ap (λ b. is_at (name_cmp name) other || b) rest ∙ or_truth (is_at (name_cmp name) other)

-- what was added is there
pub added-is : (name : List ℕ) (session : ℕ) (held new : HeldNames) → AddsName name session held new → list_any (is_at (name_cmp name)) (names_asked session new) ≡ true
added-is name session held new adds =
    ap (list_any (is_at (name_cmp name))) (adds session ∙ ap (λ b. cond b (insert_key name_cmp (names_asked session held) name) (names_asked session held)) (eq-eqb session session refl))
    ∙ any-insert name (names_asked session held)

-- ---- lock by lock

-- the new owners with their frames, and the places that are kept
abbrev pub Freeing : Type 0
Freeing = List (ℕ × List ℕ) × ℕ

-- the locks that a session has still to unlock, with the queues, the new owners and the places of that moment
pub record Unlocking : Type 0 where
  pub names : List (List ℕ)
  pub queues : Queues
  pub freeing : Freeing

-- unlocking the remaining locks makes of the queues what unlocking all makes of the first ones, and there are places for it
abbrev pub IsLeft : ℕ → Unlocking → Unlocking → Type 0
IsLeft session first now =
    (unlock_all session now.names now.queues ≡ unlock_all session first.names first.queues)
    × (now.freeing.0 ++ owners_notified (freed_all session now.names now.queues) ≡ first.freeing.0 ++ owners_notified (freed_all session first.names first.queues))
    × (now.freeing.1 + length first.names ≡ first.freeing.1 + length now.names)
    × (length now.names ≤ now.freeing.1)

told-next : (name : List ℕ) (next : Option ℕ) (others : List (ℕ × List ℕ)) → owners_notified (freed_before next name others) ≡ option_to_list (owner_notified name next) ++ owners_notified others
told-next name None others = refl
told-next name (Some session) others = refl

pub left-next : (session : ℕ) (first : Unlocking) (name : List ℕ) (rest : List (List ℕ)) (queues after : Queues) (now then : Freeing)
    → IsLeft session first (record { names = name ∷ rest; queues = queues; freeing = now })
    → after ≡ unlock name session queues → then.0 ≡ now.0 ++ option_to_list (owner_notified name (next_owner name session queues)) → then.1 + 1 ≡ now.1
    → IsLeft session first (record { names = rest; queues = after; freeing = then })
left-next session first name rest queues after now then left is told_is places = (
  ap (unlock_all session rest) is ∙ left.0,
  (λ i. told_is i ++ owners_notified (freed_all session rest (is i)))
      ∙ append_assoc now.0 (option_to_list (owner_notified name (next_owner name session queues))) (owners_notified (freed_all session rest (unlock name session queues)))
      ∙ ap (λ ps. now.0 ++ ps) (sym (told-next name (next_owner name session queues) (freed_all session rest (unlock name session queues)))) ∙ left.1,
  omega (arith, places, left.2),
  omega (arith, places, left.3),
)

-- ---- answers

never : {A : Type 0} (fault : LockFault) (a : A) → RefusesFor {A = A} (Some fault) (Ok a) → ⊥
never fault a h = cc

same_error : {A : Type 0} (fault other : LockFault) → RefusesFor {A = A} (Some other) (Err fault) → fault ≡ other
same_error fault other h = cc

module _ (A B : Type 0) where
  -- a session that is not refused had not asked for this lock before
  pub was-absent : (has : Bool) (count : ℕ) (a : A) → RefusesFor {A = A} (refusal_for has count) (Ok a) → has ≡ false
  was-absent true count a refuses = absurd (never AlreadyRequested a refuses)
  was-absent false count a refuses = refl

  pub goes-on : (o : Option LockFault) (a : A) (b : B) → RefusesFor {A = A} o (Ok a) → RefusesFor {A = B} o (Ok b)
  goes-on None a b refuses = tt
  goes-on (Some fault) a b refuses = absurd (never fault a refuses)

  pub memory-later : (o : Option LockFault) (a : A) → RefusesFor {A = A} o (Ok a) → RefusesFor {A = B} o (Err Memory)
  memory-later None a refuses = refl
  memory-later (Some fault) a refuses = absurd (never fault a refuses)

  pub same-fault : (o : Option LockFault) (fault : LockFault) → RefusesFor {A = A} o (Err fault) → RefusesFor {A = B} o (Err fault)
  same-fault None fault refuses = refuses
  same-fault (Some other) fault refuses = ap (λ f. Err f) (same_error fault other refuses)
