-- What each call makes of the map of queues, as the definitions have it.
use Rattle.std.proofs.Common.{◌≡◌, ℕ, List, [], ◌∷◌, ◌++◌, Bool, true, false, cond, Option, Some, None, option_map, refl, sym, ap, subst, ◌∙◌, String, string_bytes, Global}
use Rattle.std.proofs.lemmas.Map.Steps.{set_value_same}
use Rattle.std.specs.BTreeMap.{insert_entry}
use Rattle.std.specs.List.Sorted.{IsStrictlySortedBy}
use Rattle.std.specs.Map.{keys_of, lookup, set_value}
use Rattle.std.specs.Prelude.{unwrap_or}
use Rattle.ov_specs.specs.locks.Queues.{first_of, owner, with_queue, without, lock, steal, unlock, next_in, next_owner, locked_notification}
use Rattle.ov_specs.specs.schema.SchemaTypes.{name_cmp}
use Rattle.ov_specs.specs.wire.Frame.{frame}
use Rattle.ov_locks.specs.Freeing.{owner_notified}
use Rattle.ov_locks.specs.Queued.{Queue, sessions_of, queues_of, AreToldOf, AllAreTold}
use Rattle.ov_locks.proofs.Named.{Entries, text_order, text_is, queue-found, insert-queues, out-queues, set-queues, out-set, told-insert, told-set, told-found}
use Rattle.ov_locks.proofs.Sessions.{waiting-back, told-back}

first_in : (o : Option Queue) → first_of (unwrap_or (option_map sessions_of o) []) ≡ option_map (λ q. q.0) o
first_in None = refl
first_in (Some q) = refl

-- the owner is that of the queue that is found
pub owner-found : (name : List ℕ) (es : Entries) (o : Option Queue) → o ≡ lookup (text_is name) es → owner name (queues_of es) ≡ option_map (λ q. q.0) o
owner-found name es o found = ap first_of (queue-found name es o found) ∙ first_in o

module _ (name : List ℕ) (session : ℕ) (es : Entries) where
  -- ---- a lock that no session has asked for

  module _ (k : String Global) (q : Queue) (is : string_bytes k ≡ name) (first : q ≡ (session, [])) where
    put-first : queues_of (insert_entry text_order es k q) ≡ insert_entry name_cmp (queues_of es) name (session ∷ [])
    put-first = insert-queues k q es ∙ (λ i. insert_entry name_cmp (queues_of es) (is i) (sessions_of (first i)))

    pub first-locks : None ≡ lookup (text_is name) es → queues_of (insert_entry text_order es k q) ≡ lock name session (queues_of es)
    first-locks none = put-first ∙ sym (ap (λ queue. with_queue name (queue ++ session ∷ []) (queues_of es)) (queue-found name es None none))

    pub first-steals : None ≡ lookup (text_is name) es → queues_of (insert_entry text_order es k q) ≡ steal name session (queues_of es)
    first-steals none = put-first ∙ sym (ap (λ queue. with_queue name (session ∷ queue) (queues_of es)) (queue-found name es None none))

    pub first-told : AllAreTold es → AllAreTold (insert_entry text_order es k q)
    first-told all = told-insert k q es all (subst (λ (p : Queue). AreToldOf (string_bytes k) p.1) (sym first) tt)

  -- ---- a lock with a queue

  module _ (q : Queue) (found : Some q ≡ lookup (text_is name) es) where
    pub same-told : AllAreTold es → (new : Queue) → new ≡ q → AllAreTold (set_value (text_is name) es new)
    same-told all new is = told-set name new es all (subst (λ (p : Queue). AreToldOf name p.1) (sym is) (told-found name q es all found))

    pub same-queues : (new : Queue) → new ≡ q → queues_of (set_value (text_is name) es new) ≡ queues_of es
    same-queues new is = ap queues_of (ap (set_value (text_is name) es) is ∙ set_value_same (text_is name) es q (sym found))

    pub waits-told : AllAreTold es → (new : Queue) → new ≡ (q.0, q.1 ++ (session, frame (locked_notification name)) ∷ []) → AllAreTold (set_value (text_is name) es new)
    waits-told all new is = told-set name new es all (subst (λ (p : Queue). AreToldOf name p.1) (sym is) (told-back name q.1 session (told-found name q es all found)))

    pub waits-locks : IsStrictlySortedBy text_order (keys_of es) → (new : Queue) → new ≡ (q.0, q.1 ++ (session, frame (locked_notification name)) ∷ [])
        → queues_of (set_value (text_is name) es new) ≡ lock name session (queues_of es)
    waits-locks ascend new is =
        set-queues name new q es ascend found ∙ ap (insert_entry name_cmp (queues_of es) name) (ap sessions_of is ∙ ap (λ ss. q.0 ∷ ss) (waiting-back q.1 session (frame (locked_notification name))))
        ∙ sym (ap (λ queue. with_queue name (queue ++ session ∷ []) (queues_of es)) (queue-found name es (Some q) found))

    pub stolen-told : AllAreTold es → (new : Queue) → new ≡ (session, (q.0, frame (locked_notification name)) ∷ q.1) → AllAreTold (set_value (text_is name) es new)
    stolen-told all new is = told-set name new es all (subst (λ (p : Queue). AreToldOf name p.1) (sym is) (refl, told-found name q es all found))

    pub steals-steals : IsStrictlySortedBy text_order (keys_of es) → (new : Queue) → new ≡ (session, (q.0, frame (locked_notification name)) ∷ q.1)
        → queues_of (set_value (text_is name) es new) ≡ steal name session (queues_of es)
    steals-steals ascend new is =
        set-queues name new q es ascend found ∙ ap (insert_entry name_cmp (queues_of es) name) (ap sessions_of is)
        ∙ sym (ap (λ queue. with_queue name (session ∷ queue) (queues_of es)) (queue-found name es (Some q) found))

    -- the session has left the queue, which goes if nobody is left in it
    pub leaves-unlocks : IsStrictlySortedBy text_order (keys_of es) → (new : Queue) (b : Bool) → cond b [] (sessions_of new) ≡ without session (sessions_of q)
        → cond b (with_queue name [] (queues_of (set_value (text_is name) es new))) (queues_of (set_value (text_is name) es new)) ≡ unlock name session (queues_of es)
    leaves-unlocks ascend new b left = by b left ∙ sym (ap (λ queue. with_queue name (without session queue) (queues_of es)) (queue-found name es (Some q) found))
      where
        by : (b : Bool) → cond b [] (sessions_of new) ≡ without session (sessions_of q)
            → cond b (with_queue name [] (queues_of (set_value (text_is name) es new))) (queues_of (set_value (text_is name) es new)) ≡ with_queue name (without session (sessions_of q)) (queues_of es)
        by true none =
            sym (out-queues name (set_value (text_is name) es new)) ∙ ap queues_of (out-set name new es) ∙ out-queues name es
            ∙ ap (λ queue. with_queue name queue (queues_of es)) none
        by false rest = set-queues name new q es ascend found ∙ ap (λ queue. with_queue name queue (queues_of es)) rest

    pub next-found : next_owner name session (queues_of es) ≡ next_in session (sessions_of q)
    next-found = ap (next_in session) (queue-found name es (Some q) found)

  -- ---- nobody leaves a lock that no session has asked for

  module _ (none : None ≡ lookup (text_is name) es) where
    pub none-unlocks : with_queue name [] (queues_of es) ≡ unlock name session (queues_of es)
    none-unlocks = sym (ap (λ queue. with_queue name (without session queue) (queues_of es)) (queue-found name es None none))

    pub nobody-next : None ≡ owner_notified name (next_owner name session (queues_of es))
    nobody-next = sym (ap (λ queue. owner_notified name (next_in session queue)) (queue-found name es None none))
