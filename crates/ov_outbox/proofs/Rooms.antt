-- The places that are kept for notifications, after each step of a call that asks for a lock or gives it up.
use Rattle.std.proofs.Common.{◌≡◌, ℕ, ◌+◌, ◌-◌, ◌≤◌, ◌<◌, List, [], ◌∷◌, ◌++◌, map, append_assoc, Bool, true, false, cond, eqb, Option, Some, None, option_map, refl, sym, ap, subst, ◌∙◌, arith}
use Rattle.std.specs.Prelude.{is_some, option_to_list, IfSome, Result, Ok, Err}
use Rattle.std.proofs.lemmas.Bool.{eqb-true, eq-eqb}
use Rattle.std.proofs.lemmas.List.Sums.{sum_by-cons}
use Rattle.ov_specs.specs.locks.Queues.{Queues, DoQueuesAscend, queue_of, has_requested, Unlock, owner, owns, lock, steal, unlock, next_owner, leave, freed, locked_notification, told_of_leaving}
use Rattle.ov_specs.specs.machine.Machine.{told}
use Rattle.ov_specs.specs.schema.Schema.{is_some_and}
use Rattle.ov_specs.specs.wire.Frame.{frame, reply_tree}
use Rattle.serde_json.specs.Data.{Data, object, no_members}
use Rattle.ov_locks.specs.Freeing as freeing
use Rattle.ov_locks.specs.declared.fault.LockFault.{LockFault}
use Rattle.ov_locks.specs.declared.fault.LockFault.TheVariants.{NotHeld}
use Rattle.ov_outbox.specs.Asking.{sent_of_call}
use Rattle.ov_outbox.specs.Frames.{WaitingFrames, places_for, count_for, posted, frames_for, waiting_for, HasSameFrames, PostsFrame, HasSamePlaces, KeepsPlace, KeepsTwoFor, GivesUpPlace, GivesUpPlaces, TakesPlaces, PostsAll, PostsSent}
use Rattle.ov_outbox.specs.Waits.{waits_of, HasPlaces}
use Rattle.ov_outbox.proofs.Releasing.{turned, HavePlaces, frames_for-first, posts_sent}
use Rattle.ov_outbox.proofs.Waiting.{one_for, waits-lock, waits-steal, waits-unlock, waiter-unlocks, next-not_first, waits-leave, leaver-waits}

-- what contracts see of a table of locks
abbrev pub TableValue : Type 0
TableValue = Queues × List (ℕ × List ℕ)

-- a session that waits nowhere needs no place
pub given_up-room : (s : ℕ) (queues : Queues) (old new : WaitingFrames) → HasPlaces old queues → waits_of s queues ≡ 0 → GivesUpPlaces s old new → HasPlaces new queues
given_up-room s queues old new room none given other = by (eqb other s) refl
  where
    by : (b : Bool) → eqb other s ≡ b → waits_of other queues ≤ places_for other new
    by true is = let zero : waits_of other queues ≡ 0 = ap (λ n. waits_of n queues) (eqb-true other s is) ∙ none in omega arith
    by false is =
        let same : places_for other new ≡ places_for other old = given other ∙ ap (λ b. cond b 0 (places_for other old)) is in
        let has = room other in
        omega arith

-- how many of at most one frame are for the session
count_for_notification : (other s : ℕ) (f : List ℕ) → count_for other ((s, f) ∷ []) ≡ cond (eqb s other) 1 0
count_for_notification other s f = let p : ℕ × List ℕ = (s, f) in sum_by-cons (λ (q : ℕ × List ℕ). cond {A = ℕ} (eqb q.0 other) 1 0) p [] ∙ omega arith

module _ (name : List ℕ) (s : ℕ) (queues : Queues) (ascend : DoQueuesAscend queues) (first : WaitingFrames) (room : HasPlaces first queues) where
  -- ---- lock

  module _ (kept sent : WaitingFrames) (keeps : KeepsTwoFor (Some s) first kept) (takes : GivesUpPlace s kept sent) (after : Queues) (is : after ≡ lock name s queues) where
    waits-after : (other : ℕ) → waits_of other after ≡ waits_of other queues + cond (is_some (owner name queues)) (cond (eqb other s) 1 0) 0
    waits-after other = ap (waits_of other) is ∙ waits-lock other name s queues ascend

    -- the session waits, and keeps one of the places
    pub waits-room : HasPlaces sent after
    waits-room other = by (is_some (owner name queues)) (waits-after other)
      where
        by : (b : Bool) → waits_of other after ≡ waits_of other queues + cond b (cond (eqb other s) 1 0) 0 → waits_of other after ≤ places_for other sent
        by true all = omega (arith, room other, keeps other, takes other)
        by false all = omega (arith, room other, keeps other, takes other)

    -- it is the owner, and gives up both
    pub owner-room : (end : WaitingFrames) → GivesUpPlace s sent end → is_some (owner name queues) ≡ false → HasPlaces end after
    owner-room end gives none other =
        let all : waits_of other after ≡ waits_of other queues + 0 = waits-after other ∙ ap (λ b. waits_of other queues + cond b (cond (eqb other s) 1 0) 0) none in
        omega (arith, room other, keeps other, takes other, gives other)

  -- ---- steal

  -- the former owner is notified in one of its two places
  pub told-room : (former : Option ℕ) (message : Option (ℕ × List ℕ)) (kept both sent end : WaitingFrames) → KeepsPlace s first kept → KeepsTwoFor former kept both → GivesUpPlace s both sent
      → TakesPlaces (option_to_list message) sent end → (f : List ℕ) → former ≡ owner name queues → message ≡ option_map (λ o. (o, f)) (owner name queues) → (after : Queues) → after ≡ steal name s queues → HasPlaces end after
  told-room former message kept both sent end keeps two takes tells f is message_is after after_is other =
      by (owner name queues) (ap (waits_of other) after_is ∙ waits-steal other name s queues ascend) (subst (λ (o : Option ℕ). KeepsTwoFor o kept both) is two)
      (subst (λ (n : Option (ℕ × List ℕ)). places_for other end + count_for other (option_to_list n) ≡ places_for other sent) message_is (tells other))
    where
      by : (o : Option ℕ) → waits_of other after ≡ waits_of other queues + one_for other o → KeepsTwoFor o kept both
          → places_for other end + count_for other (option_to_list (option_map (λ o. (o, f)) o)) ≡ places_for other sent → waits_of other after ≤ places_for other end
      by None all two last = omega (arith, room other, keeps other, two other, takes other)
      by (Some o) all two last =
          let one = count_for_notification other o f in
          let same : cond {A = ℕ} (eqb other o) 1 0 ≡ cond (eqb o other) 1 0 = ap (λ b. cond {A = ℕ} b 1 0) (turned other o) in
          omega (arith, room other, keeps other, two other, takes other)

  -- ---- unlock

  module _ (kept sent : WaitingFrames) (keeps : KeepsPlace s first kept) (takes : GivesUpPlace s kept sent) where
    -- the reply took its own place
    reply_taken : HasSamePlaces first sent
    reply_taken other = omega (arith, keeps other, takes other)

    -- the session that becomes the owner has a place
    pub next-place : (message : Option (ℕ × List ℕ)) → message ≡ freeing.owner_notified name (next_owner name s queues) → IfSome message (λ p. 0 < places_for p.0 sent)
    next-place message is = subst (λ (n : Option (ℕ × List ℕ)). IfSome n (λ p. 0 < places_for p.0 sent)) (sym is) (by (next_owner name s queues) (λ other. waits-unlock other name s queues ascend))
      where
        by : (o : Option ℕ) → ((other : ℕ) → waits_of other (unlock name s queues) + one_for other o ≤ waits_of other queues) → IfSome (freeing.owner_notified name o) (λ p. 0 < places_for p.0 sent)
        by None less = tt
        by (Some next) less =
            let here : waits_of next (unlock name s queues) + one_for next (Some next) ≤ waits_of next queues = less next in
            let one : one_for next (Some next) ≡ 1 = ap (λ b. cond {A = ℕ} b 1 0) (eq-eqb next next refl) in
            let has = room next in
            let same = reply_taken next in
            omega arith

    module _ (notification : Option (ℕ × List ℕ)) (is : notification ≡ freeing.owner_notified name (next_owner name s queues)) (end : WaitingFrames) (tells : TakesPlaces (option_to_list notification) sent end)
        (after : Queues) (after_is : after ≡ unlock name s queues) where
      count_is : (other : ℕ) (o : Option ℕ) → count_for other (option_to_list (freeing.owner_notified name o)) ≡ one_for other o
      count_is other None = refl
      count_is other (Some next) = count_for_notification other next (frame (locked_notification name))

      pub unlock-room : HasPlaces end after
      unlock-room other =
          let less : waits_of other after + one_for other (next_owner name s queues) ≤ waits_of other queues =
          subst (λ (q : Queues). waits_of other q + one_for other (next_owner name s queues) ≤ waits_of other queues) (sym after_is) (waits-unlock other name s queues ascend) in
          let last : places_for other end + one_for other (next_owner name s queues) ≡ places_for other sent =
          ap (λ n. places_for other end + n) (sym (ap (λ n. count_for other (option_to_list n)) is ∙ count_is other (next_owner name s queues))) ∙ tells other in
          let has = room other in
          let same = reply_taken other in
          omega arith

      -- one that waited gives up its place too
      pub waiter-room : has_requested s name queues ≡ true → owns queues s name ≡ false → (least : WaitingFrames) → GivesUpPlace s end least → HasPlaces least after
      waiter-room stands apart least gives other = by (eqb other s) refl (gives other)
        where
          not_owner : (o : Option ℕ) → is_some_and (λ first. eqb first s) o ≡ false → one_for s o ≡ 0
          not_owner None apart = refl
          not_owner (Some f) apart = ap (λ b. cond {A = ℕ} b 1 0) apart

          by : (t : Bool) → eqb other s ≡ t → places_for other least ≡ places_for other end - cond t 1 0 → waits_of other after ≤ places_for other least
          by true e given =
              let fewer : waits_of other after + 1 ≤ waits_of other queues =
              subst (λ n. waits_of n after + 1 ≤ waits_of n queues) (sym (eqb-true other s e))
              (subst (λ (q : Queues). waits_of s q + 1 ≤ waits_of s queues) (sym after_is) (waiter-unlocks name s queues ascend stands (not_owner (owner name queues) apart))) in
              let none : one_for s (next_owner name s queues) ≡ 0 = ap (one_for s) (next-not_first s (queue_of name queues) (not_owner (owner name queues) apart)) in
              let nobody : one_for other (next_owner name s queues) ≡ 0 = ap (λ n. one_for n (next_owner name s queues)) (eqb-true other s e) ∙ none in
              let last : places_for other end + one_for other (next_owner name s queues) ≡ places_for other sent =
              ap (λ n. places_for other end + n) (sym (ap (λ n. count_for other (option_to_list n)) is ∙ count_is other (next_owner name s queues))) ∙ tells other in
              let has = room other in
              let same = reply_taken other in
              omega arith
          by false e given = let has = unlock-room other in omega arith

-- ---- what is sent by unlock

-- a reply, and then the notification
pub replies : (s : ℕ) (f : List ℕ) (notifications : List (ℕ × List ℕ)) (first kept sent end : WaitingFrames) → HasSameFrames first kept → PostsFrame s f kept sent → PostsAll notifications sent end → PostsAll ((s, f) ∷ notifications) first end
replies s f notifications first kept sent end same added all other =
    all other ∙ ap (λ fs. fs ++ frames_for other notifications) (added other ∙ ap (λ fs. fs ++ cond (eqb other s) (f ∷ []) []) (same other))
    ∙ append_assoc (waiting_for other first) _ (frames_for other notifications) ∙ ap (λ fs. waiting_for other first ++ fs) (sym (frames_for-first other s f notifications))

unlock-posted : (s : ℕ) (id : Data) (name : List ℕ) (o : Option ℕ) → (s, frame (reply_tree id (object no_members))) ∷ option_to_list (freeing.owner_notified name o)
    ≡ map posted (record { session = s; tree = reply_tree id (object no_members) } ∷ told (option_to_list (option_map (λ next. (next, locked_notification name)) o)))
unlock-posted s id name None = refl
unlock-posted s id name (Some next) = refl

pub unlock-sends : (s : ℕ) (id : Data) (name : List ℕ) (queues : Queues) (reply : List ℕ) (notification : Option (ℕ × List ℕ)) (first kept sent end : WaitingFrames)
    → reply ≡ frame (reply_tree id (object no_members)) → notification ≡ freeing.owner_notified name (next_owner name s queues)
    → HasSameFrames first kept → PostsFrame s reply kept sent → PostsAll (option_to_list notification) sent end → PostsSent (sent_of_call (record { call = Unlock; session = s; id = id; name = name }) queues) first end
unlock-sends s id name queues reply notification first kept sent end reply_is notification_is same added all =
    posts_sent ((s, reply) ∷ option_to_list notification) first end (replies s reply (option_to_list notification) first kept sent end same added all) (sent_of_call (record { call = Unlock; session = s; id = id; name = name }) queues)
    ((λ i. (s, reply_is i) ∷ option_to_list (notification_is i)) ∙ unlock-posted s id name (next_owner name s queues))

-- what the answer of a table says
pub unlocks : (b : Bool) (next to : Option (ℕ × List ℕ)) (result : Result (Option (ℕ × List ℕ)) LockFault) → result ≡ Ok next → result ≡ cond b (Ok to) (Err NotHeld) → (b ≡ true) × (next ≡ to)
unlocks true next to result was is = (refl, cc)
unlocks false next to result was is = absurd cc

-- ---- leaving

count_for-told : (other : ℕ) (freed : List (ℕ × List ℕ)) → count_for other (freeing.owners_notified freed) ≡ count_for other freed
count_for-told other [] = refl
count_for-told other (p ∷ freed) =
    sum_by-cons _ (p.0, frame (locked_notification p.1)) (freeing.owners_notified freed) ∙ ap (λ n. cond (eqb p.0 other) 1 0 + n) (count_for-told other freed) ∙ sym (sum_by-cons _ p freed)

told_all-posted : (freed : List (ℕ × List ℕ)) → freeing.owners_notified freed ≡ map posted (told (map (λ f. (f.0, locked_notification f.1)) freed))
told_all-posted [] = refl
told_all-posted (p ∷ freed) = ap (λ ps. (p.0, frame (locked_notification p.1)) ∷ ps) (told_all-posted freed)

module _ (s : ℕ) (queues : Queues) (ascend : DoQueuesAscend queues) (first : WaitingFrames) (room : HasPlaces first queues) where
  pub freed-places : HavePlaces (freeing.owners_notified (freed s queues)) first
  freed-places other =
      let has = room other in
      let less = waits-leave other s queues ascend in
      let count = count_for-told other (freed s queues) in
      omega arith

  module _ (mid : WaitingFrames) (takes : TakesPlaces (freeing.owners_notified (freed s queues)) first mid) (end : WaitingFrames) (gives : GivesUpPlaces s mid end) where
    pub leave-room : HasPlaces end (leave s queues)
    leave-room =
        given_up-room s (leave s queues) mid end
        (λ other.
        let has = room other in
        let less = waits-leave other s queues ascend in
        let count = count_for-told other (freed s queues) in
        let taken = takes other in
        omega arith)
        (leaver-waits s queues ascend) gives

pub leaving-posts : (s : ℕ) (queues : Queues) (first mid end : WaitingFrames) → PostsAll (freeing.owners_notified (freed s queues)) first mid → HasSameFrames mid end → PostsSent (told (told_of_leaving s queues)) first end
leaving-posts s queues first mid end all same =
    posts_sent (freeing.owners_notified (freed s queues)) first end (λ other. same other ∙ all other) (told (told_of_leaving s queues)) (told_all-posted (freed s queues))

-- the notified sessions, if none was to be notified before
pub left : (s : ℕ) (old new : TableValue) → new ≡ (leave s old.0, old.1 ++ freeing.owners_notified (freed s old.0)) → old.1 ≡ [] → new.1 ≡ freeing.owners_notified (freed s old.0)
left s old new is none = ap (λ (t : TableValue). t.1) is ∙ ap (λ ps. ps ++ freeing.owners_notified (freed s old.0)) none
