-- What is prepared before the store is asked is what is sent after its answer.
use Rattle.std.proofs.Common.{◌≡◌, ℕ, ◌+◌, ◌≤◌, List, [], ◌∷◌, ◌++◌, map, refl, sym, ap, subst, ◌∙◌, true, inl, inr, Option, Some, arith}
use Rattle.std.proofs.lemmas.List.{map-append}
use Rattle.serde_json.specs.Data.{Data, Items, array}
use Rattle.ov_stored.specs.Changing.{Delta, applied}
use Rattle.ov_db.specs.KeptDatabase.{KeptDatabase}
use Rattle.ov_db.specs.declared.answer.StoreAnswer.{StoreAnswer}
use Rattle.ov_db.specs.declared.answer.StoreAnswer.TheVariants as store
use Rattle.ov_outbox.specs.Frames.{WaitingFrames, HasSameFrames, PostsSent, TakesPlaces, waiting_for, places_for, count_for, posted}
use Rattle.ov_outbox.specs.Waits.{HasPlaces}
use Rattle.ov_specs.specs.locks.Queues.{Queues}
use Rattle.ov_specs.specs.machine.Machine as machine
use Rattle.ov_specs.specs.machine.Machine.{Sent, results_to, updates_sent}
use Rattle.ov_specs.specs.operations.Transaction.{TransactionOutcome, Waits, exhausted_results, failed_results}
use Rattle.ov_specs.specs.wire.Frame.{frame, reply_tree}
use Rattle.ov_txn.specs.Attempting.{AttemptState, IsTried}
use Rattle.ov_txn.specs.Replying.{replies_with}
use Rattle.ov_txn.specs.declared.tried.Tried.{Tried}
use Rattle.ov_txn.specs.declared.tried.Tried.TheVariants.{Answer, Stored, Blocked, NoMemory}
use Rattle.ov_live.specs.Handling.{PostsIfRoom, IsTrial}
use Rattle.ov_live.specs.Preparing.{IsPrepared, Prepares, SendsPrepared, outcome_after}
use Rattle.ov_live.specs.States.{machine_sessions}
use Rattle.ov_live.specs.declared.attempt.Trial.TheVariants.{Done}
use Rattle.ov_history.specs.declared.event.Outcome.{Outcome}
use Rattle.ov_live.specs.declared.replying.Replying.{Replying}
use Rattle.ov_outbox.proofs.Answered.{sends_results, posts_after}
use Rattle.ov_live.proofs.Workings.{request, trial_state, answers, posts_from, sent_after, stored}

-- ---- what an attempt leaves of what was prepared

-- what an attempt may change
abbrev pub attempt_state : {K : Type 0} → KeptDatabase K → Replying → AttemptState K Replying
attempt_state database ready = record { database = database; ready = ready }

module _ {K : Type 0} (outcome : TransactionOutcome) (old : KeptDatabase K) (was : Replying) (none : was.prepared ≡ []) where
  more_places : (is : Replying) (other : ℕ) → ((base : ℕ) → places_for other was.queues ≡ base + count_for other was.prepared → places_for other is.queues ≡ base + count_for other is.prepared)
      → places_for other is.queues ≡ places_for other was.queues + count_for other is.prepared
  more_places is other h = h (places_for other was.queues) (omega (arith, ap (count_for other) none))

  same_places : (is : Replying) (other : ℕ) → is ≡ was → places_for other is.queues ≡ places_for other was.queues + count_for other is.prepared
  same_places is other same = rw same (omega (arith, ap (count_for other) none))

  -- a place more for each frame that is prepared
  pub tried_places : (tried : Tried) (new : KeptDatabase K) (is : Replying) → IsTried Prepares outcome (attempt_state old was) tried (attempt_state new is) → (other : ℕ) → places_for other is.queues ≡ places_for other was.queues + count_for other is.prepared
  tried_places (Answer results) new is (same, still, answer) other = same_places is other still
  tried_places (Stored answer) new is (made, commits) other = more_places is other (made.made.places other)
  tried_places (Blocked timeout) new is (same, still, waits) other = same_places is other still
  tried_places NoMemory new is (same, inl still) other = same_places is other still
  tried_places NoMemory new is (same, inr made) other = more_places is other (made.made.places other)

  -- so that there is one for each of them
  pub tried_room : (tried : Tried) (new : KeptDatabase K) (is : Replying) → IsTried Prepares outcome (attempt_state old was) tried (attempt_state new is) → (other : ℕ) → count_for other is.prepared ≤ places_for other is.queues
  tried_room tried new is h other = omega (arith, tried_places tried new is h other)

  -- and after them the places that were kept before
  pub tried_keeps : (tried : Tried) (new : KeptDatabase K) (is : Replying) → IsTried Prepares outcome (attempt_state old was) tried (attempt_state new is) → (queues : Queues) (left : WaitingFrames) → HasPlaces was.queues queues → TakesPlaces is.prepared is.queues left → HasPlaces left queues
  tried_keeps tried new is h queues left room takes session = omega (arith, tried_places tried new is h session, takes session, room session)

  -- and the same frames wait
  pub tried_waits : (tried : Tried) (new : KeptDatabase K) (is : Replying) → IsTried Prepares outcome (attempt_state old was) tried (attempt_state new is) → HasSameFrames was.queues is.queues
  tried_waits (Answer results) new is (same, still, answer) = rw still (λ other. refl)
  tried_waits (Stored answer) new is (made, commits) = made.made.waits
  tried_waits (Blocked timeout) new is (same, still, waits) = rw still (λ other. refl)
  tried_waits NoMemory new is (same, inl still) = rw still (λ other. refl)
  tried_waits NoMemory new is (same, inr made) = made.made.waits

-- ---- what is sent by the store's answer

module _ {K : Type 0} (ms : List machine.Session) (n : ℕ) (id : Data) (results : Items) (old : KeptDatabase K) (delta : Delta) (was is : Replying) (waits : WaitingFrames)
    (none : was.prepared ≡ []) (session : was.session ≡ n) (id_is : was.id.now ≡ id) (sessions : machine_sessions was.audience.watchers.now was.audience.sessions.now.open_sessions ≡ ms)
    (prepared : IsPrepared was old delta (replies_with results) is) where
  abbrev updates : List Sent
  updates = updates_sent old.committed (applied delta old.committed) ms

  -- the frames that were prepared
  frames_are : is.prepared ≡ map posted updates ++ (n, frame (reply_tree id (array results))) ∷ []
  frames_are = prepared.prepared ∙ rw (none, session, id_is, sessions) refl

  pub sent_by : (answer : StoreAnswer) → SendsPrepared (Stored answer) is.prepared is.exhausted is.failed is.queues waits → PostsSent (sent_after answer ms n id results old delta) is.queues waits
  sent_by store.Kept sends = sends (updates ++ results_to n id results) (frames_are ∙ sym (map-append posted updates (results_to n id results)))
  sent_by store.Exhausted sends =
      sends_results n id (exhausted_results results) is.exhausted is.queues waits (prepared.exhausted ∙ rw id_is refl) (sends (map posted updates) n (frame (reply_tree id (array results))) frames_are)
  sent_by store.Failed sends =
      sends_results n id (failed_results results) is.failed is.queues waits (prepared.failed ∙ rw id_is refl) (sends (map posted updates) n (frame (reply_tree id (array results))) frames_are)

-- ---- the try as a whole

-- A transaction that is tried with these locks: what an attempt leaves, as it was prepared, is sent, and then waits.
module _ {K : Type 0} (ms : List machine.Session) (n : ℕ) (id : Data) (to : Queues → TransactionOutcome) (queues locks : Queues) (old new : KeptDatabase K) (was is : Replying) (tried : Tried) (waited left between : WaitingFrames)
    (locks_are : locks ≡ queues) (waited_is : was.queues ≡ waited) (left_is : between ≡ left)
    (was_tried : IsTried Prepares (to locks) (attempt_state old was) tried (attempt_state new is)) (sends : SendsPrepared tried is.prepared is.exhausted is.failed is.queues left) where
  tried_as : (t : Tried) → tried ≡ t → IsTried Prepares (to queues) (attempt_state old was) t (attempt_state new is)
  tried_as t same =
      subst (λ (u : Tried). IsTried Prepares (to queues) (attempt_state old was) u (attempt_state new is)) same (subst (λ (q : Queues). IsTried Prepares (to q) (attempt_state old was) tried (attempt_state new is)) locks_are was_tried)

  sends_as : (t : Tried) → tried ≡ t → SendsPrepared t is.prepared is.exhausted is.failed is.queues between
  sends_as t same =
      subst (λ (u : Tried). SendsPrepared u is.prepared is.exhausted is.failed is.queues between) same (subst (λ (w : WaitingFrames). SendsPrepared tried is.prepared is.exhausted is.failed is.queues w) (sym left_is) sends)

  waits_still : is ≡ was → HasSameFrames is.queues between → HasSameFrames waited between
  waits_still still same other = same other ∙ (ap (λ (r : Replying). waiting_for other r.queues) still ∙ ap (λ (w : WaitingFrames). waiting_for other w) waited_is)

  pub trial_answered : (results : Items) (o : Option Outcome) (waits : WaitingFrames) → tried ≡ Answer results → PostsIfRoom (results_to n id results) between o waits → IsTrial (request ms n id (to queues)) (trial_state old waited) (Done o) (trial_state new waits)
  trial_answered results o waits same posts =
      let t = tried_as (Answer results) same in
      let from = posts_from (results_to n id results) waited between o waits (waits_still t.1 (sends_as (Answer results) same)) posts in
      subst (λ (k : KeptDatabase K). IsTrial (request ms n id (to queues)) (trial_state old waited) (Done o) (trial_state k waits)) (sym t.0) (answers ms n id (to queues) results old o waited waits t.2 from)

  pub trial_stored : (answer : StoreAnswer) (o : Outcome) → tried ≡ Stored answer → o ≡ outcome_after answer → was.prepared ≡ [] → was.session ≡ n → was.id.now ≡ id
      → machine_sessions was.audience.watchers.now was.audience.sessions.now.open_sessions ≡ ms → IsTrial (request ms n id (to queues)) (trial_state old waited) (Done (Some o)) (trial_state new between)
  trial_stored answer o same o_is none session id_is sessions =
      let t = tried_as (Stored answer) same in
      let made = t.0 in
      let ready : Prepares was old made.delta (replies_with made.results) true is = made.made in
      let sent : PostsSent (sent_after answer ms n id made.results old made.delta) is.queues between =
      sent_by ms n id made.results old made.delta was is between none session id_is sessions ready.prepared answer (sends_as (Stored answer) same) in
      let waits : HasSameFrames waited is.queues = λ other. ready.waits other ∙ ap (λ (w : WaitingFrames). waiting_for other w) waited_is in
      subst (λ (u : Outcome). IsTrial (request ms n id (to queues)) (trial_state old waited) (Done (Some u)) (trial_state new between)) (sym o_is)
      (stored ms n id (to queues) made.results old new made.delta waited between made.completes made.changes made.unsealed answer t.1
      (posts_after (sent_after answer ms n id made.results old made.delta) waited is.queues between waits sent))

  pub trial_blocked : (timeout : Option ℕ) → tried ≡ Blocked timeout → (to queues ≡ Waits timeout) × (new ≡ old) × HasSameFrames waited between
  trial_blocked timeout same =
      let t = tried_as (Blocked timeout) same in
      (t.2, t.0, waits_still t.1 (sends_as (Blocked timeout) same))
