-- What is prepared before the store is asked.
use Rattle.std.specs.Prelude.{◌≡◌, ℕ, ◌+◌, List, [], ◌∷◌, ◌++◌, map, Bool, true, false}
use Rattle.std.specs.List.{flat_map}
use Rattle.serde_json.specs.Data.{Data, Items, array}
use Rattle.ov_stored.specs.Changing.{Delta, applied}
use Rattle.ov_db.specs.KeptDatabase.{KeptDatabase}
use Rattle.ov_db.specs.declared.answer.StoreAnswer.{StoreAnswer}
use Rattle.ov_db.specs.declared.answer.StoreAnswer.TheVariants as store
use Rattle.ov_outbox.specs.Frames.{WaitingFrames, PostsFrame, PostsSent, HasSameFrames, places_for, count_for, posted}
use Rattle.ov_specs.specs.wire.Frame.{frame, reply_tree}
use Rattle.ov_specs.specs.machine.Machine.{Sent, to_session, updates_sent}
use Rattle.ov_specs.specs.monitors.Updates.{all_updates, update_notification}
use Rattle.ov_specs.specs.rows.Database.{Database}
use Rattle.ov_watch.specs.Watching.{Watching, monitors_at}
use Rattle.ov_specs.specs.operations.Transaction.{and_item}
use Rattle.ov_txn.specs.declared.ready.Replies.{Replies}
use Rattle.ov_txn.specs.declared.tried.Tried.{Tried}
use Rattle.ov_txn.specs.declared.tried.Tried.TheVariants.{Answer, Stored, Blocked, NoMemory}
use Rattle.ov_live.specs.States.{machine_sessions}
use Rattle.ov_history.specs.declared.event.Outcome.{Outcome}
use Rattle.ov_history.specs.declared.event.Outcome.TheVariants as outcome
use Rattle.ov_live.specs.declared.frames.Frames.{Frames}
use Rattle.ov_live.specs.declared.replying.Replying.{Replying}

-- the frames of the replies, for each answer of the store
pub record AreFrames (id : Data) (replies : Replies) (frames : Frames) : Type 0 where
  pub kept : frames.kept ≡ frame (reply_tree id (array replies.kept))
  pub exhausted : frames.exhausted ≡ frame (reply_tree id (array (and_item replies.kept replies.exhausted)))
  pub failed : frames.failed ≡ frame (reply_tree id (array (and_item replies.kept replies.failed)))

-- these frames are prepared after the others, or an allocation failed
abbrev pub HasPrepared : List (ℕ × List ℕ) → Replying → Bool → Replying → Type 0
HasPrepared frames old true new = new.prepared ≡ old.prepared ++ frames
HasPrepared frames old false new = Unit {0}

-- As above; the same frames wait, and there is a place for each prepared frame.
pub record PreparesFrames (frames : List (ℕ × List ℕ)) (old : Replying) (ready : Bool) (new : Replying) : Type 0 where
  pub prepared : HasPrepared frames old ready new
  pub waits : HasSameFrames old.queues new.queues
  pub places : (other base : ℕ) → places_for other old.queues ≡ base + count_for other old.prepared
      → places_for other new.queues ≡ base + count_for other new.prepared
  pub same : new ≡ record old { queues = new.queues; prepared = new.prepared }

-- the frames of what is to be sent are prepared, or an allocation failed
abbrev pub PreparesMore : List Sent → Replying → Bool → Replying → Type 0
PreparesMore sent old ready new = PreparesFrames (map posted sent) old ready new

-- the updates that the monitors of one session receive, by its serial
abbrev pub updates_to_one : Database → Database → Watching → ℕ → List Sent
updates_to_one before after watching serial =
    to_session serial (map update_notification (all_updates before after (monitors_at serial watching)))

-- those that the monitors of these sessions receive, session by session
abbrev pub updates_to : Database → Database → Watching → List ℕ → List Sent
updates_to before after watching serials = flat_map (updates_to_one before after watching) serials

-- what is sent if a commit is kept: the updates, then the reply
abbrev pub frames_of_commit : {K : Type 0} → Replying → KeptDatabase K → Delta → Items → List (ℕ × List ℕ)
frames_of_commit old db delta results =
    map posted
    (updates_sent db.committed (applied delta db.committed)
    (machine_sessions old.audience.watchers.now old.audience.sessions.now.open_sessions))
    ++ (old.session, frame (reply_tree old.id.now (array results))) ∷ []

-- all of it is prepared, and the other replies are at hand
pub record IsPrepared {K : Type 0} (old : Replying) (db : KeptDatabase K) (delta : Delta) (replies : Replies)
    (new : Replying) : Type 0 where
  pub prepared : new.prepared ≡ old.prepared ++ frames_of_commit old db delta replies.kept
  pub exhausted : new.exhausted ≡ frame (reply_tree old.id.now (array (and_item replies.kept replies.exhausted)))
  pub failed : new.failed ≡ frame (reply_tree old.id.now (array (and_item replies.kept replies.failed)))

-- all is ready, or an allocation failed
abbrev pub IsPreparedWhere : {K : Type 0} → Replying → KeptDatabase K → Delta → Replies → Bool → Replying → Type 0
IsPreparedWhere old db delta replies true new = IsPrepared old db delta replies new
IsPreparedWhere old db delta replies false new = Unit {0}

-- As above; the same frames wait, and there is a place for each prepared frame.
pub record Prepares {K : Type 0} (old : Replying) (db : KeptDatabase K) (delta : Delta) (replies : Replies)
    (ready : Bool) (new : Replying) : Type 0 where
  pub prepared : IsPreparedWhere old db delta replies ready new
  pub waits : HasSameFrames old.queues new.queues
  pub places : (other base : ℕ) → places_for other old.queues ≡ base + count_for other old.prepared
      → places_for other new.queues ≡ base + count_for other new.prepared

-- ---- what an answer of the store leads to

-- the outcome of this answer
abbrev pub outcome_after : StoreAnswer → Outcome
outcome_after store.Kept = outcome.Committed
outcome_after store.Exhausted = outcome.Exhausted
outcome_after store.Failed = outcome.Failed

-- The last prepared frame is replaced by this one, which alone is sent.
abbrev pub SendsInstead : List (ℕ × List ℕ) → List ℕ → WaitingFrames → WaitingFrames → Type 0
SendsInstead prepared frame old new =
    (front : List (ℕ × List ℕ)) (session : ℕ) (former : List ℕ) → prepared ≡ front ++ (session, former) ∷ []
    → PostsFrame session frame old new

-- By the store's answer, all that was prepared is sent, or one of these frames in place of the last; if it was not asked,
-- nothing is sent.
abbrev pub SendsPrepared : Tried → List (ℕ × List ℕ) → List ℕ → List ℕ → WaitingFrames → WaitingFrames → Type 0
SendsPrepared (Stored store.Kept) prepared exhausted failed old new =
    (sent : List Sent) → prepared ≡ map posted sent → PostsSent sent old new
SendsPrepared (Stored store.Exhausted) prepared exhausted failed old new = SendsInstead prepared exhausted old new
SendsPrepared (Stored store.Failed) prepared exhausted failed old new = SendsInstead prepared failed old new
SendsPrepared (Answer results) prepared exhausted failed old new = HasSameFrames old new
SendsPrepared (Blocked timeout) prepared exhausted failed old new = HasSameFrames old new
SendsPrepared NoMemory prepared exhausted failed old new = HasSameFrames old new
