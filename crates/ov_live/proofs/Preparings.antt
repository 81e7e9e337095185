-- What is prepared before the store is asked, frame by frame.
use Rattle.std.proofs.Common.{◌≡◌, ℕ, List, [], ◌∷◌, ◌++◌, map, refl, sym, ap, subst, ◌∙◌, Bool, true, false, append_assoc}
use Rattle.std.proofs.lemmas.List.{append-nil, map-append}
use Rattle.serde_json.specs.Data.{Items}
use Rattle.ov_stored.specs.Changing.{Delta, applied}
use Rattle.ov_db.specs.KeptDatabase.{KeptDatabase}
use Rattle.ov_outbox.specs.Frames.{posted}
use Rattle.ov_specs.specs.machine.Machine.{Sent, to_session, updates_sent}
use Rattle.ov_specs.specs.monitors.Updates.{update_notification}
use Rattle.ov_specs.specs.rows.Database.{Database}
use Rattle.ov_sessions.specs.declared.session.Session.{Session}
use Rattle.ov_txn.specs.declared.ready.Replies.{Replies}
use Rattle.ov_watch.specs.Watching.{Watching}
use Rattle.ov_live.specs.Preparing.{AreFrames, HasPrepared, IsPreparedWhere, Prepares, PreparesFrames, PreparesMore, updates_to, updates_to_one}
use Rattle.ov_live.specs.States.{machine_sessions}
use Rattle.ov_live.specs.declared.frames.Frames.{Frames}
use Rattle.ov_live.specs.declared.replying.Replying.{Replying}

-- nothing more
pub prepares_nothing : (r : Replying) → PreparesFrames [] r true r
prepares_nothing r = record { prepared = sym (append-nil r.prepared); waits = λ other. refl; places = λ other base h. h; same = refl }

-- some, and then others
pub prepares_then : (xs ys : List (ℕ × List ℕ)) (a b c : Replying) (ok : Bool) → PreparesFrames xs a true b → PreparesFrames ys b ok c → PreparesFrames (xs ++ ys) a ok c
prepares_then xs ys a b c ok one two = record {
  prepared = by ok two.prepared;
  waits = λ other. two.waits other ∙ one.waits other;
  places = λ other base h. two.places other base (one.places other base h);
  same = two.same ∙ ap (λ (r : Replying). record r { queues = c.queues; prepared = c.prepared }) one.same;
}
  where
    by : (ok : Bool) → HasPrepared ys b ok c → HasPrepared (xs ++ ys) a ok c
    by true h = h ∙ (ap (λ fs. fs ++ ys) one.prepared ∙ append_assoc a.prepared xs ys)
    by false h = tt

-- an allocation failed before the others
pub prepares_refused : (xs ys : List (ℕ × List ℕ)) (a b : Replying) → PreparesFrames xs a false b → PreparesFrames (xs ++ ys) a false b
prepares_refused xs ys a b one = record { prepared = tt; waits = one.waits; places = one.places; same = one.same }

-- an update of one session, and then the others
pub update_then : (s : ℕ) (p : Items) (rest all : List Items) (a b c : Replying) (ok : Bool) → all ≡ p ∷ rest → PreparesMore (to_session s (update_notification p ∷ [])) a true b → PreparesMore (to_session s (map update_notification rest)) b ok c
    → PreparesMore (to_session s (map update_notification all)) a ok c
update_then s p rest all a b c ok is one two =
    subst (λ (xs : List Items). PreparesMore (to_session s (map update_notification xs)) a ok c) (sym is) (prepares_then (map posted (to_session s (update_notification p ∷ []))) (map posted (to_session s (map update_notification rest))) a b c ok one two)

pub update_refused : (s : ℕ) (p : Items) (rest all : List Items) (a b : Replying) → all ≡ p ∷ rest → PreparesMore (to_session s (update_notification p ∷ [])) a false b → PreparesMore (to_session s (map update_notification all)) a false b
update_refused s p rest all a b is one =
    subst (λ (xs : List Items). PreparesMore (to_session s (map update_notification xs)) a false b) (sym is) (prepares_refused (map posted (to_session s (update_notification p ∷ []))) (map posted (to_session s (map update_notification rest))) a b one)

pub no_updates : (s : ℕ) (all : List Items) (a : Replying) → all ≡ [] → PreparesMore (to_session s (map update_notification all)) a true a
no_updates s all a is = subst (λ (xs : List Items). PreparesMore (to_session s (map update_notification xs)) a true a) (sym is) (prepares_nothing a)

pub updates_as : (s : ℕ) (all others : List Items) (a b : Replying) (ok : Bool) → all ≡ others → PreparesMore (to_session s (map update_notification all)) a ok b → PreparesMore (to_session s (map update_notification others)) a ok b
updates_as s all others a b ok is h = subst (λ (xs : List Items). PreparesMore (to_session s (map update_notification xs)) a ok b) is h

-- the updates of one session, and then the others
pub session_then : (before after : Database) (w v : Watching) (n : ℕ) (rest all : List ℕ) (a b c : Replying) (ok : Bool) → all ≡ n ∷ rest → v ≡ w → PreparesMore (updates_to_one before after v n) a true b → PreparesMore (updates_to before after w rest) b ok c
    → PreparesMore (updates_to before after w all) a ok c
session_then before after w v n rest all a b c ok is same one two =
    subst (λ (xs : List ℕ). PreparesMore (updates_to before after w xs) a ok c) (sym is) (subst (λ (fs : List (ℕ × List ℕ)). PreparesFrames fs a ok c) (sym (map-append posted (updates_to_one before after w n) (updates_to before after w rest)))
    (prepares_then (map posted (updates_to_one before after w n)) (map posted (updates_to before after w rest)) a b c ok (subst (λ (u : Watching). PreparesMore (updates_to_one before after u n) a true b) same one) two))

pub session_refused : (before after : Database) (w v : Watching) (n : ℕ) (rest all : List ℕ) (a b : Replying) → all ≡ n ∷ rest → v ≡ w → PreparesMore (updates_to_one before after v n) a false b → PreparesMore (updates_to before after w all) a false b
session_refused before after w v n rest all a b is same one =
    subst (λ (xs : List ℕ). PreparesMore (updates_to before after w xs) a false b) (sym is) (subst (λ (fs : List (ℕ × List ℕ)). PreparesFrames fs a false b) (sym (map-append posted (updates_to_one before after w n) (updates_to before after w rest)))
    (prepares_refused (map posted (updates_to_one before after w n)) (map posted (updates_to before after w rest)) a b (subst (λ (u : Watching). PreparesMore (updates_to_one before after u n) a false b) same one)))

pub no_sessions : (before after : Database) (w : Watching) (all : List ℕ) (a : Replying) → all ≡ [] → PreparesMore (updates_to before after w all) a true a
no_sessions before after w all a is = subst (λ (xs : List ℕ). PreparesMore (updates_to before after w xs) a true a) (sym is) (prepares_nothing a)

-- the updates of the monitors of these sessions, by their serials
pub updates_are : (before after : Database) (w : Watching) (sessions : List Session) → updates_sent before after (machine_sessions w sessions) ≡ updates_to before after w (map (λ n. n.serial) sessions)
updates_are before after w [] = refl
updates_are before after w (n ∷ sessions) = ap (λ rest. updates_to_one before after w n.serial ++ rest) (updates_are before after w sessions)

pub sent_to : (before after : Database) (w : Watching) (sessions : List Session) (serials : List ℕ) (a b : Replying) (ok : Bool) → serials ≡ map (λ n. n.serial) sessions → PreparesMore (updates_to before after w serials) a ok b → PreparesMore (updates_sent before after (machine_sessions w sessions)) a ok b
sent_to before after w sessions serials a b ok is h =
    subst (λ (sent : List Sent). PreparesMore sent a ok b) (ap (updates_to before after w) is ∙ sym (updates_are before after w sessions)) h

-- ---- all of it

-- the updates and then the reply, with the other replies at hand
module _ {K : Type 0} (old b new : Replying) (f : Frames) (db : KeptDatabase K) (delta : Delta) (replies : Replies) (are : AreFrames old.id.now replies f) where
  abbrev updates : List Sent
  updates = updates_sent db.committed (applied delta db.committed) (machine_sessions old.audience.watchers.now old.audience.sessions.now.open_sessions)

  abbrev at_hand : Replying
  at_hand = record old { exhausted = f.exhausted; failed = f.failed }

  by_ready : (ready : Bool) → PreparesFrames (map posted updates ++ (old.session, f.kept) ∷ []) at_hand ready new → IsPreparedWhere old db delta replies ready new
  by_ready true h = record {
    prepared = h.prepared ∙ ap (λ (bytes : List ℕ). old.prepared ++ (map posted updates ++ (old.session, bytes) ∷ [])) are.kept;
    exhausted = ap (λ (r : Replying). r.exhausted) h.same ∙ are.exhausted;
    failed = ap (λ (r : Replying). r.failed) h.same ∙ are.failed;
  }
  by_ready false h = tt

  pub all_prepared : (ready : Bool) → PreparesMore updates at_hand true b → PreparesFrames ((old.session, f.kept) ∷ []) b ready new → Prepares old db delta replies ready new
  all_prepared ready one two =
      let h = prepares_then (map posted updates) ((old.session, f.kept) ∷ []) at_hand b new ready one two in
      record { prepared = by_ready ready h; waits = h.waits; places = h.places }
