-- How sessions open and close in the live state.
use Rattle.std.specs.Prelude.{◌≡◌, ℕ, [], false}
use Rattle.ov_outbox.specs.Frames.{waiting_for, has_queue, PostsSent}
use Rattle.ov_sessions.specs.Sessions.{OpensSession, without_serial}
use Rattle.ov_watch.specs.Watching.{WatchesWith}
use Rattle.ov_sessions.specs.declared.session.Session.{Session}
use Rattle.ov_specs.specs.locks.Queues.{leave, told_of_leaving}
use Rattle.ov_specs.specs.machine.Machine.{of_others, told}
use Rattle.ov_live.specs.declared.live.Live.{Live}

-- the session was opened, and has no monitors
pub record OpensLive {K : Type 0} (old : Live K) (session : Session) (new : Live K) : Type 0 where
  pub opens : OpensSession old.sessions session new.sessions
  pub watching : WatchesWith session.serial [] old.watchers new.watchers
  pub same : new ≡ record old { sessions = new.sessions; watchers = new.watchers }

-- The session is closed: it has no monitors, none of its transactions wait, and it is in no lock's queue. The new owners of
-- its locks are notified.
pub record ClosesSession {K : Type 0} (session : ℕ) (old new : Live K) : Type 0 where
  pub same : new ≡ record old {
    sessions = record old.sessions { open_sessions = without_serial session old.sessions.open_sessions };
    watchers = new.watchers;
    waiting = record old.waiting { outstanding = of_others session old.waiting.outstanding };
    outbox = new.outbox;
  }
  pub watching : WatchesWith session [] old.watchers new.watchers
  pub queues : new.outbox.queues ≡ leave session old.outbox.queues
  pub posts : PostsSent (told (told_of_leaving session old.outbox.queues)) old.outbox.frames new.outbox.frames
  -- its frame queue is dropped if no frame waits in it
  pub forgotten : waiting_for session old.outbox.frames ≡ [] → has_queue session new.outbox.frames ≡ false
