-- The state of a core as a state of the machine.
use Rattle.std.specs.Prelude.{ℕ, List, map}
use Rattle.std.specs.List.{filter}
use Rattle.ov_watch.specs.Watching.{Watching, monitors_at}
use Rattle.ov_sessions.specs.declared.session.Session.{Session}
use Rattle.ov_specs.specs.machine.Machine as machine
use Rattle.ov_specs.specs.machine.Machine.{State}
use Rattle.ov_live.specs.declared.live.Live.{Live}

-- the open sessions as those of the machine, which have no keys, each with its monitors
abbrev pub machine_sessions : Watching → List Session → List machine.Session
machine_sessions watching sessions = map (λ n. record { serial = n.serial; monitors = monitors_at n.serial watching }) sessions

-- those of the sessions that are open in a state
abbrev pub still_open : State → List Session → List Session
still_open s sessions = filter (λ n. machine.is_open s n.serial) sessions

-- the state of the live part, at a moment
abbrev pub machine_state : {K : Type 0} → Live K → ℕ → State
machine_state live moment =
    record {
      schema = live.database.schema;
      database = live.database.committed;
      sealed = live.database.sealed;
      sessions = machine_sessions live.watchers live.sessions.open_sessions;
      queues = live.outbox.queues;
      outstanding = live.waiting.outstanding;
      next = live.sessions.next;
      moment = moment;
    }
