use Rattle.std.proofs.Common.{◌≡◌, Bool}
use Rattle.ov_stored.specs.Changing.{applied}
use Rattle.ov_live.specs.Preparing.{PreparesMore, updates_to}
use Rattle.ov_live.specs.declared.replying.Replying.{Replying}
use Rattle.ov_live.proofs.replying.Replying.prepare_updates.Given as goal

abbrev pub invariant-loop-session : goal.invariant-loop-session
invariant-loop-session g l = record {
  same : l.self.audience ≡ l.fn.self.audience;
  goes_on : (ok : Bool) (new : Replying)
      → PreparesMore (updates_to l.db.committed (applied l.delta l.db.committed) l.fn.self.audience.watchers.now l.session-iterator) l.self ok new
      → PreparesMore (updates_to l.db.committed (applied l.delta l.db.committed) l.fn.self.audience.watchers.now l.initial.session-iterator) l.fn.self ok new;
}
