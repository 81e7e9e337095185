use Rattle.std.proofs.Common.{Some, ap, rules}
use Rattle.ov_specs.specs.monitors.Monitors.{canceled}
use Rattle.ov_watch.proofs.Watched.{monitors_in, watched_after, kept_watched, as_given}
use Rattle.ov_watch.proofs.watchers.Watchers.cancel.Goals as goal

pub returns-in-Some : goal.returns-in-Some
returns-in-Some c =
    let m = c.self.inside.monitors in
    let n = c.get_mut.follows.lender c.cancel.new.self in
    let written = c.get_mut.follows.holds c.cancel.new.self in
    rw (← c.self.view_is) (as_given c.args.session (λ monitors. canceled monitors c.args.id.now) c.cancel.result c.in-Some.monitors.now c.cancel.new.self m.entries n.entries
    (ap monitors_in c.in-Some.ensures.value) c.cancel.ensures.canceled
    (kept_watched c.args.session c.cancel.result m n c.in-Some.monitors.now c.cancel.new.self c.in-Some.ensures.value written.0 c.cancel.ensures.err)
    (watched_after m n c.args.session (Some c.cancel.new.self) (written.3 (search rules)).0))
