use Rattle.std.proofs.Common.{[], Some, Ok, sym, ap, ◌∙◌, rules}
use Rattle.serde_json.specs.View.{view}
use Rattle.ov_specs.specs.monitors.Monitors.{added}
use Rattle.ov_watch.proofs.Watched.{monitors_in, watched_after, kept_watched, as_given}
use Rattle.ov_watch.proofs.watchers.Watchers.add.Goals as goal

pub returns-in-Some : goal.returns-in-Some
returns-in-Some c =
    let m = c.self.inside.monitors in
    let n = c.get_mut.follows.lender c.add.new.self in
    let written = c.get_mut.follows.holds c.add.new.self in
    rw (← c.self.view_is) (as_given c.args.session (λ monitors. added c.args.schema.now monitors c.args.id (view c.args.requests.now)) c.add.result c.in-Some.monitors.now c.add.new.self m.entries n.entries
    (ap monitors_in c.in-Some.ensures.value) c.add.ensures.added
    (kept_watched c.args.session c.add.result m n c.in-Some.monitors.now c.add.new.self c.in-Some.ensures.value written.0 c.add.ensures.err)
    (watched_after m n c.args.session (Some c.add.new.self) (written.3 (search rules)).0))

pub returns-in-Ok : goal.returns-in-Ok
returns-in-Ok c =
    let m = c.self.inside.monitors in
    let n = c.insert.new.self in
    let h = rw c.get_mut.follows.holds-at-none at c.in-Ok.ensures.updates.0 in
    rw (← c.self.view_is) (as_given c.args.session (λ monitors. added c.args.schema.now monitors c.args.id (view c.args.requests.now)) (Ok tt) [] c.add-2.new.self m.entries n.entries
    (ap monitors_in c.in_default.ensures.value) (ap (λ monitors. added c.args.schema.now monitors c.args.id (view c.args.requests.now)) (sym c.new-monitors.ensures) ∙ c.in_default-add.ensures.added) tt
    (watched_after m n c.args.session (Some c.add-2.new.self) h))
