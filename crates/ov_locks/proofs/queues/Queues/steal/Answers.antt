use Rattle.std.proofs.Common.{Some, None, subst, sym, ap, ◌∙◌, option_map, String, Global}
use Rattle.std.specs.BTreeMap.{BTreeMap, insert_entry}
use Rattle.ov_specs.specs.locks.Queues.{Queues, owner, steal, stolen_notification}
use Rattle.ov_specs.specs.wire.Frame.{frame}
use Rattle.ov_locks.specs.Queued.{Queue, queues_of, AllAreTold}
use Rattle.ov_locks.proofs.Given.{on_err}
use Rattle.ov_locks.proofs.Named.{text_order}
use Rattle.ov_locks.proofs.Calls.{owner-found, first-steals, first-told, same-told, same-queues, stolen-told, steals-steals}
use Rattle.ov_locks.proofs.queues.Queues.steal.Goals as goal

pub invariant_of-self : goal.invariant_of-self
invariant_of-self c =
    subst AllAreTold (sym (c.get_mut.follows.holds c.steal.new.self).0)
    (same-told c.args.name.now c.args.session c.self.inside.of.entries c.in-Some.queue.now c.in-Some.ensures.value c.self.invariant c.steal.new.self c.in_err-told-in-Some.ensures.err)

pub returns-in_err-told-in-Some-clause-err : goal.returns-in_err-told-in-Some-clause-err
returns-in_err-told-in-Some-clause-err c = on_err _ _
    (ap queues_of (c.get_mut.follows.holds c.steal.new.self).0
    ∙ same-queues c.args.name.now c.args.session c.self.inside.of.entries c.in-Some.queue.now c.in-Some.ensures.value c.steal.new.self c.in_err-told-in-Some.ensures.err ∙ c.self.view_is)

pub invariant_of-self-in-Some : goal.invariant_of-self-in-Some
invariant_of-self-in-Some c =
    subst AllAreTold (sym (c.get_mut.follows.holds c.steal.new.self).0)
    (stolen-told c.args.name.now c.args.session c.self.inside.of.entries c.in-Some.queue.now c.in-Some.ensures.value c.self.invariant c.steal.new.self c.in_ok-told-in-Some.ensures.ok)

pub invariant_of-self-in-None : goal.invariant_of-self-in-None
invariant_of-self-in-None c =
    let k = c.in_ok-name-in-None.name in
    let q = c.new.result in
    subst AllAreTold (sym (c.in_ok-insert-in-None.ensures.entries ∙ ap (λ (m : BTreeMap (String Global) Queue). insert_entry text_order m.entries k q) c.get_mut.follows.holds-at-none))
    (first-told c.args.name.now c.args.session c.self.inside.of.entries k q c.in_ok-name-in-None.ensures.ok c.new.ensures c.self.invariant)

pub returns-in_ok-told-in-Some-clause-told : goal.returns-in_ok-told-in-Some-clause-told
returns-in_ok-told-in-Some-clause-told c =
    let name = c.args.name.now in
    ap (λ p. Some p) c.in_ok-told-in-Some.ensures.told
    ∙ ap (option_map (λ s. (s, frame (stolen_notification name))))
    (sym (owner-found name c.self.inside.of.entries (Some c.in-Some.queue.now) c.in-Some.ensures.value) ∙ ap (λ (qs : Queues). owner name qs) c.self.view_is)

pub returns-in_ok-told-in-Some-clause-ok : goal.returns-in_ok-told-in-Some-clause-ok
returns-in_ok-told-in-Some-clause-ok c =
    ap queues_of (c.get_mut.follows.holds c.steal.new.self).0
    ∙ steals-steals c.args.name.now c.args.session c.self.inside.of.entries c.in-Some.queue.now c.in-Some.ensures.value c.get_mut.ensures.ordered c.steal.new.self c.in_ok-told-in-Some.ensures.ok
    ∙ ap (λ (qs : Queues). steal c.args.name.now c.args.session qs) c.self.view_is

pub returns-in_ok-insert-in-None-clause-told : goal.returns-in_ok-insert-in-None-clause-told
returns-in_ok-insert-in-None-clause-told c =
    let name = c.args.name.now in
    ap (option_map (λ s. (s, frame (stolen_notification name))))
    (sym (owner-found name c.self.inside.of.entries None c.in-None.ensures.value) ∙ ap (λ (qs : Queues). owner name qs) c.self.view_is)

pub returns-in_ok-insert-in-None-clause-ok : goal.returns-in_ok-insert-in-None-clause-ok
returns-in_ok-insert-in-None-clause-ok c =
    let k = c.in_ok-name-in-None.name in
    let q = c.new.result in
    ap queues_of (c.in_ok-insert-in-None.ensures.entries ∙ ap (λ (m : BTreeMap (String Global) Queue). insert_entry text_order m.entries k q) c.get_mut.follows.holds-at-none)
    ∙ first-steals c.args.name.now c.args.session c.self.inside.of.entries k q c.in_ok-name-in-None.ensures.ok c.new.ensures c.in-None.ensures.value
    ∙ ap (λ (qs : Queues). steal c.args.name.now c.args.session qs) c.self.view_is
