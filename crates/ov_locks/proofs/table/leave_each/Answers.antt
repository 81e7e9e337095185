use Rattle.std.proofs.Common.{◌++◌, List, map, length, String, string_bytes, Global, sym, ap, subst, ◌∙◌, arith}
use Rattle.std.proofs.lemmas.List.{append-nil}
use Rattle.std.specs.Prelude.{option_to_list}
use Rattle.ov_specs.specs.locks.Queues.{unlock, next_owner, unlock_all, freed_all}
use Rattle.ov_locks.specs.Freeing.{owner_notified, owners_notified}
use Rattle.ov_locks.proofs.Tables.{Unlocking, IsLeft, left-next}
use Rattle.ov_locks.proofs.table.leave_each.Goals as goal

pub leave_one-requires : goal.leave_one-requires
leave_one-requires c =
    let first : Unlocking = record { names = map string_bytes c.into_iter-name-iterator.result; queues = c.args.queues.now; freeing = c.args.freed.now } in
    let left =
    subst (λ (it : List (String Global)). IsLeft c.args.session first (record { names = map string_bytes it; queues = c.loop-name.queues; freeing = c.loop-name.freed }))
    c.in-Some.ensures.steps c.loop-name.invariant in
    omega (arith, left.3)

pub loop-name-preserved : goal.loop-name-preserved
loop-name-preserved c =
    let session = c.args.session in
    let queues = c.loop-name.queues in
    let now = c.loop-name.freed in
    let first : Unlocking = record { names = map string_bytes c.into_iter-name-iterator.result; queues = c.args.queues.now; freeing = c.args.freed.now } in
    let left = subst (λ (it : List (String Global)). IsLeft session first (record { names = map string_bytes it; queues = queues; freeing = now })) c.in-Some.ensures.steps c.loop-name.invariant in
    left-next session first (string_bytes c.in-Some.name) (map string_bytes c.next.new.self) queues c.leave_one.new.queues now c.leave_one.new.freed left
    (c.leave_one.ensures.queues ∙ ap (λ n. unlock n session queues) c.as_str.ensures.value)
    (c.leave_one.ensures.freed ∙ ap (λ n. now.0 ++ option_to_list (owner_notified n (next_owner n session queues))) c.as_str.ensures.value)
    c.leave_one.ensures.places

pub returns-clause-queues : goal.returns-clause-queues
returns-clause-queues c =
    let first : Unlocking = record { names = map string_bytes c.into_iter-name-iterator.result; queues = c.args.queues.now; freeing = c.args.freed.now } in
    let left =
    subst (λ (it : List (String Global)). IsLeft c.args.session first (record { names = map string_bytes it; queues = c.loop-name.queues; freeing = c.loop-name.freed }))
    c.in-None.ensures.steps.0 c.loop-name.invariant in
    left.0 ∙ ap (λ (ks : List (String Global)). unlock_all c.args.session (map string_bytes ks) c.args.queues.now) c.into_iter-name-iterator.ensures.into_iter_gives.0

pub returns-clause-freed : goal.returns-clause-freed
returns-clause-freed c =
    let first : Unlocking = record { names = map string_bytes c.into_iter-name-iterator.result; queues = c.args.queues.now; freeing = c.args.freed.now } in
    let left =
    subst (λ (it : List (String Global)). IsLeft c.args.session first (record { names = map string_bytes it; queues = c.loop-name.queues; freeing = c.loop-name.freed }))
    c.in-None.ensures.steps.0 c.loop-name.invariant in
    sym (append-nil c.loop-name.freed.0) ∙ left.1
    ∙ ap (λ (ks : List (String Global)). c.args.freed.now.0 ++ owners_notified (freed_all c.args.session (map string_bytes ks) c.args.queues.now)) c.into_iter-name-iterator.ensures.into_iter_gives.0

pub returns-clause-places : goal.returns-clause-places
returns-clause-places c =
    let first : Unlocking = record { names = map string_bytes c.into_iter-name-iterator.result; queues = c.args.queues.now; freeing = c.args.freed.now } in
    let left =
    subst (λ (it : List (String Global)). IsLeft c.args.session first (record { names = map string_bytes it; queues = c.loop-name.queues; freeing = c.loop-name.freed }))
    c.in-None.ensures.steps.0 c.loop-name.invariant in
    omega (arith, left.2, ap (λ (ks : List (String Global)). length (map string_bytes ks)) c.into_iter-name-iterator.ensures.into_iter_gives.0)
