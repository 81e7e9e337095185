use Rattle.std.proofs.Common.{◌++◌, length, sym, ap, ◌∙◌, arith}
use Rattle.std.proofs.lemmas.List.{append-nil}
use Rattle.ov_specs.specs.locks.Queues.{unlock_all, freed_all, leave, freed}
use Rattle.ov_locks.specs.Freeing.{owners_notified}
use Rattle.ov_locks.proofs.Tables.{TableValue, leaves-table}
use Rattle.ov_locks.proofs.table.LockTable.leave_all.Goals as goal

pub invariant_of-self : goal.invariant_of-self
invariant_of-self c =
    let session = c.args.session in
    let queues = c.self.inside.queues in
    let names = c.in-Some.ensures.names ∙ c.self.invariant.1 session in
    let t =
    leaves-table session queues c.self.inside.held c.take.new.self c.leave_each.new.queues c.self.invariant.0 c.self.invariant.1 c.in-Some.ensures.others
    (c.leave_each.ensures.queues ∙ ap (λ ns. unlock_all session ns queues) names) in
    (t.0, t.1, omega (arith, c.leave_each.ensures.places, c.in-Some.ensures.count, c.self.invariant.2, ap length c.in-Some.ensures.names))

pub returns-in-Some : goal.returns-in-Some
returns-in-Some c =
    let session = c.args.session in
    let queues = c.self.inside.queues in
    let names = c.in-Some.ensures.names ∙ c.self.invariant.1 session in
    let left = c.leave_each.ensures.queues ∙ ap (λ ns. unlock_all session ns queues) names in
    let told = c.leave_each.ensures.freed ∙ ap (λ ns. c.self.inside.freed.0 ++ owners_notified (freed_all session ns queues)) names in
    (λ i. (left i, told i)) ∙ ap (λ (t : TableValue). (leave session t.0, t.1 ++ owners_notified (freed session t.0))) c.self.view_is

pub returns-in_default : goal.returns-in_default
returns-in_default c =
    let session = c.args.session in
    let queues = c.self.inside.queues in
    let names = c.in_default.ensures.names ∙ c.self.invariant.1 session in
    let left = ap (λ ns. unlock_all session ns queues) names in
    let told = sym (append-nil c.self.inside.freed.0) ∙ ap (λ ns. c.self.inside.freed.0 ++ owners_notified (freed_all session ns queues)) names in
    (λ i. (left i, told i)) ∙ ap (λ (t : TableValue). (leave session t.0, t.1 ++ owners_notified (freed session t.0))) c.self.view_is
