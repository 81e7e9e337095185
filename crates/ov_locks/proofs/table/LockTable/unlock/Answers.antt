use Rattle.std.proofs.Common.{◌≡◌, true, false, refl, sym, ap, ◌∙◌, arith}
use Rattle.std.specs.Prelude.{Ok}
use Rattle.ov_specs.specs.locks.Queues.{has_requested, next_owner}
use Rattle.ov_locks.specs.Freeing.{owner_notified}
use Rattle.ov_locks.proofs.Tables.{Freeing, TableValue, has-is, unlocks-table}
use Rattle.ov_locks.proofs.table.LockTable.unlock.Goals as goal

pub returns-then-not-has-clause-answer : goal.returns-then-not-has-clause-answer
returns-then-not-has-clause-answer c =
    let name = c.args.name.now in
    let session = c.args.session in
    let has : has_requested session name c.args.self.now.0 ≡ false =
    sym (has-is name session c.self.inside.queues c.self.inside.held c.self.invariant.0 c.self.invariant.1 ∙ ap (λ (t : TableValue). has_requested session name t.0) c.self.view_is) ∙ sym c.has.ensures ∙ c.if-not-has.true in
    rw has refl

pub invariant_of-self : goal.invariant_of-self
invariant_of-self c =
    let t =
    unlocks-table c.args.name.now c.args.session c.self.inside.queues c.self.inside.held c.self.invariant.0 c.self.invariant.1 c.take_back.new.held c.unlock.new.self c.take_back.ensures.names c.unlock.ensures.queues in
    let fewer = c.take_back.ensures.requests (sym c.has.ensures ∙ c.if-not-has.false) in
    let back = ap (λ (f : Freeing). f.1) c.take_back.ensures.places in
    (t.0, t.1, omega (arith, fewer, back, c.self.invariant.2))

pub returns-clause-answer : goal.returns-clause-answer
returns-clause-answer c =
    let name = c.args.name.now in
    let session = c.args.session in
    let has : has_requested session name c.args.self.now.0 ≡ true =
    sym (has-is name session c.self.inside.queues c.self.inside.held c.self.invariant.0 c.self.invariant.1 ∙ ap (λ (t : TableValue). has_requested session name t.0) c.self.view_is) ∙ sym c.has.ensures ∙ c.if-not-has.false in
    rw has (ap (λ o. Ok o) (c.unlock.ensures.told ∙ ap (λ (t : TableValue). owner_notified name (next_owner name session t.0)) c.self.view_is))
