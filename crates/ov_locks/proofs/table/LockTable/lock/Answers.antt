use Rattle.std.proofs.Common.{◌+◌, length, Bool, sym, ap, subst, ◌∙◌, arith}
use Rattle.std.proofs.lemmas.Result.{err_from_is_err_and}
use Rattle.std.specs.BTreeMap.{is_at}
use Rattle.std.specs.List.{list_any}
use Rattle.std.specs.Prelude.{Ok, Err}
use Rattle.ov_specs.specs.schema.SchemaTypes.{name_cmp}
use Rattle.ov_locks.specs.Held.{names_asked}
use Rattle.ov_locks.specs.Refusing.{RefusesFor, request_refusal}
use Rattle.ov_locks.proofs.Tables.{Freeing, TableValue, refusal-is, locks-table, same-table, added-is, was-absent, goes-on, memory-later, same-fault}
use Rattle.ov_locks.proofs.table.LockTable.lock.Goals as goal

pub returns-in_err-request-clause-refused : goal.returns-in_err-request-clause-refused
returns-in_err-request-clause-refused c =
    let name = c.args.name.now in
    let session = c.args.session in
    let p = err_from_is_err_and c.from_residual.result c.from_residual.ensures.1 in
    let is = refusal-is name session c.self.inside.queues c.self.inside.held c.self.invariant.0 c.self.invariant.1 ∙ ap (λ (t : TableValue). request_refusal name session t.0) c.self.view_is in
    rw (p.1, p.2) (same-fault (Unit {0}) Bool (request_refusal name session c.args.self.now.0) c.in_err-request.field-0.0
    (subst (λ o. RefusesFor {A = Unit {0}} o (Err c.in_err-request.field-0.0)) is c.in_err-request.ensures.refused))

pub invariant_of-self-in-Ok : goal.invariant_of-self-in-Ok
invariant_of-self-in-Ok c =
    let t =
    locks-table c.args.name.now c.args.session c.self.inside.queues c.self.inside.held c.self.invariant.0 c.self.invariant.1 c.request.new.held c.lock.new.self c.in_ok-request.ensures.names c.in-Ok.ensures.ok in
    (t.0, t.1, ap (λ (f : Freeing). f.1) c.in_ok-request.ensures.places.1 ∙ ap (λ n. n + 1) c.self.invariant.2 ∙ sym c.in_ok-request.ensures.places.0)

pub invariant_of-self-in-Err : goal.invariant_of-self-in-Err
invariant_of-self-in-Err c =
    let name = c.args.name.now in
    let session = c.args.session in
    let held = c.self.inside.held in
    let absent = was-absent (Unit {0}) Bool (list_any (is_at (name_cmp name)) (names_asked session held)) (length (names_asked session held)) c.in_ok-request.field-0 c.in_ok-request.ensures.refused in
    let t =
    same-table name session c.self.inside.queues held c.self.invariant.0 c.self.invariant.1 c.request.new.held c.take_back.new.held c.lock.new.self absent c.in_ok-request.ensures.names c.take_back.ensures.names c.in-Err.ensures.err in
    let fewer = c.take_back.ensures.requests (added-is name session held c.request.new.held c.in_ok-request.ensures.names) in
    let kept = ap (λ (f : Freeing). f.1) c.in_ok-request.ensures.places.1 in
    let back = ap (λ (f : Freeing). f.1) c.take_back.ensures.places in
    (t.0, t.1, omega (arith, fewer, kept, back, c.self.invariant.2, c.in_ok-request.ensures.places.0))

pub returns-in-Ok-clause-refused : goal.returns-in-Ok-clause-refused
returns-in-Ok-clause-refused c =
    let name = c.args.name.now in
    let session = c.args.session in
    let is = refusal-is name session c.self.inside.queues c.self.inside.held c.self.invariant.0 c.self.invariant.1 ∙ ap (λ (t : TableValue). request_refusal name session t.0) c.self.view_is in
    goes-on (Unit {0}) Bool (request_refusal name session c.args.self.now.0) c.in_ok-request.field-0 c.in-Ok.is_first
    (subst (λ o. RefusesFor {A = Unit {0}} o (Ok c.in_ok-request.field-0)) is c.in_ok-request.ensures.refused)

pub returns-in-Err-clause-refused : goal.returns-in-Err-clause-refused
returns-in-Err-clause-refused c =
    let name = c.args.name.now in
    let session = c.args.session in
    let is = refusal-is name session c.self.inside.queues c.self.inside.held c.self.invariant.0 c.self.invariant.1 ∙ ap (λ (t : TableValue). request_refusal name session t.0) c.self.view_is in
    memory-later (Unit {0}) Bool (request_refusal name session c.args.self.now.0) c.in_ok-request.field-0
    (subst (λ o. RefusesFor {A = Unit {0}} o (Ok c.in_ok-request.field-0)) is c.in_ok-request.ensures.refused)
