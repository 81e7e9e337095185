use Rattle.std.proofs.Common.{◌∙◌, sym}
use Rattle.ov_specs.specs.operations.Transaction.{transaction}
use Rattle.ov_txn.proofs.Storing.{not_sealed, stores}
use Rattle.ov_txn.proofs.tried.attempt.Goals as goal

pub store-requires-clause-suits : goal.store-requires-clause-suits
store-requires-clause-suits g c = rw c.in-Ok-Completed.field-0-is at c.in-Ok-Completed.ensures.suits

pub store-requires-clause-whole : goal.store-requires-clause-whole
store-requires-clause-whole g c = rw c.in-Ok-Completed.field-0-is at c.in-Ok-Completed.ensures.whole

pub returns-else-sealed-clause-tried : goal.returns-else-sealed-clause-tried
returns-else-sealed-clause-tried g c =
    let db = c.args.db.now in
    let performed = rw c.in-Ok-Completed.field-0-is at c.in-Ok-Completed.ensures.performed in
    stores g.R.Ready.readies (transaction db.schema db.committed (g.O.Owns.owned c.args.owns.now) c.args.txn.now.draws c.args.age c.args.txn.now.operations) (record { database = db; ready = c.args.ready.now }) c.in-Ok-Completed.results c.in-Ok-Completed.delta
    (record { database = c.store.new.db; ready = c.store.new.ready }) performed.0 (sym performed.1 ∙ sym c.if-is_empty.ensures) (not_sealed db.sealed (sym c.if-sealed.ensures)) c.store.result c.store.ensures.asked
