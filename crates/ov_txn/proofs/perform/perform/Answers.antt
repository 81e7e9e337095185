use Rattle.std.proofs.Common.{◌≡◌, List, true, subst}
use Rattle.std.proofs.lemmas.Result.{IfOk-weaker}
use Rattle.std.specs.List.{list_all}
use Rattle.ov_specs.specs.schema.Schema.{IsAccepted}
use Rattle.ov_specs.specs.schema.SchemaTypes.{Schema}
use Rattle.ov_specs.specs.values.Uuid.{Uuid, is_uuid}
use Rattle.ov_txn.proofs.Suiting.{performed_suits, performed_whole}
use Rattle.ov_txn.proofs.perform.perform.Goals as goal

pub perform_operations-requires : goal.perform_operations-requires
perform_operations-requires g c = subst (λ (draws : List Uuid). list_all is_uuid draws ≡ true) c.draws.ensures c.are_uuids.ensures

pub returns-clause-suits : goal.returns-clause-suits
returns-clause-suits g c =
    let db = c.args.db.now in
    let are = subst (λ (draws : List Uuid). list_all is_uuid draws ≡ true) c.draws.ensures c.are_uuids.ensures in
    IfOk-weaker c.perform_operations.result _ _ (λ p h. performed_suits db.schema db.committed (g.O.Owns.owned c.args.owns.now) c.args.txn.now.draws c.args.age c.args.txn.now.operations p are c.shows_kept.ensures.committed_kept.suits h) c.perform_operations.ensures

pub returns-clause-whole : goal.returns-clause-whole
returns-clause-whole g c =
    let db = c.args.db.now in
    let accepted = subst (λ (schema : Schema). IsAccepted schema) c.schema.ensures c.shows_accepted.ensures in
    IfOk-weaker c.perform_operations.result _ _ (λ p h. performed_whole db.schema db.committed (g.O.Owns.owned c.args.owns.now) c.args.txn.now.draws c.args.age c.args.txn.now.operations p accepted c.shows_kept.ensures.committed_whole h) c.perform_operations.ensures
