use Rattle.std.proofs.Common.{◌≡◌, ◌∷◌, drop, true}
use Rattle.std.specs.List.{list_all}
use Rattle.serde_json.specs.View.{items_view}
use Rattle.ov_ops.specs.Outcomes.{context_of}
use Rattle.ov_specs.specs.operations.Transaction as spec
use Rattle.ov_specs.specs.rows.Suits.{Suits}
use Rattle.ov_specs.specs.values.Uuid.{is_uuid}
use Rattle.ov_txn.specs.Results.{prefixed}
use Rattle.ov_txn.proofs.perform.perform_operations.Given as goal

abbrev pub invariant-loop-place : goal.invariant-loop-place
invariant-loop-place g l = record {
  going : spec.transaction l.schema l.db.committed (g.O.Owns.owned l.owns) l.txn.draws l.age l.txn.operations
      ≡ prefixed l.results (spec.performed (context_of g.O.Owns.owned l.ctx l.db.committed) l.place (items_view (drop l.place l.operations)) l.stage.now);
  before : l.stage.before ≡ l.db.committed;
  drawn : list_all is_uuid (l.ctx.version ∷ l.ctx.inserts.now.ids) ≡ true;
  suits : Suits l.schema l.stage.now;
}
