use Rattle.std.proofs.Common.{sym, ap}
use Rattle.ov_specs.specs.rows.Database.{Database}
use Rattle.ov_stored.proofs.Places.{applied-none}
use Rattle.ov_db.proofs.db.Db.commit.Goals as goal

pub returns-then-is_empty-clause-commits : goal.returns-then-is_empty-clause-commits
returns-then-is_empty-clause-commits g c unsealed =
    let kept = c.args.self.now in
    ap (λ (d : Database). record { schema = kept.schema; committed = d; sealed = kept.sealed; keeper = kept.keeper }) (sym (applied-none c.args.delta kept.committed (sym c.if-is_empty.ensures)))
