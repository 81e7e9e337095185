use Rattle.sqlite.specs.Held.{state}
use Rattle.ov_tables.proofs.KeepLemmas.{prepared_keeps}
use Rattle.ov_tables.proofs.ReadLemmas.{prepared_as_before}
use Rattle.ov_sqlite.proofs.write.probe.Goals as goal

pub returns-clause-unmoved : goal.returns-clause-unmoved
returns-clause-unmoved g c clean =
    prepared_keeps (λ s. _) (state g.S.Store c.args.conn.now) (state g.S.Store c.prepare.new.self) _ c.prepare.result (c.prepare.ensures.ok clean) (c.prepare.ensures.err clean)

pub returns-clause-same : goal.returns-clause-same
returns-clause-same g c clean =
    prepared_as_before (λ s. _) (state g.S.Store c.args.conn.now) (state g.S.Store c.prepare.new.self) _ c.prepare.result (c.prepare.ensures.ok clean) (c.prepare.ensures.err clean)
    (c.is_autocommit.ensures.settled c.if-not-is_autocommit.false)
