use Rattle.std.proofs.Common.{rules, sym, ◌∙◌}
use Rattle.ov_schema.proofs.NamedLemmas.{find-here, find-later}
use Rattle.ov_schema.proofs.named.find_named.Goals as goal

pub returns-then-eq : goal.returns-then-eq
returns-then-eq g c = sym (c.loop-known.invariant ∙ find-here c.args.name.now c.args.named.now c.loop-known.known-index _ c.loop-known-test.true c.loop-known-item.is (search rules))

pub loop-known-preserved : goal.loop-known-preserved
loop-known-preserved g c = c.loop-known.invariant ∙ find-later c.args.name.now c.args.named.now c.loop-known.known-index _ c.loop-known-test.true c.loop-known-item.is (search rules)
