use Rattle.std.proofs.Common.{◌+◌, ◌-◌, arith, sym, ◌∙◌}
use Rattle.ov_atoms.proofs.Ascending.{ascend-from, ascend-end}
use Rattle.ov_atoms.proofs.datum.do_ascend.Goals as goal

pub loop-at-preserved : goal.loop-at-preserved
loop-at-preserved c =
    c.loop-at.invariant
    ∙ ascend-from c.args.pairs.now (c.loop-at.at - 1) c.loop-at.at (c.loop-at.at + 1 - 1) c.index-pairs-at.result c.index-pairs-at-in-loop-at.result
    (omega arith) (omega arith) (omega arith) (sym c.cmp.ensures ∙ c.in-Less.is)

pub returns : goal.returns
returns c = sym (c.loop-at.invariant ∙ ascend-end c.args.pairs.now (c.loop-at.at - 1) (omega arith))
