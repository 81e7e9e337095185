use Rattle.std.proofs.Common.{◌≡◌, ◌++◌, ◌∷◌, [], Bool, true, false, not, sym, ap, ◌∙◌}
use Rattle.ov_index.proofs.Placed.{added-one, same-one, same-again}
use Rattle.ov_index.proofs.indexes.Indexes.add_new.Goals as goal

from_not : (a b : Bool) → a ≡ not b → not a ≡ b
from_not a true e = ap not e
from_not a false e = ap not e

pub returns-then-branch-clause-back : goal.returns-then-branch-clause-back
returns-then-branch-clause-back c =
    same-one c.args.entry c.args.self.now c.args.added.now.items c.push_reserved.new.self.items c.add.new.self
    (ap not (sym c.if-branch.true) ∙ from_not _ _ c.in_ok-add.ensures.is_new)
    c.in_ok-add.ensures.ok
    (c.push_reserved.ensures.items ∙ (λ i. c.in_ok-reserve.ensures.items i ++ c.in_ok-listed.ensures i ∷ []))

pub returns-then-branch-clause-on : goal.returns-then-branch-clause-on
returns-then-branch-clause-on c =
    added-one c.args.entry c.args.self.now c.add.new.self c.in_ok-add.ensures.ok

pub returns-else-branch-clause-back : goal.returns-else-branch-clause-back
returns-else-branch-clause-back c =
    same-again c.args.entry c.args.self.now c.args.added.now.items c.reserve.new.self.items c.add.new.self
    (ap not (sym c.if-branch.false) ∙ from_not _ _ c.in_ok-add.ensures.is_new)
    c.in_ok-add.ensures.ok
    c.in_ok-reserve.ensures.items

pub returns-else-branch-clause-on : goal.returns-else-branch-clause-on
returns-else-branch-clause-on c =
    added-one c.args.entry c.args.self.now c.add.new.self c.in_ok-add.ensures.ok
