use Rattle.std.proofs.Common.{◌≡◌, drop}
use Rattle.ov_atoms.specs.Views.{atom_view, pairs_view}
use Rattle.ov_conds.specs.Walks as walks
use Rattle.ov_conds.proofs.walk.pairs_from.Given as goal

abbrev pub invariant-loop-i : goal.invariant-loop-i
invariant-loop-i l = walks.pairs_from (atom_view l.key) (pairs_view l.pairs) ≡ walks.pairs_from (atom_view l.key) (pairs_view (drop l.i l.pairs))
