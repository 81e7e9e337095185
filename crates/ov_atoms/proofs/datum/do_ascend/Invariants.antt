use Rattle.std.proofs.Common.{◌≡◌, ◌-◌, drop}
use Rattle.std.specs.FinMap.{is_sorted}
use Rattle.ov_specs.specs.values.Value.{atom_cmp}
use Rattle.ov_atoms.specs.Views.{pairs_view}
use Rattle.ov_atoms.proofs.datum.do_ascend.Given as goal

abbrev pub invariant-loop-at : goal.invariant-loop-at
invariant-loop-at l = is_sorted atom_cmp (pairs_view l.pairs) ≡ is_sorted atom_cmp (pairs_view (drop (l.at - 1) l.pairs))
