use Rattle.std.proofs.Common.{◌≡◌}
use Rattle.ov_refs.specs.Whole.{is_held, past}
use Rattle.ov_refs.proofs.whole.is_held.Given as goal

abbrev pub invariant-loop-id : goal.invariant-loop-id
invariant-loop-id l = record {
  can_next : (goal.iterator-loop-id).can_next l.holders;
  is_finite : (goal.iterator-loop-id).is_finite l.holders;
  held : is_held l.key l.holders ≡ is_held l.key l.fn.holders;
  past : past l.key.1 l.holders ≡ past l.key.1 l.fn.holders;
}
