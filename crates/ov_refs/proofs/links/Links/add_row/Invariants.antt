use Rattle.std.proofs.Common.{◌≡◌}
use Rattle.ov_refs.specs.Linking.{with_targets}
use Rattle.ov_refs.proofs.links.Links.add_row.Given as goal

abbrev pub invariant-loop-target : goal.invariant-loop-target
invariant-loop-target l = with_targets l.key l.target-iterator.rest.items l.self ≡ with_targets l.key l.initial.target-iterator.rest.items l.fn.self
