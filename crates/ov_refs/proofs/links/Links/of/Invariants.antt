use Rattle.std.proofs.Common.{◌≡◌}
use Rattle.ov_rows.specs.Named.{named}
use Rattle.ov_rows.specs.Nested.{all_rows}
use Rattle.ov_refs.specs.Linking.{with_targets_of_rows}
use Rattle.ov_refs.proofs.links.Links.of.Given as goal

abbrev pub invariant-loop-name : goal.invariant-loop-name
invariant-loop-name l = with_targets_of_rows l.schema (all_rows (named l.name-iterator)) l.links ≡ with_targets_of_rows l.schema (all_rows (named l.initial.name-iterator)) l.initial.links
