use Rattle.std.proofs.Common.{◌≡◌}
use Rattle.ov_rows.specs.Nested.{in_table}
use Rattle.ov_refs.specs.Linking.{with_targets_of_rows}
use Rattle.ov_refs.proofs.links.Links.add_table.Given as goal

abbrev pub invariant-loop-id : goal.invariant-loop-id
invariant-loop-id l = with_targets_of_rows l.schema (in_table l.name l.id-iterator) l.self ≡ with_targets_of_rows l.schema (in_table l.name l.initial.id-iterator) l.fn.self
