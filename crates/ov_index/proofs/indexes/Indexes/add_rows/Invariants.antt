use Rattle.std.proofs.Common.{◌≡◌}
use Rattle.ov_rows.specs.Nested.{in_table}
use Rattle.ov_index.specs.Collecting.{with_entries_of_rows}
use Rattle.ov_index.proofs.indexes.Indexes.add_rows.Given as goal

abbrev pub invariant-loop-id : goal.invariant-loop-id
invariant-loop-id l = with_entries_of_rows l.schema (in_table l.name l.id-iterator) l.self ≡ with_entries_of_rows l.schema (in_table l.name l.initial.id-iterator) l.fn.self
