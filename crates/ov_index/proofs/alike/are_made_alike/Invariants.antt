use Rattle.std.proofs.Common.{◌≡◌, string_bytes}
use Rattle.std.specs.FinMap.{entries}
use Rattle.std.specs.List.{list_any}
use Rattle.ov_index.specs.Collecting.{is_shared}
use Rattle.ov_index.specs.Nested.{key_in_table}
use Rattle.ov_index.proofs.alike.are_made_alike.Given as goal

abbrev pub invariant-loop-name : goal.invariant-loop-name
invariant-loop-name l =
    list_any (λ m. list_any (λ e. is_shared l.indexes l.changes.entries (key_in_table (string_bytes m.0) e.0, e.1)) (entries m.1)) l.name-iterator
    ≡ list_any (λ m. list_any (λ e. is_shared l.indexes l.changes.entries (key_in_table (string_bytes m.0) e.0, e.1)) (entries m.1)) l.initial.name-iterator
