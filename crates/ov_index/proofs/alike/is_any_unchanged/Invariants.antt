use Rattle.std.proofs.Common.{◌≡◌, not, drop}
use Rattle.std.specs.FinMap.{contains_key, from_sorted}
use Rattle.std.specs.List.{list_any}
use Rattle.ov_specs.specs.rows.Lines.{line_cmp}
use Rattle.ov_index.proofs.alike.is_any_unchanged.Given as goal

abbrev pub invariant-loop-id : goal.invariant-loop-id
invariant-loop-id l =
    list_any (λ id. not (contains_key (from_sorted {R = line_cmp} l.changes.entries) (l.table, id))) l.ids
    ≡ list_any (λ id. not (contains_key (from_sorted {R = line_cmp} l.changes.entries) (l.table, id))) (drop l.id-index l.ids)
